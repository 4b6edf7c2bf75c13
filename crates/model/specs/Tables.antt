-- The strongest ways as tables, one entry a node: what such a table must be, whatever work leads there, and one work that computes it. Assumes nothing.
use Rattle.std.specs.Prelude.{ℕ, zero, suc, min, ◌*◌, ◌≤◌, ◌<◌, ◌≡◌, ◌⊎◌, Bool, true, false, not, cond, ◌&&◌, ◌||◌, List, [], set, eqb, ltb, leb}
use Rattle.model.specs.Places.{tab, at, same}
use Rattle.model.specs.Net.{Stand, agreed}
use Rattle.model.specs.Ways.{Frame, Inside, Joins, Way, choose}

-- the strength k came to a node: it began there, or came to the other end of a transistor, up to its ceiling and no less than `low`
pub data Came (F : Frame) (ok : ℕ → Bool) (low start : ℕ → ℕ) : ℕ → ℕ → Type 0 where
  began : (v : ℕ) → v < F.size → Came F ok low start v (start v)
  over : {w k : ℕ} → Came F ok low start w k → (t v : ℕ) → Inside F v → Joins F t v w → ok t ≡ true → low v ≤ min k (F.ceiling t) → Came F ok low start v (min k (F.ceiling t))

-- x is the least table above `start` that no transistor can lift: each of its entries came
pub record Least (F : Frame) (ok : ℕ → Bool) (low start x : ℕ → ℕ) : Type 0 where
  pub above : (v : ℕ) → v < F.size → start v ≤ x v
  pub closed_under : (t v w : ℕ) → Inside F v → w < F.size → Joins F t v w → ok t ≡ true → low v ≤ min (x w) (F.ceiling t) → min (x w) (F.ceiling t) ≤ x v
  pub comes : (v : ℕ) → v < F.size → Came F ok low start v (x v)

-- the sources that `from` marks, each with its own strength where that is no less than `low`
abbrev pub starts : Frame → (ℕ → Bool) → (ℕ → ℕ) → ℕ → ℕ
starts F from low v = cond (from v && (F.input v || leb (low v) (F.own v))) (F.own v) 0

-- the three tables of a step: the strongest definite ways, and the strongest unblocked ways from sources that are not 0, and not 1
pub record StepTables (F : Frame) (how : ℕ → Stand) (val d p₀ p₁ : ℕ → ℕ) : Type 0 where
  pub definitely : Least F (λ t. choose (how t) false) (λ v. 0) F.own d
  pub against0 : Least F (λ t. choose (how t) true) d (starts F (λ v. not (eqb (val v) 0)) d) p₀
  pub against1 : Least F (λ t. choose (how t) true) d (starts F (λ v. not (eqb (val v) 1)) d) p₁

-- what they say of a node that is no input
abbrev pub by_tables : (ℕ → ℕ) → (ℕ → ℕ) → ℕ → ℕ
by_tables p₀ p₁ v = cond (eqb (p₀ v) 0) 0 (cond (eqb (p₁ v) 0) 1 2)

-- x holds the strengths of the strongest ways from the sources that `from` marks, over the transistors that `ok` marks, nowhere below `low`
pub record Strongest (F : Frame) (from ok : ℕ → Bool) (low x : ℕ → ℕ) : Type 0 where
  pub has : (v : ℕ) → v < F.size → from v ≡ true → (F.input v ≡ false → low v ≤ F.own v) → F.own v ≤ x v
  pub closed_under : (t v w : ℕ) → Inside F v → w < F.size → Joins F t v w → ok t ≡ true → low v ≤ min (x w) (F.ceiling t) → min (x w) (F.ceiling t) ≤ x v
  pub comes : (v : ℕ) → v < F.size → (x v ≡ 0) ⊎ ((u : ℕ) × (from u ≡ true) × Way F (λ t. ok t ≡ true) (λ y j. low y ≤ j) u v (x v))

-- one work that computes it: strengths pass along transistors until nothing rises.
-- The node a takes over what b has, up to the ceiling: a is no input, has less, and no more is asked there
unfoldable pub raises : (ℕ → Bool) → List ℕ → ℕ → ℕ → ℕ → List ℕ → Bool
raises input low ceiling a b x = not (input a) && (ltb (at x a) (min (at x b) ceiling) && leb (at low a) (min (at x b) ceiling))

unfoldable pub raise : (ℕ → Bool) → List ℕ → ℕ → ℕ → ℕ → List ℕ → List ℕ
raise input low ceiling a b x = cond (raises input low ceiling a b x) (set x a (min (at x b) ceiling)) x

-- both ways along the transistor t, where it lets pass
unfoldable pub relax : Frame → (ℕ → Bool) → List ℕ → ℕ → List ℕ → List ℕ
relax F ok low t x =
    cond (ok t) (raise F.input low (F.ceiling t) (F.right t) (F.left t) (raise F.input low (F.ceiling t) (F.left t) (F.right t) x)) x

-- along the transistors below t, in order
abbrev pub sweep_to : Frame → (ℕ → Bool) → List ℕ → ℕ → List ℕ → List ℕ
sweep_to F ok low zero x = x
sweep_to F ok low (suc t) x = relax F ok low t (sweep_to F ok low t x)

unfoldable pub sweep : Frame → (ℕ → Bool) → List ℕ → List ℕ → List ℕ
sweep F ok low x = sweep_to F ok low F.links x

-- f, over and over, n times at most, until nothing changes
abbrev pub until : ℕ → (List ℕ → List ℕ) → List ℕ → List ℕ
until zero f x = x
until (suc n) f x =
    let y = f x in
    elim (same y x) [ true ↦ x | false ↦ until n f y ]

-- an entry rises at most `top` times
unfoldable pub strongest : Frame → (ℕ → Bool) → (ℕ → Bool) → List ℕ → List ℕ
strongest F from ok low = until (F.top * F.size) (sweep F ok low) (tab F.size (starts F from (at low)))

unfoldable pub definite : Frame → (ℕ → Stand) → List ℕ
definite F how = strongest F (λ v. true) (λ t. choose (how t) false) []

-- the strongest unblocked way from a source that is not b
unfoldable pub against : Frame → (ℕ → Stand) → (ℕ → ℕ) → ℕ → List ℕ
against F how val b = strongest F (λ v. not (eqb (val v) b)) (λ t. choose (how t) true) (definite F how)

-- the new state of a node that is no input
unfoldable pub fresh : Frame → (ℕ → Stand) → (ℕ → ℕ) → ℕ → ℕ
fresh F how val v = agreed (λ b. eqb (at (against F how val b) v) 0)

-- one step: inputs keep their state
unfoldable pub step_by : Frame → (ℕ → Stand) → (ℕ → ℕ) → List ℕ → List ℕ
step_by F how val s =
    let d = definite F how in
    let e₀ = strongest F (λ v. not (eqb (val v) 0)) (λ t. choose (how t) true) d in
    let e₁ = strongest F (λ v. not (eqb (val v) 1)) (λ t. choose (how t) true) d in
    tab F.size (λ v. cond (F.input v) (at s v) (by_tables (at e₀) (at e₁) v))

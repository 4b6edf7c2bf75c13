-- What the changes enter, and the steps that follow until the state is settled: of any step f. Assumes nothing.
use Rattle.std.specs.Prelude.{ℕ, zero, suc, Bool, true, false, not, cond, List, [], ◌∷◌, length, set, eqb}
use Rattle.model.specs.Bounds.{default_limit}
use Rattle.model.specs.Places.{tab, at, same}

-- the change list: which nodes, and their new states
pub record Changes : Type 0 where
  pub places : List ℕ
  pub values : List ℕ

-- the two lent lists as changes
abbrev pub changes_of : List ℕ → List ℕ → Changes
changes_of places values = record { places = places; values = values }

abbrev pub put : List ℕ → List ℕ → List ℕ → List ℕ
put s [] vs = s
put s (p ∷ ps) [] = s
put s (p ∷ ps) (v ∷ vs) = put (set s p v) ps vs

-- the states with the changes entered
abbrev pub entered : List ℕ → Changes → List ℕ
entered s ch = put s ch.places ch.values

-- a changed node is one whose state in `to` differs from that in s; a changed input, one whose new state differs from its present one
abbrev pub changed : List ℕ → List ℕ → ℕ → Bool
changed s to v = not (eqb (at s v) (at to v))

-- s with the changed inputs at X; and a with the changed inputs at their new states
unfoldable pub raised : List ℕ → List ℕ → List ℕ
raised s to = tab (length s) (λ v. cond (changed s to v) 2 (at s v))

unfoldable pub lowered : List ℕ → List ℕ → List ℕ → List ℕ
lowered s to a = tab (length s) (λ v. cond (changed s to v) (at to v) (at a v))

-- a state is settled when one step alters nothing
abbrev pub settled : (List ℕ → List ℕ) → List ℕ → Bool
settled f s = same (f s) s

-- how steps ended: settled or not, after how many, in which states
pub record Ran : Type 0 where
  pub ends : Bool
  pub count : ℕ
  pub states : List ℕ

-- steps until the state is settled, at most `fuel` of them; k were taken before. The step that alters nothing is not counted
abbrev pub settle : (List ℕ → List ℕ) → ℕ → ℕ → List ℕ → Ran
settle f zero k s = record { ends = settled f s; count = k; states = s }
settle f (suc fuel) k s = let r = f s in elim (same r s) [ true ↦ record { ends = true; count = k; states = s } | false ↦ settle f fuel (suc k) r ]

-- the limit in force: 0 stands for the default
abbrev pub limit_of : ℕ → ℕ
limit_of zero = default_limit
limit_of (suc l) = suc l

-- a unit run: the changes are entered, then steps follow
unfoldable pub unit_steps : (List ℕ → List ℕ) → List ℕ → Changes → ℕ → Ran
unit_steps f s ch limit = settle f (limit_of limit) 0 (entered s ch)

-- the halves of a ternary run of n nodes: changed inputs at X; then, from there, at their new states. n steps are always enough
unfoldable pub first_half : ℕ → (List ℕ → List ℕ) → List ℕ → Changes → Ran
first_half n f s ch = settle f n 0 (raised s (entered s ch))

unfoldable pub second_half : ℕ → (List ℕ → List ℕ) → List ℕ → Changes → Ran
second_half n f s ch = settle f n 0 (lowered s (entered s ch) (first_half n f s ch).states)

-- What an answer promises: of the rules, of the steps between start and end, of every order of arrival. Assumes nothing.
use Rattle.std.specs.Prelude.{Ok, Err, ℕ, ◌≤◌, ◌<◌, ◌≡◌, Bool, true, false, not, ◌⊎◌, List, [], ◌∷◌, length}
use Rattle.model.specs.Bounds.{highest_state}
use Rattle.model.specs.Places.{iter, at, count}
use Rattle.model.specs.Net.{ground, power, Stand, opened, closed, unknown}
use Rattle.model.specs.Run.{Changes, changed, raised, lowered}
use Rattle.model.specs.Answer.{number}
use Rattle.model.specs.Rules.{Verdict, Rule}
use Rattle.model.specs.Order.{◌≼◌}
use Rattle.model.specs.Cover.{Reach}
use Rattle.model.specs.declared.Answer.{Answer}

-- open (false) or closed (true) is a choice for a transistor that stands so
abbrev pub Fits : Stand → Bool → Type 0
Fits opened true = ⊥
Fits opened false = Unit {0}
Fits closed true = Unit {0}
Fits closed false = ⊥
Fits unknown b = Unit {0}

-- c is a choice for all of them
abbrev pub Choice : List Stand → List Bool → Type 0
Choice [] [] = Unit {0}
Choice [] (b ∷ c) = ⊥
Choice (x ∷ r) [] = ⊥
Choice (x ∷ r) (b ∷ c) = Fits x b × Choice r c

-- no rule is broken
abbrev pub Clean : List Rule → Type 0
Clean [] = Unit {0}
Clean (r ∷ rs) = ((q : ℕ) → q < r.places → r.breaks q ≡ false) × Clean rs

-- the first rule that is broken refuses with a, at the first place that breaks it
pub data Broken : List Rule → Answer → Type 0 where
  now : {r : Rule} {rs : List Rule} {p : ℕ} → p < r.places → r.breaks p ≡ true → ((q : ℕ) → q < p → r.breaks q ≡ false) → Broken (r ∷ rs) (r.refusal p)
  later : {r : Rule} {rs : List Rule} {a : Answer} → ((q : ℕ) → q < r.places → r.breaks q ≡ false) → Broken rs a → Broken (r ∷ rs) a

-- a is the refusal of some rule that is broken, at some place that breaks it
pub data Applies : List Rule → Answer → Type 0 where
  by : {r : Rule} {rs : List Rule} {p : ℕ} → p < r.places → r.breaks p ≡ true → Applies (r ∷ rs) (r.refusal p)
  past : {r : Rule} {rs : List Rule} {a : Answer} → Applies rs a → Applies (r ∷ rs) a

abbrev pub Judged : List Rule → Verdict → Type 0
Judged rs (Ok _) = Clean rs
Judged rs (Err a) = Broken rs a

-- where a refusal applies, the answer applies too and has no higher number
abbrev pub Lowest : List Rule → Answer → Type 0
Lowest rs a = (b : Answer) → Applies rs b → Applies rs a × (number a ≤ number b)

-- an outcome is what is accepted where no rule is broken, and else what the refusal of the first broken rule, at its first place, gives
abbrev pub Told : {A : Type 0} → List Rule → (Answer → A) → A → A → Type 0
Told rs refuse accept o = (Clean rs × (o ≡ accept)) ⊎ ((a : Answer) × Broken rs a × (o ≡ refuse a))

-- t is what reset leaves: the rails are live, ground at 0 and power at 1, and all other nodes are X
pub record Live (kinds t : List ℕ) : Type 0 where
  pub level : length t ≡ length kinds
  pub grounds : (v : ℕ) → v < length kinds → at kinds v ≡ ground → at t v ≡ 0
  pub powers : (v : ℕ) → v < length kinds → at kinds v ≡ power → at t v ≡ 1
  pub others : (v : ℕ) → v < length kinds → (at kinds v ≡ ground → ⊥) → (at kinds v ≡ power → ⊥) → at t v ≡ 2

-- the change list names inputs below n, each once, with states
pub record Enterable (n : ℕ) (input : ℕ → Bool) (ch : Changes) : Type 0 where
  pub below : (e : ℕ) → e < length ch.places → at ch.places e < n
  pub inputs : (e : ℕ) → e < length ch.places → input (at ch.places e) ≡ true
  pub known : (e : ℕ) → e < length ch.places → at ch.values e ≤ highest_state
  pub once : (k e : ℕ) → k < e → e < length ch.places → at ch.places k ≡ at ch.places e → ⊥

-- k is the least number of steps after which the state is settled, it is at most `top`, and x is that state
pub record Settles (f : List ℕ → List ℕ) (top : ℕ) (from : List ℕ) (k : ℕ) (x : List ℕ) : Type 0 where
  pub few : k ≤ top
  pub states : x ≡ iter k f from
  pub settled : f x ≡ x
  pub least : (j : ℕ) → j < k → f (iter j f from) ≡ iter j f from → ⊥

-- no number of steps up to `top` settles the state, and x is the state after exactly `top`
pub record Unsettled (f : List ℕ → List ℕ) (top : ℕ) (from x : List ℕ) : Type 0 where
  pub states : x ≡ iter top f from
  pub none : (j : ℕ) → j ≤ top → f (iter j f from) ≡ iter j f from → ⊥

-- v is the lowest node that a step from s changes, and it is no input
pub record FirstMoved (n : ℕ) (input : ℕ → Bool) (f : List ℕ → List ℕ) (s : List ℕ) (v : ℕ) : Type 0 where
  pub below : v < n
  pub free : input v ≡ false
  pub moves : at (f s) v ≡ at s v → ⊥
  pub least : (u : ℕ) → u < v → at (f s) u ≡ at s u

-- the number of nodes that are no inputs
abbrev pub free_nodes : ℕ → (ℕ → Bool) → ℕ
free_nodes n input = count n (λ v. not (input v))

-- a ternary run of n nodes that ends in x: from a settled start both halves settle, within as many steps as there are nodes that are no inputs and at
-- the least counts; x covers each settled state, with the new inputs in place, that is reached in any order
pub record Covered (n : ℕ) (input : ℕ → Bool) (f : List ℕ → List ℕ) (s to : List ℕ) (k l : ℕ) (x : List ℕ) : Type 0 where
  pub start : f s ≡ s
  pub middle : List ℕ
  pub first : Settles f (free_nodes n input) (raised s to) k middle
  pub second : Settles f (free_nodes n input) (lowered s to middle) l x
  pub covers : (y : List ℕ) → Reach n input (changed s to) f to s y → f y ≡ y → ((v : ℕ) → v < n → input v ≡ true → at y v ≡ at to v) → y ≼ x

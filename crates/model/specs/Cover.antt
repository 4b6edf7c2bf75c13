-- A step to which the laws of runs apply, and what a network may do when its changed inputs arrive, and its nodes follow, in any order.
-- Assumes nothing.
use Rattle.std.specs.Prelude.{ℕ, ◌<◌, ◌≡◌, Bool, true, false, List, length, set}
use Rattle.model.specs.Places.{at}
use Rattle.model.specs.Order.{◌≼◌}

-- any step of n nodes that keeps lengths, holds inputs and is monotone: where less is known before it, no more is known after it
pub record Stepper (n : ℕ) (input : ℕ → Bool) (f : List ℕ → List ℕ) : Type 0 where
  pub sized : (s : List ℕ) → length (f s) ≡ n
  pub keeps : (s : List ℕ) (v : ℕ) → v < n → input v ≡ true → at (f s) v ≡ at s v
  pub mono : (s t : List ℕ) → s ≼ t → f s ≼ f t

-- n nodes, of which `input` says which are inputs; f, one step of all nodes; `changed` marks the inputs that are to take their state of `to`
module _ (n : ℕ) (input changed : ℕ → Bool) (f : List ℕ → List ℕ) (to : List ℕ) where
  -- what a node may do next: nothing, arrive at its new state if it is a changed input, take its step's state if it is no input
  pub data May (s : List ℕ) (v x : ℕ) : Type 0 where
    stays : x ≡ at s v → May s v x
    arrives : changed v ≡ true → x ≡ at to v → May s v x
    follows : v < n → input v ≡ false → x ≡ at (f s) v → May s v x

  -- any nodes move at once
  pub data Reach (from : List ℕ) : List ℕ → Type 0 where
    begin : Reach from from
    move : {s : List ℕ} → Reach from s → (t : List ℕ) → length t ≡ length s → ((v : ℕ) → May s v (at t v)) → Reach from t

  -- the same, one by one: a changed input arrives, or a node that is no input takes its step's state
  pub data OneByOne (from : List ℕ) : List ℕ → Type 0 where
    start : OneByOne from from
    arrive : {s : List ℕ} → OneByOne from s → (v : ℕ) → changed v ≡ true → OneByOne from (set s v (at to v))
    follow : {s : List ℕ} → OneByOne from s → (v : ℕ) → v < n → input v ≡ false → OneByOne from (set s v (at (f s) v))

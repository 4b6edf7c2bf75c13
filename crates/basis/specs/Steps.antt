-- What a step and the loops over steps leave, of any step: the states and counts that the definitions give, and the work cells past those used. Assumes nothing.
use Rattle.std.specs.Prelude.{ℕ, ◌≤◌, ◌<◌, ◌≡◌, Bool, List}
use Rattle.model.specs.Places.{at}
use Rattle.model.specs.Net.{Net, nodes, step}
use Rattle.model.specs.Run.{Changes, Ran, settled, first_half, second_half}
use Rattle.model.specs.Rules.{cells}
use Rattle.model.specs.Entries.{altered, first_changed}
use Rattle.basis.specs.Cells.{Spared}

-- a way of stepping: of how many nodes, in how many work cells, and the states after a step
pub record Stepping : Type 0 where
  pub size : ℕ
  pub used : ℕ
  pub next : List ℕ → List ℕ

-- rule one's
abbrev pub rule_one : Net → Stepping
rule_one net = record { size = nodes net; used = cells net; next = step net }

module _ (by : Stepping) where
  -- a step was evaluated: the first cells hold the next states, each a byte
  pub record Evaluated (s w w' : List ℕ) : Type 0 where
    pub next : (v : ℕ) → v < by.size → at w' v ≡ at (by.next s) v
    pub small : (v : ℕ) → v < by.size → at w' v ≤ 255
    pub after : Spared by.used w w'

  -- a step was taken: the first node that it changed, how many it changed, and the states after it
  pub record Stepped (s w : List ℕ) (p k : ℕ) (s' w' : List ℕ) : Type 0 where
    pub place : p ≡ first_changed s (by.next s)
    pub count : k ≡ altered s (by.next s)
    pub states : s' ≡ by.next s
    pub spared : Spared by.used w w'

  -- whether the states are settled was told
  pub record Told (s w : List ℕ) (b : Bool) (w' : List ℕ) : Type 0 where
    pub tells : b ≡ settled by.next s
    pub spared : Spared by.used w w'

  -- steps ended as the definition's run does: settled or not, after how many, in which states; and the first node that the next step would change
  pub record Ended (run : Ran) (w : List ℕ) (b : Bool) (p k : ℕ) (s' w' : List ℕ) : Type 0 where
    pub ends : b ≡ run.ends
    pub place : p ≡ first_changed run.states (by.next run.states)
    pub count : k ≡ run.count
    pub states : s' ≡ run.states
    pub spared : Spared by.used w w'

  -- both halves of a ternary run ended
  pub record Halved (s : List ℕ) (ch : Changes) (w : List ℕ) (k l : ℕ) (s' w' : List ℕ) : Type 0 where
    pub first : k ≡ (first_half by.size by.next s ch).count
    pub second : l ≡ (second_half by.size by.next s ch).count
    pub states : s' ≡ (second_half by.size by.next s ch).states
    pub spared : Spared by.used w w'

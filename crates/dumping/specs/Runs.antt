-- Runs whose dump is measured, or written as they go, of any step. Assumes nothing.
use Rattle.std.specs.Prelude.{ℕ, ◌≡◌, Bool, not, List, Result, length, ltb}
use Rattle.model.specs.Run.{Ran}
use Rattle.basis.specs.Cells.{Spared}
use Rattle.basis.specs.Steps.{Stepping}
use Rattle.runs.specs.Results.{EndedAs}
use Rattle.runs.specs.declared.Moving.{Moving}
use Rattle.waves.specs.Dump.{each, block_after}
use Rattle.lettering.specs.Writing.{Wrote}

-- so much room holds a text
abbrev pub holds : ℕ → List ℕ → Bool
holds room text = not (ltb room (length text))

-- the blocks of a run of steps f from the states s
abbrev pub blocks : (List ℕ → List ℕ) → List ℕ → Ran → List ℕ
blocks f s run = each run.count (block_after f s)

module _ (by : Stepping) where
  -- whether the room holds a text was told
  pub record Measured (room : ℕ) (text w : List ℕ) (b : Bool) (w' : List ℕ) : Type 0 where
    pub tells : b ≡ holds room text
    pub spared : Spared by.used w w'

  -- steps ended as the definition's run does, and a text of them was written
  pub record Shown (run : Ran) (text w out : List ℕ) (place : ℕ) (r : Result ℕ Moving) (next : ℕ) (s' w' out' : List ℕ) : Type 0 where
    pub ended : EndedAs by run w r s' w'
    pub wrote : Wrote out place text next out'

-- A text written into an output that has room for it. Assumes nothing.
use Rattle.std.specs.Prelude.{ℕ, ◌+◌, ◌≤◌, ◌≡◌, List, length}
use Rattle.std.proofs.lemmas.List.Edits.{sets}
use Rattle.lettering.specs.declared.Writer.{Writer}

-- the output has room for the text from `place` on
abbrev pub Fits : List ℕ → ℕ → List ℕ → Type 0
Fits out place text = place + length text ≤ length out

-- the text stands in the output from `place` on, the rest is as it came, and `next` is the place after it
pub record Wrote (out : List ℕ) (place : ℕ) (text : List ℕ) (next : ℕ) (out' : List ℕ) : Type 0 where
  pub goes_on : next ≡ place + length text
  pub stored : out' ≡ sets out place text

-- a writer's output has room for the text
abbrev pub HasRoom : Writer → List ℕ → Type 0
HasRoom w text = Fits w.out.now w.place text

-- a writer has written the text to the output that it has, and goes on after it
pub record Writes (w : Writer) (text : List ℕ) (w' : Writer) : Type 0 where
  pub same_output : w'.out.ghost_name ≡ w.out.ghost_name
  pub long : length w'.out.now ≡ length w.out.now
  pub wrote : Wrote w.out.now w.place text w'.place w'.out.now

-- `strengths::Spread::spread_all` meets its contract: the strengths above s have spread. Assumes nothing.
use Prim.Native.Nat.{ℕ, ◌≤◌}
use mathlib.Core.Bool.{Bool}
use Rattle.strengths.specs.Spread.{Ready, wires_of}
use Rattle.strengths.proofs.Falls.{Falling}
use Rattle.strengths.proofs.Spread.spread_all.Given as goal

abbrev pub invariant-loop-s : goal.invariant-loop-s
invariant-loop-s l =
    (l.last ≤ l.s)
    × ((listed unsure : ℕ → Bool) → Ready (wires_of l.self listed unsure) l.self.table l.self.order l.self.members l.self.queue l.initial.work
    → Falling (wires_of l.self listed unsure) l.self.all l.self.table l.self.order l.self.members l.self.queue l.s l.initial.work l.work l.visits)

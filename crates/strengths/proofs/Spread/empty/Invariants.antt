-- `strengths::Spread::empty` meets its contract: the nodes that were taken from the queue have nothing more to give. Assumes nothing.
use Prim.Native.Nat.{◌-◌}
use Rattle.strengths.specs.Spread.{wires_of}
use Rattle.strengths.specs.Level.{Waiting}
use Rattle.strengths.proofs.Levels.{Emptying}
use Rattle.strengths.proofs.Spread.empty.Given as goal

abbrev pub invariant-loop-k : goal.invariant-loop-k
invariant-loop-k l =
    (z : Waiting l.self l.s l.initial.work l.end) → Emptying (wires_of l.self z.listed z.unsure) l.self.all z.mem z.m l.self.table l.self.queue l.s l.initial.work l.end l.work l.tail l.visits l.k

abbrev pub decreases-loop-k : goal.decreases-loop-k
decreases-loop-k l =
    4096 - l.k

-- `strengths::Spread::fan` meets its contract: the branches whose entries were passed have nothing more to bring. Assumes nothing.
use Rattle.strengths.specs.Spread.{wires_of}
use Rattle.strengths.specs.Level.{Fannable}
use Rattle.strengths.proofs.Fans.{Fanning}
use Rattle.strengths.proofs.Spread.fan.Given as goal

abbrev pub invariant-loop-e : goal.invariant-loop-e
invariant-loop-e l =
    (z : Fannable l.self l.s l.a l.initial.work l.end) → Fanning (wires_of l.self z.listed z.unsure) l.self.all z.mem z.m l.self.table l.self.queue l.s l.a l.initial.work l.end l.work l.tail l.visits l.e

abbrev pub decreases-loop-e : goal.decreases-loop-e
decreases-loop-e l =
    l.e

-- `strengths::Spread::gather` meets its contract: the queue holds those of the members passed whose cell is c. Assumes nothing.
use Rattle.strengths.specs.Level.{Gathered}
use Rattle.strengths.proofs.Spread.gather.Given as goal

abbrev pub invariant-loop-k : goal.invariant-loop-k
invariant-loop-k l =
    Gathered l.self.table l.self.order l.self.members l.self.queue l.c l.initial.work l.k l.work l.tail

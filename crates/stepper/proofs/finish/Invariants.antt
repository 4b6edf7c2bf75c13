-- `stepper::finish` meets its contract: a node's cells are read before its state is written over the first of them. Assumes nothing.
use Rattle.basis.specs.Cells.{Written, Bytes}
use Rattle.model.specs.Net.{alone}
use Rattle.stepper.specs.Step.{next}
use Rattle.stepper.proofs.finish.Given as goal

abbrev pub invariant-loop-v : goal.invariant-loop-v
invariant-loop-v l = Written (next (alone l.kinds) l.states l.initial.work) l.initial.work 0 l.v l.work × Bytes l.v l.work

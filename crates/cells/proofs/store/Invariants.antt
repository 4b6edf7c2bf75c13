-- `cells::store` meets its contract: the nodes passed have their next states. Assumes nothing.
use Rattle.model.specs.Places.{at}
use Rattle.basis.specs.Cells.{Written}
use Rattle.cells.proofs.store.Given as goal

abbrev pub invariant-loop-node : goal.invariant-loop-node
invariant-loop-node l =
    Written (at l.work) l.initial.states 0 l.node l.states

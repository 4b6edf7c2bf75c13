-- `cells::reset_states` meets its contract: each node passed has what reset gives its kind. Assumes nothing.
use Rattle.model.specs.Places.{at}
use Rattle.model.specs.Entries.{reset_state}
use Rattle.basis.specs.Cells.{Written}
use Rattle.cells.proofs.reset_states.Given as goal

abbrev pub invariant-loop-node : goal.invariant-loop-node
invariant-loop-node l =
    Written (λ v. reset_state (at l.kinds v)) l.initial.states 0 l.node l.states

-- `cells::raise_changed` meets its contract: the changes passed are raised. Assumes nothing.
use Rattle.std.proofs.Common.{◌≡◌, length}
use Rattle.model.specs.Run.{raised}
use Rattle.basis.proofs.Entering.{entering}
use Rattle.cells.proofs.raise_changed.Given as goal

abbrev pub invariant-loop-node : goal.invariant-loop-node
invariant-loop-node l =
    l.states ≡ raised l.initial.states (entering l.initial.states l.changes.nodes.now l.changes.states.now (length l.yielded))

-- `cells::enter` meets its contract: the changes passed are entered. Assumes nothing.
use Rattle.std.proofs.Common.{◌≡◌, length}
use Rattle.basis.proofs.Entering.{entering}
use Rattle.cells.proofs.enter.Given as goal

abbrev pub invariant-loop-node : goal.invariant-loop-node
invariant-loop-node l =
    l.states ≡ entering l.initial.states l.changes.nodes.now l.changes.states.now (length l.yielded)

-- `find` meets its contract: no node that the walk has passed has the name. Assumes nothing.
use Rattle.names.proofs.Chaining.{Walk}
use Rattle.names.proofs.KnownNames.find.Given as goal

abbrev pub invariant-loop-left : goal.invariant-loop-left
invariant-loop-left l =
    let in_ = l.self-inside in Walk in_.text.now in_.starts in_.sizes l.fn.name in_.count l.left

abbrev pub decreases-loop-left : goal.decreases-loop-left
decreases-loop-left l =
    l.left

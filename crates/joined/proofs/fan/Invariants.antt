-- `joined::fan` meets its contract: the entries passed were followed, and the next is lower. Assumes nothing.
use Rattle.joined.specs.Floods.{Chain}
use Rattle.joined.proofs.fan.Given as goal

abbrev pub invariant-loop-e : goal.invariant-loop-e
invariant-loop-e l =
    Chain l.wiring l.a l.initial.work l.initial.found l.work l.found l.e

abbrev pub decreases-loop-e : goal.decreases-loop-e
decreases-loop-e l =
    l.e

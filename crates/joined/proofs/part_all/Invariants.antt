-- `joined::part_all` meets its contract: the sets of the nodes passed are taken. Assumes nothing.
use Rattle.joined.specs.Floods.{Turns}
use Rattle.joined.proofs.part_all.Given as goal

abbrev pub invariant-loop-v : goal.invariant-loop-v
invariant-loop-v l =
    Turns l.wiring l.initial.work l.v l.work l.parts

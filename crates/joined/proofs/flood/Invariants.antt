-- `joined::flood` meets its contract: the nodes passed in the queue are done with. Assumes nothing.
use Prim.Native.Nat.{◌-◌}
use Rattle.joined.specs.Floods.{Emptied}
use Rattle.joined.proofs.flood.Given as goal

abbrev pub invariant-loop-k : goal.invariant-loop-k
invariant-loop-k l =
    Emptied l.wiring l.initial.k l.initial.work l.initial.found l.work l.found l.k

abbrev pub decreases-loop-k : goal.decreases-loop-k
decreases-loop-k l =
    l.wiring.nodes - l.k

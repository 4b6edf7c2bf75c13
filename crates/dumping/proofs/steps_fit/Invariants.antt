-- `steps_fit` meets its contract: what is free is what the blocks so far have left. Assumes nothing.
use Prim.Native.Nat.{◌+◌, ◌-◌}
use mathlib.Core.Path.{◌≡◌}
use lib.ListN.{length}
use Rattle.model.specs.Lent.{lent}
use Rattle.model.specs.Net.{step}
use Rattle.basis.specs.Steps.{rule_one}
use Rattle.waves.specs.Dump.{each, block_after}
use Rattle.dumping.proofs.Going.{Reached}
use Rattle.dumping.proofs.steps_fit.Given as goal

abbrev pub invariant-loop-states : goal.invariant-loop-states
invariant-loop-states l =
    let net = lent l.net in
    record {
      reached : Reached (rule_one net) l.limit l.initial.states l.initial.work l.count l.states l.work;
      left : l.free + length (each l.count (block_after (step net) l.initial.states)) ≡ l.room;
    }

abbrev pub decreases-loop-states : goal.decreases-loop-states
decreases-loop-states l =
    l.limit - l.count

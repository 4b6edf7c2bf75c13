-- `write_steps` meets its contract: the blocks so far are written. Assumes nothing.
use Prim.Native.Nat.{◌-◌}
use Rattle.model.specs.Lent.{lent}
use Rattle.model.specs.Net.{step}
use Rattle.basis.specs.Steps.{rule_one}
use Rattle.waves.specs.Dump.{each, block_after}
use Rattle.lettering.specs.Writing.{Writes}
use Rattle.dumping.proofs.Going.{Reached}
use Rattle.dumping.proofs.write_steps.Given as goal

abbrev pub invariant-loop-states : goal.invariant-loop-states
invariant-loop-states l =
    let net = lent l.net in
    record {
      reached : Reached (rule_one net) l.limit l.initial.states l.initial.work l.count l.states l.work;
      written : Writes l.initial.out (each l.count (block_after (step net) l.initial.states)) l.out;
    }

abbrev pub decreases-loop-states : goal.decreases-loop-states
decreases-loop-states l =
    l.limit - l.count

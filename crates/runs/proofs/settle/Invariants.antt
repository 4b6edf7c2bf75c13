-- `runs::settle` meets its contract: what is left of the steps is what is left of the definition. Assumes nothing.
use Rattle.std.proofs.Common.{◌≡◌, ◌-◌, ◌≤◌}
use Rattle.model.specs.Lent.{lent}
use Rattle.model.specs.Net.{step}
use Rattle.model.specs.Run.{settle}
use Rattle.model.specs.Rules.{cells}
use Rattle.basis.specs.Cells.{Spared}
use Rattle.runs.proofs.settle.Given as goal

abbrev pub invariant-loop-states : goal.invariant-loop-states
invariant-loop-states l =
    let net = lent l.net in
    record {
      within : l.count ≤ l.limit;
      left : settle (step net) l.limit 0 l.initial.states ≡ settle (step net) (l.limit - l.count) l.count l.states;
      spared : Spared (cells net) l.initial.work l.work;
    }

abbrev pub decreases-loop-states : goal.decreases-loop-states
decreases-loop-states l =
    l.limit - l.count

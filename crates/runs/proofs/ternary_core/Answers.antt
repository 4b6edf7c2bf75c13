-- `runs::ternary_core` meets its contract: steps from the raised states, and from their end with the changes entered. Assumes nothing.
use Rattle.std.proofs.Common.{arith}
use Rattle.laws.proofs.RuleOne.{stepper}
use Rattle.basis.proofs.Runs.{halved}
use Rattle.runs.proofs.ternary_core.Goals as goal

pub returns : goal.returns
returns c =
    rw (c.steps_taken-first.ensures, c.steps_taken-second.ensures)
    (halved (stepper _) _ _ _ c.requires.1 c.requires.2 c.requires.0.states (omega (arith, c.settle.auto, c.raise_changed.auto)) c.raise_changed.ensures c.settle.ensures c.enter.ensures c.settle-2.ensures)

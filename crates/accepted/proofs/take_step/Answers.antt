-- `take_step` meets its contract: what was accepted is what a step asks for, and the cells that it used are cleared. Assumes nothing.
use Rattle.std.proofs.Common.{arith}
use Rattle.accepted.proofs.Running.{step_leaves}
use Rattle.accepted.proofs.take_step.Goals as goal

pub returns : goal.returns
returns c = step_leaves _ _ _ _ _ (omega arith) _ c.cells_for-used.ensures c.clear.ensures c.requires c.step_once-first.ensures

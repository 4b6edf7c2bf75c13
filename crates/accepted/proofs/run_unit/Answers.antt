-- `run_unit` meets its contract: what was accepted is what a unit run asks for, and the cells that it used are cleared. Assumes nothing.
use Rattle.std.proofs.Common.{arith}
use Rattle.accepted.proofs.Running.{unit_leaves}
use Rattle.accepted.proofs.run_unit.Goals as goal

pub returns : goal.returns
returns c =
    unit_leaves _ _ _ _ _ (omega arith) _ c.cells_for-used.ensures c.clear.ensures _ _ c.requires _ c.unit_core-ran.ensures
    (rw (← c.limit_of.ensures) c.ran_answer.ensures)

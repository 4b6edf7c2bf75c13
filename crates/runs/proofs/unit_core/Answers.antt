-- `runs::unit_core` meets its contract: steps from the states with the changes entered. Assumes nothing.
use Rattle.basis.proofs.Runs.{unit_ended}
use Rattle.runs.proofs.unit_core.Goals as goal

pub returns : goal.returns
returns c = unit_ended _ _ _ _ c.enter.ensures c.limit_of.ensures c.settle.ensures

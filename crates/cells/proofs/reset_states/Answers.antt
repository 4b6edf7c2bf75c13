-- `cells::reset_states` meets its contract: each node passed has what reset gives its kind. Assumes nothing.
use Rattle.std.proofs.Common.{arith}
use Rattle.model.specs.Entries.{reset_states}
use Rattle.basis.proofs.Cells.{written_all}
use Rattle.cells.proofs.reset_states.Goals as goal

pub returns : goal.returns
unfolding reset_states
returns c = written_all (omega arith) (omega arith) c.loop-node.invariant

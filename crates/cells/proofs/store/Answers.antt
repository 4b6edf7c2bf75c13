-- `cells::store` meets its contract: the nodes passed have their next states. Assumes nothing.
use Rattle.std.proofs.Common.{arith}
use Rattle.basis.proofs.Cells.{written_all}
use Rattle.cells.proofs.store.Goals as goal

pub returns : goal.returns
returns c = written_all (omega arith) (omega arith) c.loop-node.invariant

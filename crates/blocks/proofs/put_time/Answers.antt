-- `put_time` meets its contract: the sign of a time, the time, the line's end. Assumes nothing.
use Rattle.blocks.proofs.Lines.{writes_time}
use Rattle.blocks.proofs.put_time.Goals as goal

pub returns : goal.returns
returns c = writes_time _ c.byte.ensures c.decimal.ensures c.byte-2.ensures

-- `put_wire` meets its contract: its five parts are the line. Assumes nothing.
use Rattle.blocks.proofs.Lines.{writes_wire}
use Rattle.blocks.proofs.put_wire.Goals as goal

pub returns : goal.returns
returns c = writes_wire _ c.text.ensures c.code.ensures c.text-2.ensures c.decimal.ensures c.text-3.ensures

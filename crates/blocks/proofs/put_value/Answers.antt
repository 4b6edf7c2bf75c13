-- `put_value` meets its contract: its letter, its code, the line's end. Assumes nothing.
use Rattle.blocks.proofs.Lines.{writes_value}
use Rattle.blocks.proofs.put_value.Goals as goal

pub returns : goal.returns
returns c = writes_value _ _ c.letter_of.ensures c.byte.ensures c.code.ensures c.byte-2.ensures

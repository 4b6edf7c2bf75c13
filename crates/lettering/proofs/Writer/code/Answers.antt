-- `Writer::code` meets its contract: one character, or two. Assumes nothing.
use native.Mathlib.Omega.{arith}
use mathlib.Core.Path.{sym}
use Rattle.wavelaws.proofs.Digits.{code_one, code_two}
use Rattle.lettering.proofs.Writes.{writes_as, writes_then}
use Rattle.lettering.proofs.Writer.code.Goals as goal

pub returns-then-node-lt94 : goal.returns-then-node-lt94
returns-then-node-lt94 c = writes_as (sym (code_one _ c.if-node-lt94.true)) c.byte.ensures

pub returns-else-node-lt94 : goal.returns-else-node-lt94
returns-else-node-lt94 c =
    writes_as (sym (code_two _ c.if-node-lt94.false (omega arith))) (writes_then c.byte-else-node-lt94.ensures c.byte-else-node-lt94-2.ensures)

-- `chain_of` meets its contract: what is left to mix is what is left of the definition. Assumes nothing.
use mathlib.Core.Path.{sym, ◌∙◌}
use Rattle.std.proofs.Common.{rules}
use Rattle.names.proofs.Mixing.{mixed-next, mixed_end}
use Rattle.names.proofs.chain_of.Goals as goal

pub loop-byte-preserved : goal.loop-byte-preserved
loop-byte-preserved c =
    (search rules, rw c.from.ensures (sym (mixed-next _ _ _ c.loop-byte-test.true) ∙ c.loop-byte.invariant.1))

pub returns-clause-same : goal.returns-clause-same
returns-clause-same c = sym (mixed_end _ _ _ c.loop-byte-test.false) ∙ c.loop-byte.invariant.1

-- `run_ternary` meets its contract: what was accepted is what a ternary run asks for, and the cells that it used are cleared. Assumes nothing.
use Rattle.std.proofs.Common.{sym, ◌∙◌, arith}
use Rattle.accepted.proofs.Running.{start_leaves, ternary_leaves}
use Rattle.accepted.proofs.run_ternary.Goals as goal

pub returns-then-not-settled : goal.returns-then-not-settled
returns-then-not-settled c =
    let told = c.settled.ensures in
    start_leaves _ _ _ _ _ (omega arith) _ c.cells_for-used.ensures c.clear.ensures _ c.requires (sym told.tells ∙ c.if-not-settled.true) told.spared

pub returns : goal.returns
returns c =
    let told = c.settled.ensures in
    ternary_leaves _ _ _ _ _ (omega arith) _ c.cells_for-used.ensures c.clear-2.ensures _ c.requires (sym told.tells ∙ c.if-not-settled.false) told.spared c.ternary_core-first.ensures

-- `layout::lay_out` meets its contract: one transistor after the other. Assumes nothing.
use native.Mathlib.Omega.{arith}
use mathlib.Core.Path.{refl}
use Rattle.basis.proofs.Acceptance.{checked_with}
use Rattle.layout.proofs.Looks.{laid_none, laid_next}
use Rattle.layout.proofs.lay_out.Goals as goal

pub loop-t-init : goal.loop-t-init
loop-t-init c = laid_none c.zero.ensures c.begin_sources.ensures c.zero-2.ensures

pub loop-t-preserved : goal.loop-t-preserved
loop-t-preserved c = laid_next _ _ _ _ _ (checked_with c.requires refl (omega arith)) c.loop-t-test.true c.loop-t.invariant c.lay.ensures

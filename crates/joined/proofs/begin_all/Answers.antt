-- `joined::begin_all` meets its contract: the tables have begun at the nodes passed. Assumes nothing.
use native.Mathlib.Omega.{arith}
use Rattle.joined.proofs.Beginning.{begun_none, begun_more, node_inside}
use Rattle.joined.proofs.begin_all.Goals as goal

pub loop-k-init : goal.loop-k-init
loop-k-init c = begun_none _ _ _ _

pub begin_at-requires : goal.begin_at-requires
begin_at-requires c =
    let L = c.requires.0 in
    (L.few, omega (arith, L.fits, c.loop-k.auto.work), rw c.from-a.ensures (node_inside L c.loop-k.invariant c.loop-k.auto.k c.loop-k-test.true), c.requires.1)

pub loop-k-preserved : goal.loop-k-preserved
loop-k-preserved c = begun_more c.requires.0 c.loop-k.invariant c.loop-k.auto.k c.loop-k-test.true (rw c.from-a.ensures at c.begin_at.ensures)

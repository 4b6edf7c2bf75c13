-- `put_step` meets its contract: the time's line, then the lines of the changed nodes. Assumes nothing.
use native.Mathlib.Omega.{arith}
use mathlib.Core.Path.{ap}
use lib.ListN.{length}
use Rattle.waves.specs.Dump.{change_line}
use Rattle.wavelaws.proofs.Rows.{each_fits}
use Rattle.wavelaws.proofs.Lengths.{step-length}
use Rattle.lettering.proofs.Writes.{writes_as, writes_next, writes_all}
use Rattle.blocks.proofs.Lines.{change_as, writes_step}
use Rattle.blocks.proofs.put_step.Goals as goal

pub put_change-requires : goal.put_change-requires
put_change-requires c =
    let node = c.loop-node.node in
    let states = c.args.states.now in
    let next = c.args.next.now in
    (omega arith, omega (arith, c.requires.2, step-length c.args.time states next, ap length (change_as states next node), each_fits (change_line states next) node (length states) (omega arith)))

pub loop-node-preserved : goal.loop-node-preserved
loop-node-preserved c =
    writes_next (change_line c.args.states.now c.args.next.now) c.loop-node.node c.loop-node.invariant (writes_as (change_as _ _ _) c.put_change.ensures)

pub returns : goal.returns
returns c =
    let states = c.args.states.now in
    let lines = change_line states c.args.next.now in
    writes_step _ _ _ c.put_time.ensures (writes_all lines c.loop-node.node (length states) (omega arith) c.loop-node.invariant)

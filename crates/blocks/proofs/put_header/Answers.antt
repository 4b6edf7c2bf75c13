-- `put_header` meets its contract: what opens the header, a line for each node, what closes it. Assumes nothing.
use native.Mathlib.Omega.{arith}
use Rattle.waves.specs.Dump.{wire_line}
use Rattle.wavelaws.proofs.Rows.{each_fits}
use Rattle.wavelaws.proofs.Lengths.{header-length}
use Rattle.lettering.proofs.Writes.{writes_next, writes_all}
use Rattle.blocks.proofs.Lines.{writes_header}
use Rattle.blocks.proofs.put_header.Goals as goal

pub put_wire-requires : goal.put_wire-requires
put_wire-requires c =
    (omega arith, omega (arith, c.requires.1, header-length c.args.count, each_fits wire_line c.loop-node.node c.args.count (omega arith)))

pub loop-node-preserved : goal.loop-node-preserved
loop-node-preserved c = writes_next wire_line c.loop-node.node c.loop-node.invariant c.put_wire.ensures

pub returns : goal.returns
returns c =
    writes_header _ c.text.ensures (writes_all wire_line c.loop-node.node c.args.count (omega arith) c.loop-node.invariant) c.text-2.ensures

-- `changes_length` meets its contract: the lines so far are counted. Assumes nothing.
use native.Mathlib.Omega.{arith}
use mathlib.Core.Path.{◌∙◌, sym}
use Rattle.waves.specs.Dump.{change_line}
use Rattle.wavelaws.proofs.Rows.{each_few, lines_more}
use Rattle.wavelaws.proofs.Lengths.{change_length, change_few}
use Rattle.blocks.proofs.changes_length.Goals as goal

pub overflow_add-size : goal.overflow_add-size
overflow_add-size c =
    let node = c.loop-node.node in
    let states = c.args.states.now in
    let next = c.args.next.now in
    omega (
      arith,
      each_few (change_line states next) 4 node (λ v l. change_few states next v (omega arith)),
      c.change_length-size.ensures ∙ sym (change_length states next node),
      change_few states next node (omega arith),
    )

pub loop-node-preserved : goal.loop-node-preserved
loop-node-preserved c =
    let node = c.loop-node.node in
    let states = c.args.states.now in
    let next = c.args.next.now in
    lines_more (change_line states next) node c.loop-node.invariant (c.change_length-size.ensures ∙ sym (change_length states next node))

-- `front_length` meets its contract: the wires and values so far are counted. Assumes nothing.
use native.Mathlib.Omega.{arith}
use Rattle.wavelaws.proofs.Digits.{code_short, decimal_few}
use Rattle.blocks.proofs.Fronts.{front_few, front_more, front_all}
use Rattle.blocks.proofs.front_length.Goals as goal

pub overflow_add-size-in-loop-node : goal.overflow_add-size-in-loop-node
overflow_add-size-in-loop-node c =
    let node = c.loop-node.node in
    omega (arith, code_short node (omega arith), decimal_few 3 node (omega arith))

pub overflow_add-size-in-loop-node-2 : goal.overflow_add-size-in-loop-node-2
overflow_add-size-in-loop-node-2 c =
    let node = c.loop-node.node in
    omega (arith, code_short node (omega arith), decimal_few 3 node (omega arith), front_few c.args.states.now node (omega arith))

pub loop-node-preserved : goal.loop-node-preserved
loop-node-preserved c = front_more c.args.states.now c.loop-node.node c.loop-node.invariant c.code_length.ensures c.decimal_length.ensures

pub returns : goal.returns
returns c = front_all c.args.states.now c.loop-node.node (omega arith) c.loop-node.invariant

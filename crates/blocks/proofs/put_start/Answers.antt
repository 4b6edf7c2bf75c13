-- `put_start` meets its contract: what opens time 0, a line for each node, what closes it. Assumes nothing.
use native.Mathlib.Omega.{arith}
use Prim.Native.Nat.{ℕ}
use mathlib.Core.Path.{ap}
use mathlib.Core.List.{List}
use lib.ListN.{length}
use Rattle.model.specs.Places.{at}
use Rattle.waves.specs.Dump.{value_line}
use Rattle.wavelaws.proofs.Rows.{each_fits}
use Rattle.wavelaws.proofs.Lengths.{start_length}
use Rattle.lettering.proofs.Writes.{writes_as, writes_next, writes_all}
use Rattle.blocks.proofs.Lines.{writes_start}
use Rattle.blocks.proofs.put_start.Goals as goal

pub put_value-requires : goal.put_value-requires
put_value-requires c =
    let node = c.loop-node.node in
    let values : ℕ → List ℕ = λ v. value_line v (at c.args.states.now v) in
    (omega arith, omega (arith, c.requires.1, start_length c.args.states.now, ap (λ (x : ℕ). length (value_line node x)) c.from.ensures, each_fits values node (length c.args.states.now) (omega arith)))

pub loop-node-preserved : goal.loop-node-preserved
loop-node-preserved c =
    let node = c.loop-node.node in
    writes_next (λ v. value_line v (at c.args.states.now v)) node c.loop-node.invariant (writes_as (ap (value_line node) c.from.ensures) c.put_value.ensures)

pub text-requires-2 : goal.text-requires-2
text-requires-2 c =
    let states = c.args.states.now in
    let valued = writes_all (λ v. value_line v (at states v)) c.loop-node.node (length states) (omega arith) c.loop-node.invariant in
    omega (arith, c.requires.1, start_length states, valued.wrote.goes_on)

pub returns : goal.returns
returns c =
    let states = c.args.states.now in
    writes_start _ c.text.ensures (writes_all (λ v. value_line v (at states v)) c.loop-node.node (length states) (omega arith) c.loop-node.invariant) c.text-2.ensures

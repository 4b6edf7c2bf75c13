-- `joined::flood` meets its contract: the nodes passed in the queue are done with. Assumes nothing.
use native.Mathlib.Omega.{arith}
use Rattle.joined.specs.Floods.{begins, takes, flooded}
use Rattle.joined.proofs.Flooding.{flood_room, flood_inside, flood_few, flood_fannable}
use Rattle.joined.proofs.flood.Goals as goal

pub reach-found-requires : goal.reach-found-requires
reach-found-requires c = (flood_room c.requires, flood_inside c.requires)

pub loop-k-init : goal.loop-k-init
loop-k-init c = begins

pub overflow_add-n : goal.overflow_add-n
overflow_add-n c =
    let turn = c.loop-k in
    let few = flood_few c.requires c.reach-found.ensures turn.invariant in
    omega arith

pub offset_bounds-work-n : goal.offset_bounds-work-n
offset_bounds-work-n c =
    let turn = c.loop-k in
    let few = flood_few c.requires c.reach-found.ensures turn.invariant in
    omega arith

pub bounds-work-n : goal.bounds-work-n
bounds-work-n c =
    let turn = c.loop-k in
    let few = flood_few c.requires c.reach-found.ensures turn.invariant in
    omega (arith, c.loop-k-test.true)

pub fan-found-requires : goal.fan-found-requires
fan-found-requires c =
    rw c.from-a.ensures (flood_fannable c.requires c.reach-found.ensures c.loop-k.invariant c.loop-k-test.true)

pub loop-k-smaller : goal.loop-k-smaller
loop-k-smaller c =
    let turn = c.loop-k in
    let few = flood_few c.requires c.reach-found.ensures turn.invariant in
    omega (arith, c.loop-k-test.true)

pub loop-k-preserved : goal.loop-k-preserved
loop-k-preserved c =
    let turn = c.loop-k in
    takes turn.invariant c.loop-k-test.true (rw c.from-a.ensures at c.fan-found.ensures)

pub returns : goal.returns
returns c = flooded c.reach-found.ensures c.loop-k.invariant c.loop-k-test.false

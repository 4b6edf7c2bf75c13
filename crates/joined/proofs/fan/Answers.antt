-- `joined::fan` meets its contract: the entries passed were followed, and the next is lower. Assumes nothing.
use native.Mathlib.Omega.{arith}
use Rattle.joined.specs.Floods.{start, next, fanned}
use Rattle.joined.proofs.Fanning.{fan_inside, fan_visitable, fan_less}
use Rattle.joined.proofs.fan.Goals as goal

pub loop-e-init : goal.loop-e-init
loop-e-init c = rw c.from-e.ensures start

pub follow-found-requires : goal.follow-found-requires
follow-found-requires c =
    fan_visitable c.args.wiring.now c.requires c.untouched.ensures c.loop-e.invariant c.loop-e-test.true

pub overflow_sub-e : goal.overflow_sub-e
overflow_sub-e c =
    let visit = fan_visitable c.args.wiring.now c.requires c.untouched.ensures c.loop-e.invariant c.loop-e-test.true in
    omega arith

pub offset_bounds-work-n-in-loop-e : goal.offset_bounds-work-n-in-loop-e
offset_bounds-work-n-in-loop-e c =
    let visit = fan_visitable c.args.wiring.now c.requires c.untouched.ensures c.loop-e.invariant c.loop-e-test.true in
    let inside = fan_inside c.requires in omega arith

pub bounds-work-n-in-loop-e : goal.bounds-work-n-in-loop-e
bounds-work-n-in-loop-e c =
    let visit = fan_visitable c.args.wiring.now c.requires c.untouched.ensures c.loop-e.invariant c.loop-e-test.true in
    omega (arith, c.follow-found.auto)

pub loop-e-smaller : goal.loop-e-smaller
loop-e-smaller c =
    let turn = c.loop-e in
    rw c.from-e-in-loop-e.ensures (fan_less c.args.wiring.now c.requires c.untouched.ensures turn.invariant c.loop-e-test.true c.follow-found.ensures)

pub loop-e-preserved : goal.loop-e-preserved
loop-e-preserved c =
    let turn = c.loop-e in
    rw c.from-e-in-loop-e.ensures (next turn.invariant c.loop-e-test.true c.follow-found.ensures)

pub returns : goal.returns
returns c = fanned _ c.untouched.ensures c.loop-e.invariant c.loop-e-test.false

-- `strengths::Spread::fan` meets its contract: the branches whose entries were passed have nothing more to bring. Assumes nothing.
use native.Mathlib.Omega.{arith}
use Rattle.strengths.proofs.Fans.{fannable_in, fan_start, fan_few, fan_held, fan_heads, fan_place, fan_turn, fan_less, fan_end, heads_two, heads_visitable}
use Rattle.strengths.proofs.Spread.fan.Goals as goal

pub loop-e-init : goal.loop-e-init
loop-e-init c = rw c.from-e.ensures (λ z. fan_start z.held _ _ (fannable_in z))

pub follow-tail-requires : goal.follow-tail-requires
follow-tail-requires c = (heads_two (fan_heads c.requires.0.held (c.loop-e.invariant c.requires.0) c.loop-e-test.true), heads_visitable c.args.self.now (fan_heads c.requires.0.held (c.loop-e.invariant c.requires.0) c.loop-e-test.true) (fan_held c.requires.0.held (c.loop-e.invariant c.requires.0)) (c.loop-e.invariant c.requires.0).bound c.requires.0.place c.requires.0.inside c.requires.0.member c.requires.1)

pub overflow_add-visits : goal.overflow_add-visits
overflow_add-visits c = omega (arith, fan_few c.requires.0.held (c.loop-e.invariant c.requires.0), c.requires.0.held.laid.few_transistors)

pub overflow_sub-e : goal.overflow_sub-e
overflow_sub-e c = omega (arith, heads_two (fan_heads c.requires.0.held (c.loop-e.invariant c.requires.0) c.loop-e-test.true))

pub offset_bounds-work-n-in-loop-e : goal.offset_bounds-work-n-in-loop-e
offset_bounds-work-n-in-loop-e c = omega (arith, fan_place c.requires.0.held (c.loop-e.invariant c.requires.0) c.loop-e-test.true, c.requires.0.held.laid.few_nodes, c.requires.0.held.laid.few_transistors)

pub bounds-work-n-in-loop-e : goal.bounds-work-n-in-loop-e
bounds-work-n-in-loop-e c = omega (arith, fan_place c.requires.0.held (c.loop-e.invariant c.requires.0) c.loop-e-test.true, c.requires.0.held.laid.fits, c.follow-tail.auto, c.loop-e.auto.work)

pub loop-e-smaller : goal.loop-e-smaller
loop-e-smaller c = omega (arith, fan_less c.args.self.now c.requires.0.held (c.loop-e.invariant c.requires.0) c.loop-e-test.true c.requires.0.place c.requires.0.inside c.requires.0.member c.requires.0.strong c.follow-tail.ensures)

pub loop-e-preserved : goal.loop-e-preserved
loop-e-preserved c = λ z. rw (← c.from-e-in-loop-e.ensures) at (fan_turn c.args.self.now z.held (c.loop-e.invariant z) c.loop-e-test.true z.place z.inside z.member z.strong c.follow-tail.ensures)

pub returns : goal.returns
returns c = λ z. fan_end z.held (c.loop-e.invariant z) c.loop-e-test.false

-- `strengths::Spread::empty` meets its contract: the nodes that were taken from the queue have nothing more to give. Assumes nothing.
use native.Mathlib.Omega.{arith}
use Rattle.strengths.proofs.Levels.{empty_start, empty_few, empty_fannable, empty_visits, empty_next, empty_end}
use Rattle.strengths.proofs.Spread.empty.Goals as goal

pub loop-k-init : goal.loop-k-init
loop-k-init c = λ z. empty_start

pub overflow_add-self : goal.overflow_add-self
overflow_add-self c = omega (arith, c.loop-k-test.true, empty_few c.requires.0 (c.loop-k.invariant c.requires.0), c.requires.0.held.fits, c.requires.0.held.laid.few_nodes)

pub offset_bounds-work-self : goal.offset_bounds-work-self
offset_bounds-work-self c = omega (arith, c.loop-k-test.true, empty_few c.requires.0 (c.loop-k.invariant c.requires.0), c.requires.0.held.fits, c.requires.0.held.laid.few_nodes)

pub bounds-work-self : goal.bounds-work-self
bounds-work-self c = omega (arith, c.loop-k-test.true, empty_few c.requires.0 (c.loop-k.invariant c.requires.0), c.requires.0.held.fits, c.requires.0.held.laid.fits, c.loop-k.auto.work)

pub fan-r-requires : goal.fan-r-requires
fan-r-requires c = (rw c.from-a.ensures (empty_fannable c.requires.0 (c.loop-k.invariant c.requires.0) c.loop-k-test.true), c.requires.1)

pub overflow_add-visits : goal.overflow_add-visits
overflow_add-visits c = omega (arith, empty_visits c.requires.0 (empty_next c.requires.0 (c.loop-k.invariant c.requires.0) c.loop-k-test.true ((rw c.from-a.ensures at c.fan-r.ensures) (empty_fannable c.requires.0 (c.loop-k.invariant c.requires.0) c.loop-k-test.true))), c.requires.0.held.laid.few_transistors)

pub overflow_add-k : goal.overflow_add-k
overflow_add-k c = omega (arith, c.loop-k-test.true, empty_few c.requires.0 (c.loop-k.invariant c.requires.0), c.requires.0.held.fits, c.requires.0.held.laid.few_nodes)

pub loop-k-smaller : goal.loop-k-smaller
loop-k-smaller c = omega (arith, c.loop-k-test.true, empty_few c.requires.0 (c.loop-k.invariant c.requires.0), c.requires.0.held.fits, c.requires.0.held.behind, c.requires.0.held.laid.few_nodes)

pub loop-k-preserved : goal.loop-k-preserved
loop-k-preserved c = λ z. empty_next z (c.loop-k.invariant z) c.loop-k-test.true ((rw c.from-a.ensures at c.fan-r.ensures) (empty_fannable z (c.loop-k.invariant z) c.loop-k-test.true))

pub returns : goal.returns
returns c = λ z. empty_end z (c.loop-k.invariant z) c.loop-k-test.false

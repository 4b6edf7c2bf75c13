-- `find` meets its contract: no node that the walk has passed has the name. Assumes nothing.
use native.Mathlib.Omega.{arith}
use Rattle.names.proofs.Chaining.{found_starts, found_none, found_below, found_inside, found_hit, found_miss, walk_below, walk_less}
use Rattle.names.proofs.KnownNames.find.Goals as goal

pub loop-left-init : goal.loop-left-init
loop-left-init c = let p = c.requires.chained in rw c.from-left.ensures (found_starts _ _ _ _ _ _ c.self.invariant _ c.self.view_is _ _ p.0 p.1)

pub span-requires : goal.span-requires
span-requires c = found_below _ _ _ _ _ _ c.self.invariant _ c.self.view_is _ _ c.loop-left.invariant c.loop-left-test.true

pub of-requires : goal.of-requires
of-requires c = found_inside _ _ _ _ _ _ c.self.invariant _ c.self.view_is _ _ c.loop-left.invariant c.loop-left-test.true _ c.span.ensures

pub returns-then-same : goal.returns-then-same
returns-then-same c =
    found_hit _ _ _ _ _ _ c.self.invariant _ c.self.view_is _ _ c.loop-left.invariant c.loop-left-test.true _ c.span.ensures _ _ c.of.ensures c.of-bytes.ensures _ c.same.ensures c.if-same.true

pub offset_bounds-self-inside-number : goal.offset_bounds-self-inside-number
offset_bounds-self-inside-number c =
    omega (arith, walk_below _ _ _ _ _ _ _ c.self.invariant _ c.loop-left.invariant c.loop-left-test.true, c.self.invariant.few)

pub bounds-self-inside-number : goal.bounds-self-inside-number
bounds-self-inside-number c =
    omega (arith, walk_below _ _ _ _ _ _ _ c.self.invariant _ c.loop-left.invariant c.loop-left-test.true, c.self.invariant.few)

pub loop-left-smaller : goal.loop-left-smaller
loop-left-smaller c =
    rw c.from-left-in-loop-left.ensures (walk_less _ _ _ _ _ _ _ c.self.invariant _ c.loop-left.invariant c.loop-left-test.true)

pub loop-left-preserved : goal.loop-left-preserved
loop-left-preserved c =
    rw c.from-left-in-loop-left.ensures
    (found_miss _ _ _ _ _ _ c.self.invariant _ c.self.view_is _ _ c.loop-left.invariant c.loop-left-test.true _ c.span.ensures _ _ c.of.ensures c.of-bytes.ensures _ c.same.ensures c.if-same.false)

pub returns : goal.returns
returns c = found_none _ _ _ _ _ _ c.self.invariant _ c.self.view_is _ _ c.loop-left.invariant c.loop-left-test.false

-- `write_steps` meets its contract: the blocks so far are written. Assumes nothing.
use mathlib.Core.Logic.{inl, inr}
use Rattle.basis.proofs.Steps.{one_sized}
use Rattle.dumping.proofs.Going.{settled_here, moving_here, reached_next, block_room, writes_block, writes_blocks}
use native.Mathlib.Omega.{arith}
use Rattle.dumping.proofs.write_steps.Goals as goal

pub returns-then-place-states : goal.returns-then-place-states
returns-then-place-states c =
    let turn = c.loop-states in
    let evaluated = c.evaluate.ensures in
    let place = c.first_changed-place.ensures in
    record {
      ended = settled_here _ _ _ _ (one_sized _) c.requires.0.states turn.invariant.reached evaluated place (omega arith);
      wrote = writes_blocks _ _ _ _ (one_sized _) c.requires.0.states turn.invariant.reached evaluated place (inl (omega arith)) turn.invariant.written;
    }

pub returns-then-count-limit : goal.returns-then-count-limit
returns-then-count-limit c =
    let turn = c.loop-states in
    let evaluated = c.evaluate.ensures in
    let place = c.first_changed-place.ensures in
    record {
      ended = moving_here _ _ _ _ (one_sized _) c.requires.0.states turn.invariant.reached evaluated place c.if-place-states.false c.if-count-limit.true;
      wrote = writes_blocks _ _ _ _ (one_sized _) c.requires.0.states turn.invariant.reached evaluated place (inr (c.if-place-states.false, c.if-count-limit.true)) turn.invariant.written;
    }

pub put_step-requires : goal.put_step-requires
put_step-requires c =
    let here = c.loop-states.invariant.reached in
    let low = here.low in (
      omega (arith, c.requires.0.states, c.requires.0.fits, here.states_long, here.work_long, c.evaluate.auto),
      omega (arith, c.requires.0.states, c.requires.0.few_nodes, here.states_long),
      block_room _ _ _ _ (one_sized _) c.requires.0.states here c.evaluate.ensures c.first_changed-place.ensures c.if-place-states.false (omega arith) c.requires.2 c.loop-states.invariant.written,
    )

pub loop-states-preserved : goal.loop-states-preserved
loop-states-preserved c =
    let turn = c.loop-states in
    let low = turn.invariant.reached.low in
    let evaluated = c.evaluate in
    let stored = c.store in
    let place = c.first_changed-place.ensures in
    record {
      reached = reached_next _ _ _ _ (one_sized _) c.requires.0.states turn.invariant.reached evaluated.ensures place c.if-place-states.false (omega arith) stored.ensures (omega (arith, stored.auto)) (omega (arith, evaluated.auto));
      written = writes_block _ _ _ _ (one_sized _) c.requires.0.states turn.invariant.reached evaluated.ensures place c.if-place-states.false (omega arith) turn.invariant.written c.put_step.ensures;
    }

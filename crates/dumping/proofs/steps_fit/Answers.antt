-- `steps_fit` meets its contract: what is free is what the blocks so far have left. Assumes nothing.
use mathlib.Core.Path.{◌≡◌}
use mathlib.Core.Logic.{◌⊎◌, ◌≢◌, inl, inr}
use lib.ListN.{length}
use Rattle.basis.proofs.Steps.{one_sized}
use Rattle.dumping.proofs.Going.{reached_next, no_room, less_room, room_enough}
use native.Mathlib.Omega.{arith}
use Rattle.dumping.proofs.steps_fit.Goals as goal
use Rattle.dumping.proofs.steps_fit.Goals.{then-place-states-via-then-place-states, then-place-states-via-else-place-states+then-count-limit}

pub returns-then-place-states : goal.returns-then-place-states
returns-then-place-states c =
    let turn = c.loop-states in
    let last : (c.first_changed-place.result ≡ length turn.states) ⊎ ((c.first_changed-place.result ≢ length turn.states) × (turn.count ≡ c.args.limit)) = elim c.then-place-states.branch [
      | then-place-states-via-then-place-states w ↦ inl (omega (arith, w.if-place-states.true))
      | then-place-states-via-else-place-states+then-count-limit w ↦ inr (w.if-place-states.false, w.if-count-limit.true)
    ] in
    room_enough _ _ _ _ (one_sized _) c.requires.0.states turn.invariant.reached c.evaluate.ensures c.first_changed-place.ensures last turn.free turn.invariant.left

pub returns-then-free-block : goal.returns-then-free-block
returns-then-free-block c =
    let turn = c.loop-states in
    let low = turn.invariant.reached.low in
    no_room _ _ _ _ (one_sized _) c.requires.0.states turn.invariant.reached c.evaluate.ensures c.first_changed-place.ensures c.if-place-states.false (omega arith) turn.invariant.left c.step_length-block.ensures c.if-free-block.true

pub loop-states-preserved : goal.loop-states-preserved
loop-states-preserved c =
    let turn = c.loop-states in
    let low = turn.invariant.reached.low in
    let evaluated = c.evaluate in
    let stored = c.store in
    let place = c.first_changed-place.ensures in
    record {
      reached = reached_next _ _ _ _ (one_sized _) c.requires.0.states turn.invariant.reached evaluated.ensures place c.if-place-states.false (omega arith) stored.ensures (omega (arith, stored.auto)) (omega (arith, evaluated.auto));
      left = less_room _ _ _ _ (one_sized _) c.requires.0.states turn.invariant.reached evaluated.ensures place c.if-place-states.false (omega arith) turn.invariant.left c.step_length-block.ensures c.if-free-block.false;
    }

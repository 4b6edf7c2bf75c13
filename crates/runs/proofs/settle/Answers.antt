-- `runs::settle` meets its contract: what is left of the steps is what is left of the definition. Assumes nothing.
use Rattle.std.proofs.Common.{◌∙◌, arith}
use Rattle.basis.proofs.Steps.{one_sized, rests, stops, goes}
use Rattle.runs.proofs.settle.Goals as goal

pub returns-then-place-states : goal.returns-then-place-states
returns-then-place-states c =
    let turn = c.loop-states in
    rests c.evaluate.ensures (turn.auto.states ∙ c.requires.0.states) (one_sized _) c.first_changed-place.ensures c.args.limit turn.invariant.left turn.invariant.spared (omega (arith, c.if-place-states.true))

pub returns-then-count-limit : goal.returns-then-count-limit
returns-then-count-limit c =
    let turn = c.loop-states in
    stops c.evaluate.ensures (turn.auto.states ∙ c.requires.0.states) (one_sized _) c.first_changed-place.ensures c.args.limit turn.invariant.left turn.invariant.spared c.if-place-states.false (omega (arith, c.if-count-limit.true))

pub loop-states-preserved : goal.loop-states-preserved
loop-states-preserved c =
    let turn = c.loop-states in
    let evaluated = c.evaluate.ensures in
    let below = c.if-count-limit.false in
    record {
      within = omega arith;
      left = goes evaluated (turn.auto.states ∙ c.requires.0.states) (one_sized _) c.first_changed-place.ensures c.args.limit turn.invariant.left c.if-place-states.false (omega arith) c.store.ensures;
      spared = λ k l. evaluated.after k l ∙ turn.invariant.spared k l;
    }

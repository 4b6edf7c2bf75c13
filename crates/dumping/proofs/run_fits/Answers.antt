-- `run_fits` meets its contract: the front alone, or the front and the blocks of the steps. Assumes nothing.
use Prim.Native.Nat.{ℕ}
use mathlib.Core.Path.{refl, ◌∙◌, ap}
use mathlib.Core.List.{List}
use Rattle.model.specs.Run.{put}
use Rattle.dumping.proofs.Whole.{front_too_long, blocks_decide}
use Rattle.dumping.proofs.run_fits.Goals as goal

pub returns-then-room-front : goal.returns-then-room-front
returns-then-room-front c =
    let entering = c.enter.ensures ∙ ap (λ (x : List ℕ). put x c.args.changes.now.nodes.now c.args.changes.now.states.now) c.copy_from_slice.ensures.after in
    blocks_decide _ _ _ _ c.args.limit entering c.limit_of.ensures c.front_length-front.ensures c.args.room c.if-room-front.true c.steps_fit.ensures

pub returns-else-room-front : goal.returns-else-room-front
returns-else-room-front c =
    let entering = c.enter.ensures ∙ ap (λ (x : List ℕ). put x c.args.changes.now.nodes.now c.args.changes.now.states.now) c.copy_from_slice.ensures.after in
    front_too_long _ _ _ _ c.args.limit entering refl c.front_length-front.ensures c.if-room-front.false

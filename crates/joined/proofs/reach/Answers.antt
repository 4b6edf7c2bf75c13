-- `joined::reach` meets its contract: by whether the node was taken. Assumes nothing.
use native.Mathlib.Omega.{arith}
use lib.ListN.{length-set}
use Rattle.joined.proofs.Reaching.{room_tail}
use Rattle.joined.proofs.reach.Goals as goal

pub overflow_add-work-2 : goal.overflow_add-work-2
overflow_add-work-2 c =
    let free = room_tail c.requires.0 _ c.requires.1 c.if-m-lt-TELLING.false in
    omega arith

pub offset_bounds-work-n-3 : goal.offset_bounds-work-n-3
offset_bounds-work-n-3 c =
    let free = room_tail c.requires.0 _ c.requires.1 c.if-m-lt-TELLING.false in
    omega arith

pub bounds-work-n-3 : goal.bounds-work-n-3
bounds-work-n-3 c =
    let free = room_tail c.requires.0 _ c.requires.1 c.if-m-lt-TELLING.false in
    simp length-set (omega arith)

pub overflow_add-result : goal.overflow_add-result
overflow_add-result c =
    let free = room_tail c.requires.0 _ c.requires.1 c.if-m-lt-TELLING.false in
    omega arith

-- `step_length` meets its contract: a time's line and the lines of the changed nodes. Assumes nothing.
use native.Mathlib.Omega.{arith}
use Rattle.wavelaws.proofs.Digits.{decimal_few}
use Rattle.wavelaws.proofs.Lengths.{time_length, step-length, step_few}
use Rattle.blocks.proofs.step_length.Goals as goal

pub overflow_add-result : goal.overflow_add-result
overflow_add-result c = omega (arith, decimal_few 4 c.args.time (omega arith))

pub overflow_add-result-2 : goal.overflow_add-result-2
overflow_add-result-2 c =
    let time = c.args.time in
    let states = c.args.states.now in
    let next = c.args.next.now in
    omega (arith, time_length time, step-length time states next, step_few time states next c.requires.0 c.requires.2)

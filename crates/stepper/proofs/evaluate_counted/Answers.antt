-- `stepper::evaluate_counted` meets its contract: the joined sets begin both tables, which are then filled, and decide the step. Assumes nothing.
use native.Mathlib.Omega.{arith}
use Rattle.stepper.proofs.Whole.{parting, filling0, filling1, whole}
use Rattle.stepper.proofs.evaluate_counted.Goals as goal

pub part_all-parts-requires : goal.part_all-parts-requires
part_all-parts-requires c = parting c.requires c.lay_out.ensures (omega arith)

pub fill-first-requires : goal.fill-first-requires
fill-first-requires c = filling0 c.requires c.lay_out.ensures (omega arith) c.part_all-parts.ensures.0 (omega arith)

pub fill-second-requires : goal.fill-second-requires
fill-second-requires c = filling1 c.requires c.lay_out.ensures (omega arith) c.part_all-parts.ensures.0 (omega arith) c.fill-first.ensures.0 (omega arith)

pub returns : goal.returns
returns c = (
  whole c.requires c.lay_out.ensures (omega arith) c.part_all-parts.ensures.0 (omega arith) c.fill-first.ensures.0 (omega arith) c.fill-second.ensures.0 c.finish.ensures.0 c.finish.ensures.1,
  omega (arith, c.part_all-parts.ensures.1, c.fill-first.ensures.1, c.fill-second.ensures.1, c.requires.sources),
)

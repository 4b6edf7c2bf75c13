-- `Writer::text` meets its contract: the part from the writer's place on becomes the text. Assumes nothing.
use native.Mathlib.Omega.{arith}
use mathlib.Core.Path.{refl, ap, ◌∙◌}
use lib.ListN.{length}
use lib.Seq.{length-sets}
use Rattle.lettering.proofs.Writes.{part_written}
use Rattle.lettering.proofs.Writer.text.Goals as goal

pub returns : goal.returns
returns c =
    let w = c.args.self.now in
    let text = c.args.text.now in
    let stored = part_written w.out.now w.place _ _ text c.copy_from_slice.ensures.after (omega arith) c.requires in
    record { same_output = refl; long = ap length stored ∙ length-sets w.out.now w.place text; wrote = record { goes_on = refl; stored = stored } }

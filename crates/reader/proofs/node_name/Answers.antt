-- `node_name` meets its contract: the part lies in the text. Assumes nothing.
use Rattle.reader.proofs.Parts.{part_inside}
use Rattle.reader.proofs.node_name.Goals as goal

pub of-requires : goal.of-requires
of-requires c = part_inside _ _ _ c.node_span.ensures

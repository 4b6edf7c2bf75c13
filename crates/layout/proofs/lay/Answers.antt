-- `layout::lay` meets its contract: by how the transistor stands. Assumes nothing.
use Rattle.layout.proofs.Looks.{next_on}
use Rattle.layout.proofs.lay.Goals as goal

pub returns-in_default : goal.returns-in_default
returns-in_default c = next_on _ c.from.ensures c.of.ensures c.in_default.not-Open c.lay_one.ensures

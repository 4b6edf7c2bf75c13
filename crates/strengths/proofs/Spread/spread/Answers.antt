-- `strengths::Spread::spread` meets its contract: the nodes that have the strength are gathered, and then taken until none waits. Assumes nothing.
use Rattle.strengths.proofs.Levels.{level_waiting, level_end}
use Rattle.strengths.proofs.Spread.spread.Goals as goal

pub empty-requires : goal.empty-requires
empty-requires c = (level_waiting c.requires.0 _ c.gather-end.ensures, c.requires.1)

pub returns : goal.returns
returns c = λ z. level_end z _ c.gather-end.ensures (c.empty.ensures (level_waiting z _ c.gather-end.ensures))

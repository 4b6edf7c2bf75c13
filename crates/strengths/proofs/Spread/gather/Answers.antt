-- `strengths::Spread::gather` meets its contract: the queue holds those of the members passed whose cell is c. Assumes nothing.
use Rattle.strengths.proofs.Levels.{gathered_none, gathered_requires, gathered_more}
use Rattle.strengths.proofs.Spread.gather.Goals as goal

pub loop-k-init : goal.loop-k-init
loop-k-init c = gathered_none

pub note-tail-requires : goal.note-tail-requires
note-tail-requires c = gathered_requires c.requires.1 c.loop-k.invariant _ c.loop-k-test.true c.member-v.ensures

pub loop-k-preserved : goal.loop-k-preserved
loop-k-preserved c = gathered_more c.requires.1 c.loop-k.invariant c.loop-k-test.true c.member-v.ensures c.note-tail.ensures

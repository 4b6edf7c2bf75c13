-- `enter` meets its contract: the new name heads its chain. Assumes nothing.
use Rattle.names.proofs.Chaining.{entered_linked, entered_seen}
use Rattle.names.proofs.KnownNames.enter.Goals as goal

pub invariant_of-self : goal.invariant_of-self
invariant_of-self c =
    let q = c.requires in
    entered_linked _ _ _ _ _ _ c.self.invariant _ c.self.view_is _ _ q.room q.fits.inside q.chained.0 q.chained.1 q.unknown _ c.count-number.ensures.count

pub returns-clause-entered : goal.returns-clause-entered
returns-clause-entered c =
    let q = c.requires in
    entered_seen _ _ _ _ _ _ c.self.invariant _ c.self.view_is _ _ q.room q.fits.inside q.chained.0 q.chained.1 q.unknown _ c.count-number.ensures.count

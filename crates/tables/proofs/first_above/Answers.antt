-- `first_above` meets its contract: `position` tests each byte. Assumes nothing.
use Rattle.std.proofs.Common.{ltb, rules, tests, ◌∙◌}
use Rattle.std.proofs.lemmas.Iterator.{YieldsList-from_slice}
use Rattle.std.proofs.lemmas.Iterator.Search.{position_from_yields_List}
use Rattle.tables.proofs.Searching.{place_from_position}
use Rattle.tables.proofs.first_above.Goals as goal

pub returns : goal.returns
returns c =
    let a = c.args in
    position_from_yields_List (ltb a.m) _ _ _ c.position.ensures.ran (YieldsList-from_slice a.s.now cc) (λ x b q k. search (rules, tests))
    ∙ place_from_position (ltb a.m) a.s.now

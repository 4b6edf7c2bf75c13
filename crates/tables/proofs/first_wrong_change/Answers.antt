-- `first_wrong_change` meets its contract: `find` tests each entry. Assumes nothing.
use lib.ListN.{length}
use native.Mathlib.Omega.{arith}
use mathlib.Core.Bool.{Bool}
use Prim.Native.Nat.{ℕ}
use Rattle.std.proofs.Common.{refl, rules, tests, ◌∙◌}
use Rattle.std.proofs.lemmas.Iterator.{YieldsList-from_range}
use Rattle.std.proofs.lemmas.Iterator.Search.{find_from_yields_List}
use Rattle.model.specs.Places.{any}
use Rattle.model.specs.Net.{alone}
use Rattle.model.specs.Lent.{asked}
use Rattle.model.specs.Rules.{change_tests}
use Rattle.tables.proofs.Searching.{place_from_find, as_found}
use Rattle.tables.proofs.first_wrong_change.Goals as goal

pub returns : goal.returns
returns c =
    let changes = asked c.args.changes.now in
    let wrong : ℕ → Bool = λ e. any (change_tests (alone c.args.kinds.now) changes e) in
    as_found c.find.result
    ∙ find_from_yields_List wrong _ _ _ c.find.ensures.ran (YieldsList-from_range 0 _ _ refl (omega arith)) (λ x b q k. search (rules, tests))
    ∙ place_from_find wrong (length changes.places)

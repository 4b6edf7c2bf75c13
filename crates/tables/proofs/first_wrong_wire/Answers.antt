-- `first_wrong_wire` meets its contract: `find` tests each transistor. Assumes nothing.
use lib.ListN.{length}
use native.Mathlib.Omega.{arith}
use mathlib.Core.Bool.{Bool}
use Prim.Native.Nat.{ℕ}
use Rattle.std.proofs.Common.{refl, rules, tests, ◌∙◌}
use Rattle.std.proofs.lemmas.Iterator.{YieldsList-from_range}
use Rattle.std.proofs.lemmas.Iterator.Search.{find_from_yields_List}
use Rattle.model.specs.Places.{any}
use Rattle.model.specs.Lent.{lent}
use Rattle.model.specs.Rules.{wire_tests}
use Rattle.tables.proofs.Searching.{place_from_find, as_found}
use Rattle.tables.proofs.first_wrong_wire.Goals as goal

pub returns : goal.returns
returns c =
    let net = lent c.args.net.now in
    let wrong : ℕ → Bool = λ t. any (wire_tests net t) in
    as_found c.find.result
    ∙ find_from_yields_List wrong _ _ _ c.find.ensures.ran (YieldsList-from_range 0 _ _ refl (omega arith)) (λ x b q k. search (rules, tests))
    ∙ place_from_find wrong (length net.types)

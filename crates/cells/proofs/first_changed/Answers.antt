-- `cells::first_changed` meets its contract: the first pair of states that differ. Assumes nothing.
use Rattle.std.proofs.Common.{◌≡◌, sym, ap, ◌∙◌, length, take, rules, tests}
use Rattle.std.specs.Option.{unwrap_or}
use Rattle.std.proofs.lemmas.Iterator.{YieldsList-from_slice, YieldsList-from_zip}
use Rattle.std.proofs.lemmas.Iterator.Search.{position_from_yields_List}
use Rattle.model.specs.Entries.{first_changed}
use Rattle.basis.proofs.Altered.{differs, first_of_pairs}
use Rattle.cells.proofs.first_changed.Goals as goal

-- the place that is found
place_is : (c : goal.After-unwrap_or) → unwrap_or c.position-first.result (length c.args.states.now) ≡ first_changed c.args.states.now c.args.work.now
place_is c =
    let s = c.args.states.now in
    let pairs = YieldsList-from_zip (YieldsList-from_slice s cc) (YieldsList-from_slice (take (length s) c.args.work.now) cc) in
    let found = position_from_yields_List differs c.position-first.new.self _ c.position-first.result c.position-first.ensures.ran pairs (λ x b q k. search (rules, tests)) in
    ap (λ r. unwrap_or r (length s)) found ∙ first_of_pairs s c.args.work.now c.requires.0

-- What `unwrap_or` is of is left to the search: the same place in other words proves, another place does not.
pub returns : goal.returns
returns c = rw (sym (place_is c)) (search rules)

-- `cells::differing` meets its contract: each pair of states that differ adds one. Assumes nothing.
use Rattle.std.proofs.Common.{◌∙◌, of_calls, rules, tests, arith}
use Rattle.std.proofs.lemmas.Iterator.{YieldsList-from_slice, YieldsList-from_zip, YieldsList-from_map}
use Rattle.std.proofs.lemmas.Iterator.Consumers.{sum_by_from_yields_List, fits_by_from_yields_list}
use Rattle.std.specs.List.{zip}
use Rattle.basis.proofs.Altered.{one_if_differs, sum_of_pairs, sum_few}
use Rattle.cells.proofs.differing.Goals as goal

pub sum-requires : goal.sum-requires
sum-requires c =
    let few = sum_few c.args.states.now c.args.work.now c.requires.0 in
    record {
      can = search of_calls;
      finite = search of_calls;
      fits = fits_by_from_yields_list one_if_differs (zip c.args.states.now c.args.work.now) c.map.result _
          (YieldsList-from_map _ one_if_differs (YieldsList-from_zip (YieldsList-from_slice c.args.states.now cc) (YieldsList-from_slice c.args.work.now cc)) c.map.ensures.closure (λ x r q k. search (rules, tests)))
          (omega arith);
    }

pub returns : goal.returns
returns c =
    let summed = sum_by_from_yields_List one_if_differs _ c.map.result c.sum.result c.sum.ensures.ran
    (YieldsList-from_map _ one_if_differs (YieldsList-from_zip (YieldsList-from_slice c.args.states.now cc) (YieldsList-from_slice c.args.work.now cc)) c.map.ensures.closure (λ x r q k. search (rules, tests))) in
    summed ∙ sum_of_pairs _ _ c.requires.0

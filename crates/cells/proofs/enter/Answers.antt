-- `cells::enter` meets its contract: the changes passed are entered. Assumes nothing.
use Rattle.std.proofs.Common.{length, ◌∙◌, arith}
use Rattle.std.proofs.lemmas.List.{length_push}
use Rattle.std.proofs.lemmas.Slice.Zip.{zip_turn, zip_end}
use Rattle.basis.proofs.Entering.{entering_more, entering_all}
use Rattle.cells.proofs.enter.Goals as goal

pub loop-node-preserved : goal.loop-node-preserved
loop-node-preserved c =
    let changes = c.args.changes.now in
    let passed = c.loop-node in
    let turn = zip_turn changes.nodes.now changes.states.now _ _ _ c.next.new.self _ (cc) (cc) passed.yielded_by _ c.in-Some.is c.next.ensures.steps in
    rw (c.from.ensures, turn.2 0, turn.3 0, length_push) (entering_more _ _ _ c.requires.lengths _ turn.0 passed.invariant)

pub returns : goal.returns
returns c =
    let changes = c.args.changes.now in
    let passed = c.loop-node in
    let end = zip_end changes.nodes.now changes.states.now _ _ _ c.next.new.self _ (cc) (cc) passed.yielded_by c.in-None.is c.next.ensures.steps in
    passed.invariant ∙ entering_all _ _ _ c.requires.lengths (length passed.yielded) (omega arith)

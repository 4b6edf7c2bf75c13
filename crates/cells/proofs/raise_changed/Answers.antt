-- `cells::raise_changed` meets its contract: the changes passed are raised. Assumes nothing.
use Rattle.std.proofs.Common.{length, ap, ◌∙◌, sym, arith}
use Rattle.std.proofs.lemmas.List.{length_push}
use Rattle.std.proofs.lemmas.Slice.Zip.{zip_turn, zip_end}
use Rattle.model.specs.Run.{raised}
use Rattle.basis.proofs.Entering.{raised_none, raising_more, entering_all}
use Rattle.cells.proofs.raise_changed.Goals as goal

pub loop-node-init : goal.loop-node-init
loop-node-init c = sym (raised_none _)

pub loop-node-preserved : goal.loop-node-preserved
loop-node-preserved c =
    let changes = c.args.changes.now in
    let passed = c.loop-node in
    let turn = zip_turn changes.nodes.now changes.states.now _ _ _ c.next.new.self _ (cc) (cc) passed.yielded_by _ c.in-Some.is c.next.ensures.steps in
    let new = rw (c.from-node.ensures, turn.2 0, turn.3 0) at c.raised_state.ensures in
    rw (c.from-node.ensures, turn.2 0, length_push) (raising_more _ _ _ c.requires.0 c.requires.1 _ turn.0 passed.invariant new)

pub returns : goal.returns
returns c =
    let changes = c.args.changes.now in
    let passed = c.loop-node in
    let end = zip_end changes.nodes.now changes.states.now _ _ _ c.next.new.self _ (cc) (cc) passed.yielded_by c.in-None.is c.next.ensures.steps in
    passed.invariant ∙ ap (raised c.args.states.now) (entering_all _ _ _ c.requires.0.lengths (length passed.yielded) (omega arith))

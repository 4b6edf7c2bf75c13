-- `joined::part_all` meets its contract: the sets of the nodes passed are taken. Assumes nothing.
use Rattle.joined.specs.Floods.{nothing, turn}
use Rattle.joined.proofs.Turning.{visits_few, turns_law, taking_end}
use Rattle.joined.proofs.part_all.Goals as goal

pub loop-v-init : goal.loop-v-init
loop-v-init c = nothing

pub part-parts-requires : goal.part-parts-requires
part-parts-requires c =
    record { listed = c.requires.0; unsure = c.requires.1; before = _; startable = c.requires.2; taking = turns_law c.args.wiring.now c.requires.2 c.loop-v.invariant; inside = c.loop-v-test.true }

pub loop-v-preserved : goal.loop-v-preserved
loop-v-preserved c = turn c.loop-v.invariant c.loop-v-test.true c.part-parts.ensures

pub returns : goal.returns
returns c =
    let W = c.args.wiring.now in
    (λ listed unsure S. taking_end W S c.loop-v-test.false (turns_law W S c.loop-v.invariant), visits_few (turns_law W c.requires.2 c.loop-v.invariant))

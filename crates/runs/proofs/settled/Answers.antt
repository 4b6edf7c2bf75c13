-- `runs::settled` meets its contract: no node is changed. Assumes nothing.
use Rattle.basis.proofs.Steps.{one_sized, settled_test}
use Rattle.runs.proofs.settled.Goals as goal

pub returns : goal.returns
returns c =
    let evaluated = c.evaluate.ensures in
    record { tells = settled_test evaluated c.requires.states (one_sized _) c.first_changed.ensures; spared = evaluated.after }

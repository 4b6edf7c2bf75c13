-- `runs::step_once` meets its contract: the evaluated step takes effect. Assumes nothing.
use mathlib.Core.Path.{◌∙◌}
use Rattle.basis.proofs.Steps.{one_sized, evaluated_place, evaluated_count, evaluated_states}
use Rattle.runs.proofs.step_once.Goals as goal

pub returns : goal.returns
returns c =
    let evaluated = c.evaluate.ensures in
    record {
      place = c.first_changed-first.ensures ∙ evaluated_place evaluated c.requires.states;
      count = c.differing-count.ensures ∙ evaluated_count evaluated c.requires.states;
      states = c.store.ensures ∙ evaluated_states evaluated c.requires.states (one_sized _);
      spared = evaluated.after;
    }

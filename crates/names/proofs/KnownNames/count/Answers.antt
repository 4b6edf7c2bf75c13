-- `count` meets its contract. Assumes nothing.
use mathlib.Core.Path.{◌∙◌}
use Rattle.names.proofs.Seen.{seen_count}
use Rattle.names.proofs.KnownNames.count.Goals as goal

pub returns-clause-count : goal.returns-clause-count
returns-clause-count c = c.from.ensures ∙ seen_count _ _ _ _ _ c.self.view_is

-- `text` meets its contract. Assumes nothing.
use Rattle.names.proofs.Seen.{seen_text}
use Rattle.names.proofs.KnownNames.text.Goals as goal

pub returns-clause-text : goal.returns-clause-text
returns-clause-text c = seen_text _ _ _ _ _ c.self.view_is

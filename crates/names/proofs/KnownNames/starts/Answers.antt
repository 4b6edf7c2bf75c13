-- `starts` meets its contract: the front of the table. Assumes nothing.
use native.Mathlib.Omega.{arith}
use mathlib.Core.Path.{ap, ◌∙◌}
use lib.ListN.{take}
use Rattle.names.proofs.Seen.{seen_starts}
use Rattle.names.proofs.KnownNames.starts.Goals as goal

pub returns : goal.returns
returns c = ap (λ j. take j c.self.inside.starts) c.count.ensures.count ∙ seen_starts _ _ _ _ _ c.self.view_is (omega arith)

-- `sizes` meets its contract: the front of the table. Assumes nothing.
use native.Mathlib.Omega.{arith}
use mathlib.Core.Path.{ap, ◌∙◌}
use lib.ListN.{take}
use Rattle.names.proofs.Seen.{seen_sizes}
use Rattle.names.proofs.KnownNames.sizes.Goals as goal

pub returns : goal.returns
returns c = ap (λ j. take j c.self.inside.sizes) c.count.ensures.count ∙ seen_sizes _ _ _ _ _ c.self.view_is (omega arith)

-- `transistors` meets its contract. Assumes nothing.
use native.Mathlib.Omega.{arith}
use mathlib.Core.Path.{sym, ap, ◌∙◌}
use Rattle.model.specs.Net.{transistors}
use Rattle.devices.specs.Tables.{SoFar}
use lib.Seq.{length-take-le}
use Rattle.devices.proofs.Netlist.transistors.Goals as goal

pub returns-clause-count : goal.returns-clause-count
returns-clause-count c =
    c.from.ensures ∙ (sym (length-take-le _ c.self.inside.types (omega arith)) ∙ ap (λ (x : SoFar). transistors x.list.net) c.self.view_is)

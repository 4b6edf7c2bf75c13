-- `span` meets its contract. Assumes nothing.
use mathlib.Core.Path.{ap, ap₂, ◌∙◌}
use Prim.Native.Nat.{ℕ}
use mathlib.Core.List.{List}
use lib.ListN.{get_or}
use Rattle.text.specs.Bytes.{span}
use Rattle.names.proofs.Seen.{span_told}
use Rattle.names.proofs.KnownNames.span.Goals as goal

pub returns : goal.returns
returns c =
    let at_number : List ℕ → ℕ = λ l. get_or l c.args.number 0 in
    ap₂ span (c.from.ensures ∙ ap at_number c.starts.ensures) (c.from-2.ensures ∙ ap at_number c.sizes.ensures) ∙ span_told c.args.self.now.names c.args.number

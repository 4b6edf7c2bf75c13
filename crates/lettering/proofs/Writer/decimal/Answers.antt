-- `Writer::decimal` meets its contract: the number's digits are written. Assumes nothing.
use native.Mathlib.Omega.{arith}
use mathlib.Core.Path.{◌≡◌, ap, ◌∙◌}
use lib.ListN.{length}
use Rattle.waves.specs.Dump.{decimal}
use Rattle.lettering.proofs.Numbers.{decimal_is}
use Rattle.lettering.proofs.Writes.{writes_as}
use Rattle.lettering.proofs.Writer.decimal.Goals as goal

pub text-requires : goal.text-requires
text-requires c =
    let digits : c.as_bytes.result.now ≡ decimal c.args.number = c.as_bytes.ensures.value ∙ c.format.ensures.text ∙ decimal_is c.args.number (omega arith) in
    omega (arith, c.requires, ap length digits)

pub returns : goal.returns
returns c =
    writes_as (c.as_bytes.ensures.value ∙ c.format.ensures.text ∙ decimal_is c.args.number (omega arith)) c.text.ensures

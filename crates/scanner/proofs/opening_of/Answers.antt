-- `opening_of` meets its contract: a field of one byte that says nothing. Assumes nothing.
use Rattle.std.proofs.Common.{arith}
use Rattle.std.proofs.lemmas.Bool.Decides.{nat_tests}
use Rattle.scanner.proofs.Opening.{opening_is}
use Rattle.scanner.proofs.opening_of.Goals as goal

pub returns-in_default : goal.returns-in_default
returns-in_default c = rw (opening_is c.args.word.now) (grind (arith, nat_tests))

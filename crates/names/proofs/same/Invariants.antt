-- `same` meets its contract: what is left to compare decides. Assumes nothing.
use Rattle.std.proofs.Common.{◌≡◌, drop}
use Rattle.model.specs.Places.{same}
use Rattle.names.proofs.same.Given as goal

abbrev pub invariant-loop-i : goal.invariant-loop-i
invariant-loop-i l =
    same (drop l.i l.a) (drop l.i l.b) ≡ same l.a l.b

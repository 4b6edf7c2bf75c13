-- The name of each entry. Assumes nothing.
use Rattle.std.specs.Prelude.{ℕ, List, codes}
use Rattle.trials.specs.declared.Entry.{Entry}
use Rattle.trials.specs.declared.Entry.TheVariants.{Check, Reset, Step, Unit, Ternary}

abbrev pub name : Entry → List ℕ
name Check = codes "check"
name Reset = codes "reset"
name Step = codes "step"
name Unit = codes "unit"
name Ternary = codes "ternary"

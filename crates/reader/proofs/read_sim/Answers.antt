-- `read_sim` meets its contract: lent tables that pass are within the bounds. Assumes nothing.
use mathlib.Core.Path.{sym, ◌∙◌}
use Rattle.basis.proofs.Fitting.{check_sized}
use Rattle.reader.proofs.read_sim.Goals as goal

pub read_sized-requires : goal.read_sized-requires
read_sized-requires c = (c.if-text-gt-MOST_BYTES.false, check_sized _ (sym c.wrong_check_sizes.ensures ∙ c.if-wrong_check_sizes.false))

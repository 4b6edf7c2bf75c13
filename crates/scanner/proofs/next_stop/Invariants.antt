-- `next_stop` meets its contract: each closure tests what its stop says. Assumes nothing.
use Rattle.std.proofs.Common.{not, ◌||◌}
use Rattle.text.specs.Lines.{blank, feed}
use Rattle.scanner.proofs.next_stop.Given as goal

abbrev pub ghost-next_where : goal.ghost-next_where
ghost-next_where a = feed

abbrev pub ghost-next_where-2 : goal.ghost-next_where-2
ghost-next_where-2 a = λ b. blank b || feed b

abbrev pub ghost-next_where-3 : goal.ghost-next_where-3
ghost-next_where-3 a = λ b. not (blank b)

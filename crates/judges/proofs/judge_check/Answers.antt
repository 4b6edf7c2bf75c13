-- `judge_check` asks for lengths within the bounds: their test found nothing wrong. Assumes nothing.
use Rattle.basis.proofs.Fitting.{check_sized}
use Rattle.judges.proofs.judge_check.Goals as goal

pub judge_tables-requires : goal.judge_tables-requires
judge_tables-requires c = check_sized _ cc

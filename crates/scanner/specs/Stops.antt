-- The bytes at which a scan stops. Assumes nothing.
use Rattle.std.specs.Prelude.{ℕ, Bool, not, ◌||◌}
use Rattle.text.specs.Lines.{feed, blank}
use Rattle.scanner.specs.declared.Stop.{Stop}
use Rattle.scanner.specs.declared.Stop.TheVariants.{Feed, Gap, Word}

abbrev pub stops : Stop → ℕ → Bool
stops Feed b = feed b
stops Gap b = blank b || feed b
stops Word b = not (blank b)

-- The letter of a state: 0, 1, and X for every other. Assumes nothing.
use Rattle.std.specs.Prelude.{ℕ, List, codes, ◌==◌, if◌then◌else◌}

abbrev pub letter : ℕ → List ℕ
letter state = if state == 0 then codes "0" else if state == 1 then codes "1" else codes "X"

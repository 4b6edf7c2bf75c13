-- What a search through a table answers: the first place that passes a test, or that there is none. Assumes nothing.
use Rattle.std.specs.Prelude.{ℕ, Bool, cond, ltb, Option, Some, None}
use Rattle.model.specs.Places.{first}

-- the least place below n at which the test passes, if there is one
abbrev pub place_of : ℕ → (ℕ → Bool) → Option ℕ
place_of n p = cond (ltb (first n p) n) (Some (first n p)) None

-- Cells of a table that are written in a row, and cells that are as they came. Assumes nothing.
use Rattle.std.specs.Prelude.{ℕ, ◌+◌, ◌≤◌, ◌<◌, ◌≡◌, List}
use Rattle.model.specs.Places.{at}

-- w' is w with f's values in the `count` cells from `first` on
pub record Written (f : ℕ → ℕ) (w : List ℕ) (first count : ℕ) (w' : List ℕ) : Type 0 where
  pub inside : (k : ℕ) → k < count → at w' (first + k) ≡ f k
  pub before : (k : ℕ) → k < first → at w' k ≡ at w k
  pub after : (k : ℕ) → first + count ≤ k → at w' k ≡ at w k

-- the first `count` cells hold bytes
abbrev pub Bytes : ℕ → List ℕ → Type 0
Bytes count w = (v : ℕ) → v < count → at w v ≤ 255

-- the cells past the first `used` are as they came
abbrev pub Spared : ℕ → List ℕ → List ℕ → Type 0
Spared used w w' = (k : ℕ) → used ≤ k → at w' k ≡ at w k

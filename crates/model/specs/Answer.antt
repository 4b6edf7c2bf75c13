-- The number, the place and the two counts of each answer: the rows of the table of answers. Assumes nothing.
use Rattle.std.specs.Prelude.{ℕ, List, [], ◌∷◌}
use Rattle.model.specs.Places.{at}
use Rattle.model.specs.declared.Answer.{Answer}
use Rattle.model.specs.declared.Answer.TheVariants.{Done, Size, Limit, Kind, Wire, State, Change, Start, Oscillates, Text}

-- number, place, first count, second count
abbrev pub row : Answer → List ℕ
row (Done p k l) = 0 ∷ p ∷ k ∷ l ∷ []
row Size = 1 ∷ 0 ∷ 0 ∷ 0 ∷ []
row Limit = 2 ∷ 0 ∷ 0 ∷ 0 ∷ []
row (Kind p) = 3 ∷ p ∷ 0 ∷ 0 ∷ []
row (Wire p) = 4 ∷ p ∷ 0 ∷ 0 ∷ []
row (State p) = 5 ∷ p ∷ 0 ∷ 0 ∷ []
row (Change p) = 6 ∷ p ∷ 0 ∷ 0 ∷ []
row Start = 7 ∷ 0 ∷ 0 ∷ 0 ∷ []
row (Oscillates p k) = 8 ∷ p ∷ k ∷ 0 ∷ []
row (Text p) = 9 ∷ p ∷ 0 ∷ 0 ∷ []

abbrev pub number : Answer → ℕ
number a = at (row a) 0

abbrev pub place : Answer → ℕ
place a = at (row a) 1

abbrev pub first_count : Answer → ℕ
first_count a = at (row a) 2

abbrev pub second_count : Answer → ℕ
second_count a = at (row a) 3

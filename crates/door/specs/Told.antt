-- What a call over C leaves: the four numbers of the answer, and the tables as the entry's outcome has them. Assumes nothing.
use Rattle.std.specs.Prelude.{ℕ, ◌≡◌, List}
use Rattle.model.specs.Answer.{row}
use Rattle.model.specs.Net.{Net}
use Rattle.model.specs.Entries.{Outcome}
use Rattle.text.specs.Reading.{Read, Listed}

pub record Told (o : Outcome) (answer states work : List ℕ) : Type 0 where
  pub numbers : answer ≡ row o.answer
  pub states_left : states ≡ o.states
  pub work_left : work ≡ o.work

pub record ToldRead (o : Read) (answer : List ℕ) (tables : Net) : Type 0 where
  pub numbers : answer ≡ row o.answer
  pub tables_left : tables ≡ o.tables

pub record ToldNames (o : Listed) (answer starts sizes : List ℕ) : Type 0 where
  pub numbers : answer ≡ row o.answer
  pub starts_left : starts ≡ o.starts
  pub sizes_left : sizes ≡ o.sizes

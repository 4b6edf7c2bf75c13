-- Networks that list the same transistors, change lists that list the same changes, and runs that are the same. Assumes nothing.
use Rattle.std.specs.Prelude.{ℕ, ◌<◌, ◌≡◌, ◌⊎◌, length}
use Rattle.model.specs.Places.{at}
use Rattle.model.specs.Net.{Net, transistors}
use Rattle.model.specs.Run.{Changes}
use Rattle.model.specs.Answer.{number}
use Rattle.model.specs.Entries.{Outcome}
use Rattle.model.specs.declared.Answer.{Answer}

-- the transistor t of `net` stands in `other` too: the same type, the same gate and the same two ends, either way round
pub record Copy (net other : Net) (t : ℕ) : Type 0 where
  pub wire : ℕ
  pub below : wire < transistors other
  pub typed : at other.types wire ≡ at net.types t
  pub gated : at other.gates wire ≡ at net.gates t
  pub ended : ((at other.sources wire ≡ at net.sources t) × (at other.drains wire ≡ at net.drains t))
      ⊎ ((at other.drains wire ≡ at net.sources t) × (at other.sources wire ≡ at net.drains t))

-- each transistor of `net` stands in `other` too
abbrev pub Held : Net → Net → Type 0
Held net other = (t : ℕ) → t < transistors net → Copy net other t

-- the same kinds and the same transistors, in any order, each any number of times
pub record Alike (net other : Net) : Type 0 where
  pub kinds : net.kinds ≡ other.kinds
  pub there : Held net other
  pub back : Held other net

-- each entry of the one change list stands in the other
abbrev pub Listed : Changes → Changes → Type 0
Listed ch other =
    (e : ℕ) → e < length ch.places → (k : ℕ) × (k < length other.places) × (at other.places k ≡ at ch.places e) × (at other.values k ≡ at ch.values e)

-- two answers are one, or each refuses a transistor, whose place depends on the order of the list
abbrev pub SameAnswer : Answer → Answer → Type 0
SameAnswer a b = (a ≡ b) ⊎ ((number a ≡ 4) × (number b ≡ 4))

pub record SameRun (o p : Outcome) : Type 0 where
  pub answers : SameAnswer o.answer p.answer
  pub states : o.states ≡ p.states

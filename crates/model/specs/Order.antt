-- The order of information: X covers every state. Assumes nothing.
use Rattle.std.specs.Prelude.{ℕ, ◌≡◌, ◌⊎◌, List}
use Rattle.model.specs.Places.{at}

infix 4 ◌⊑◌ ◌≼◌
-- a is b, or b is X
abbrev pub ◌⊑◌ : ℕ → ℕ → Type 0
a ⊑ b = (a ≡ b) ⊎ (b ≡ 2)

-- place by place
abbrev pub ◌≼◌ : List ℕ → List ℕ → Type 0
s ≼ t = (i : ℕ) → at s i ⊑ at t i

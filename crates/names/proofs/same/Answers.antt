-- `same` meets its contract: lists of different lengths differ. Assumes nothing.
use Prim.Native.Nat.{ℕ}
use mathlib.Core.Path.{◌≡◌, refl, ap}
use mathlib.Core.Bool.{Bool, true, false}
use mathlib.Core.List.{List}
use lib.ListN.{length}
use Rattle.model.specs.Places.{same}
use Rattle.laws.proofs.Settle.{same_true}
use Rattle.names.proofs.same.Goals as goal

differ : (a b : List ℕ) → (length a ≡ length b → ⊥) → false ≡ same a b
differ a b h = go (same a b) refl
  where
    go : (x : Bool) → same a b ≡ x → false ≡ x
    go true e = absurd (h (ap length (same_true a b e)))
    go false e = refl

pub returns-then-a-b : goal.returns-then-a-b
returns-then-a-b c = differ _ _ c.if-a-b.true

-- Slices are equal where the definitions say that their bytes are the same. Assumes nothing.
use Prim.Native.Nat.{ℕ}
use mathlib.Core.Path.{◌≡◌, refl, ap}
use mathlib.Core.Bool.{◌&&◌}
use mathlib.Core.List.{List, [], ◌∷◌}
use lib.Dec.{eqb}
use lib.Pointwise.{pointwise}
use Rattle.model.specs.Places.{same}

pub equal_same : (a b : List ℕ) → pointwise eqb a b ≡ same a b
equal_same [] [] = refl
equal_same [] (y ∷ ys) = refl
equal_same (x ∷ xs) [] = refl
equal_same (x ∷ xs) (y ∷ ys) = ap (λ t. eqb x y && t) (equal_same xs ys)

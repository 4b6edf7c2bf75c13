-- A list with one more at its end. Assumes nothing.
use Prim.Native.Nat.{ℕ, suc, ◌<◌}
use native.Mathlib.Omega.{arith}
use native.Mathlib.Decide.{dec_lt}
use mathlib.Core.Path.{◌≡◌, subst}
use mathlib.Core.List.{List, [], ◌∷◌, ◌++◌}
use lib.ListN.{length, get_or, length-append, get_or-append}
use lib.Seq.{get_or-append_seam}

module _ {A : Type 0} (xs : List A) (y : A) where
  pub length_more : length (xs ++ y ∷ []) ≡ suc (length xs)
  length_more = omega (arith, length-append xs (y ∷ []))

  -- a fact of each that it had, and of the last
  pub each_more : (d : A) (P : ℕ → A → Type 0) → ((k : ℕ) → k < length xs → P k (get_or xs k d)) → P (length xs) y
      → (k : ℕ) → k < length (xs ++ y ∷ []) → P k (get_or (xs ++ y ∷ []) k d)
  each_more d P f p k l =
      elim (dec_lt k (length xs)) [
        | yes h ↦ rw (get_or-append xs (y ∷ []) d k h) (f k h)
        | no h ↦ subst (λ (j : ℕ). P j (get_or (xs ++ y ∷ []) j d)) (last h) (rw (get_or-append_seam xs y [] d) p)
      ]
    where
      last : (k < length xs → ⊥) → length xs ≡ k
      last h = omega (arith, length_more)

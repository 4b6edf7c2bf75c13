-- What a search over the places of a table finds: the first at which a test passes. Assumes nothing.
use Prim.Native.Nat.{ℕ, ◌≤◌, ◌<◌}
use native.Mathlib.Omega.{arith}
use mathlib.Core.Path.{◌≡◌, ◌∙◌, sym}
use mathlib.Core.Logic.{inl, inr}
use mathlib.Core.Bool.{Bool, true, false, true≢false}
use Rattle.model.specs.Places.{first}
use Rattle.laws.proofs.Judged.{Least, first_says, first_one}

-- none of the places below k passes
abbrev pub NoneBelow : (ℕ → Bool) → ℕ → Type 0
NoneBelow p k = (q : ℕ) → q < k → p q ≡ false

-- the search ends at a place that passes, or past the last
pub first-at : (n : ℕ) (p : ℕ → Bool) (k : ℕ) → k < n → p k ≡ true → NoneBelow p k → k ≡ first n p
first-at n p k l e f = go (first_says n p)
  where
    go : Least n p (first n p) → k ≡ first n p
    go (inl h) = first_one p k (first n p) e h.1 f h.2
    go (inr h) = absurd (true≢false (sym e ∙ h.1 k l))

pub first_none : (n : ℕ) (p : ℕ → Bool) (k : ℕ) → k ≤ n → n ≤ k → NoneBelow p k → k ≡ first n p
first_none n p k l m f = go (first_says n p)
  where
    go : Least n p (first n p) → k ≡ first n p
    go (inl h) = absurd (true≢false (sym h.1 ∙ f (first n p) (omega arith)))
    go (inr h) = omega arith

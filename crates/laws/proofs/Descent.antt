-- A sequence whose measure falls with every change is still after as many steps as the measure; counts of places as measures. Assumes nothing.
use Prim.Native.Nat.{ℕ, zero, suc, ◌+◌, ◌≤◌, ◌<◌}
use native.Mathlib.Nat.{le_of_suc-le-suc, not-suc-le-zero}
use native.Mathlib.Omega.{arith}
use mathlib.Core.Path.{◌≡◌, refl, ap, ◌∙◌, sym}
use mathlib.Core.Logic.{◌⊎◌, inl, inr}
use mathlib.Core.Bool.{Bool, true, false, cond, not, false≢true, true≢false}
use mathlib.Core.List.{List}
use lib.ListN.{length}
use lib.Seq.{ext_get_or}
use lib.Dec.{eqb}
use borrow.Author.Tests.{eqb-true, eqb-false, not-true, not-false}
use Rattle.model.specs.Places.{at, some, iter, count}
use Rattle.laws.proofs.Places.{some_at, some_of}

one_le : (a b : Bool) → (a ≡ true → b ≡ true) → cond a 1 0 ≤ cond b 1 0
one_le true true h = omega arith
one_le true false h = absurd (false≢true (h refl))
one_le false true h = omega arith
one_le false false h = omega arith

one_lt : (a b : Bool) → a ≡ false → b ≡ true → cond a 1 0 < cond b 1 0
one_lt true b e h = absurd (true≢false e)
one_lt false true e h = omega arith
one_lt false false e h = absurd (false≢true h)

pub count_le : (n : ℕ) (p q : ℕ → Bool) → ((i : ℕ) → i < n → p i ≡ true → q i ≡ true) → count n p ≤ count n q
count_le zero p q h = omega arith
count_le (suc n) p q h =
    omega (arith, one_le (p zero) (q zero) (h zero (omega arith)), count_le n (λ i. p (suc i)) (λ i. q (suc i)) (λ i l. h (suc i) (omega arith)))

pub count_lt : (n : ℕ) (p q : ℕ → Bool) → ((i : ℕ) → i < n → p i ≡ true → q i ≡ true) → (k : ℕ) → k < n → p k ≡ false → q k ≡ true → count n p < count n q
count_lt zero p q h k l a b = absurd (not-suc-le-zero l)
count_lt (suc n) p q h zero l a b =
    omega (arith, one_lt (p zero) (q zero) a b, count_le n (λ i. p (suc i)) (λ i. q (suc i)) (λ i m. h (suc i) (omega arith)))
count_lt (suc n) p q h (suc k) l a b =
    omega (arith, one_le (p zero) (q zero) (h zero (omega arith)), count_lt n (λ i. p (suc i)) (λ i. q (suc i)) (λ i m. h (suc i) (omega arith)) k (le_of_suc-le-suc l) a b)

pub count_all : (n : ℕ) (p : ℕ → Bool) → count n p ≤ n
count_all zero p = omega arith
count_all (suc n) p = omega (arith, one_le (p zero) true (λ e. refl), count_all n (λ i. p (suc i)))

pub count_same : (n : ℕ) (p q : ℕ → Bool) → ((i : ℕ) → i < n → p i ≡ q i) → count n p ≡ count n q
count_same zero p q h = refl
count_same (suc n) p q h =
    omega (arith, ap {B = ℕ} (λ (b : Bool). cond b 1 0) (h zero (omega arith)), count_same n (λ i. p (suc i)) (λ i. q (suc i)) (λ i l. h (suc i) (omega arith)))

pub count-suc : (n : ℕ) (p : ℕ → Bool) → count (suc n) p ≡ count n p + cond (p n) 1 0
count-suc zero p = omega arith
count-suc (suc n) p = omega (arith, count-suc n (λ i. p (suc i)))

-- two tables of one length are equal, or differ at a place
abbrev pub Differ : ℕ → List ℕ → List ℕ → Type 0
Differ n s t = (i : ℕ) × (i < n) × (at s i ≡ at t i → ⊥)

pub equal_or_differ : (n : ℕ) (s t : List ℕ) → length s ≡ n → length t ≡ n → (s ≡ t) ⊎ Differ n s t
equal_or_differ n s t p q = go _ refl
  where
    test : ℕ → Bool
    test i = not (eqb (at s i) (at t i))

    none : some n test ≡ false → (i : ℕ) → i < length s → (b : Bool) → test i ≡ b → at s i ≡ at t i
    none e i l true h = absurd (false≢true (sym e ∙ some_of n test i (omega arith) h))
    none e i l false h = eqb-true (at s i) (at t i) (not-false (eqb (at s i) (at t i)) h)

    go : (b : Bool) → some n test ≡ b → (s ≡ t) ⊎ Differ n s t
    go true e = let r = some_at n test e in inr (r.0, r.1, eqb-false (at s r.0) (at t r.0) (not-true (eqb (at s r.0) (at t r.0)) r.2))
    go false e = inl (ext_get_or 0 s t (p ∙ sym q) (λ i l. none e i l _ refl))

module _ {A : Type 0} (f : A → A) where
  pub iter_fixed : (k : ℕ) (a : A) → f a ≡ a → iter k f a ≡ a
  iter_fixed zero a e = refl
  iter_fixed (suc k) a e = ap (iter k f) e ∙ iter_fixed k a e

  pub iter_keeps : (P : A → Type 0) → ((a : A) → P a → P (f a)) → (k : ℕ) (a : A) → P a → P (iter k f a)
  iter_keeps P h zero a p = p
  iter_keeps P h (suc k) a p = iter_keeps P h k (f a) (h a p)

  -- f changes nothing after k steps from a, and k is at most `bound`
  abbrev pub Still : ℕ → A → Type 0
  Still bound a = (k : ℕ) × (k ≤ bound) × (f (iter k f a) ≡ iter k f a)

  pub descent : (P : A → Type 0) (μ : A → ℕ) → ((a : A) → P a → P (f a)) → ((a : A) → P a → (f a ≡ a) ⊎ (μ (f a) < μ a))
      → (bound : ℕ) (a : A) → P a → μ a ≤ bound → Still bound a
  descent P μ keep falls zero a p m = elim (falls a p) [ inl e ↦ (0, omega arith, e) | inr l ↦ absurd (omega arith) ]
  descent P μ keep falls (suc b) a p m =
      elim (falls a p) [
        | inl e ↦ (0, omega arith, e)
        | inr l ↦ (let r = descent P μ keep falls b (f a) (keep a p) (omega arith) in (suc r.0, omega arith, r.2))
      ]

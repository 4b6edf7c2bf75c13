-- What the quantifiers over places and the tables made from a rule say. Assumes nothing.
use Prim.Native.Nat.{ℕ, zero, suc, ◌≤◌, ◌<◌}
use native.Mathlib.Nat.{le_of_suc-le-suc, not-suc-le-zero}
use native.Mathlib.Omega.{arith}
use mathlib.Core.Path.{◌≡◌, refl, ap, ap₂}
use mathlib.Core.Logic.{◌⊎◌, inl, inr}
use mathlib.Core.Bool.{Bool, true, false, ◌||◌, false≢true, and-eq-true_iff}
use mathlib.Core.List.{List, [], ◌∷◌, ◌++◌}
use lib.ListN.{length, get_or}
use lib.Dec.{leb}
use borrow.Author.Tests.{leb-true, leb-false}
use Rattle.model.specs.Places.{tab, every, some, most, first, imp}

module _ {A : Type 0} where
  pub length-tab : (n : ℕ) (f : ℕ → A) → length (tab n f) ≡ n
  length-tab zero f = refl
  length-tab (suc n) f = ap suc (length-tab n (λ i. f (suc i)))

  pub get_or-tab : (n : ℕ) (f : ℕ → A) (d : A) (i : ℕ) → i < n → get_or (tab n f) i d ≡ f i
  get_or-tab zero f d i h = absurd (not-suc-le-zero h)
  get_or-tab (suc n) f d zero h = refl
  get_or-tab (suc n) f d (suc i) h = get_or-tab n (λ j. f (suc j)) d i (le_of_suc-le-suc h)

  pub tab_cong : (n : ℕ) (f g : ℕ → A) → ((i : ℕ) → i < n → f i ≡ g i) → tab n f ≡ tab n g
  tab_cong zero f g h = refl
  tab_cong (suc n) f g h = ap₂ ◌∷◌ (h zero (omega arith)) (tab_cong n (λ i. f (suc i)) (λ i. g (suc i)) (λ i l. h (suc i) (omega arith)))

  -- one entry more
  pub tab_more : (n : ℕ) (f : ℕ → A) → tab (suc n) f ≡ tab n f ++ f n ∷ []
  tab_more zero f = refl
  tab_more (suc n) f = ap (λ (l : List A). f zero ∷ l) (tab_more n (λ i. f (suc i)))

pub every-at : (n : ℕ) (p : ℕ → Bool) → every n p ≡ true → (i : ℕ) → i < n → p i ≡ true
every-at zero p e i h = absurd (not-suc-le-zero h)
every-at (suc n) p e zero h = ((and-eq-true_iff (p zero) _).0 e).0
every-at (suc n) p e (suc i) h = every-at n (λ j. p (suc j)) ((and-eq-true_iff (p zero) _).0 e).1 i (le_of_suc-le-suc h)

pub every_of : (n : ℕ) (p : ℕ → Bool) → ((i : ℕ) → i < n → p i ≡ true) → every n p ≡ true
every_of zero p f = refl
every_of (suc n) p f = (and-eq-true_iff _ _).1 (f zero (omega arith), every_of n (λ j. p (suc j)) (λ i h. f (suc i) (omega arith)))

pub or_true_cases : (a b : Bool) → (a || b) ≡ true → (a ≡ true) ⊎ (b ≡ true)
or_true_cases true b e = inl refl
or_true_cases false b e = inr e

pub or_right : (a b : Bool) → b ≡ true → (a || b) ≡ true
or_right true b e = refl
or_right false b e = e

pub or_left : (a b : Bool) → a ≡ true → (a || b) ≡ true
or_left true b e = refl
or_left false b e = absurd (false≢true e)

abbrev pub Some : ℕ → (ℕ → Bool) → Type 0
Some n p = (i : ℕ) × (i < n) × (p i ≡ true)

pub some_at : (n : ℕ) (p : ℕ → Bool) → some n p ≡ true → Some n p
some_at zero p e = absurd (false≢true e)
some_at (suc n) p e = elim (or_true_cases (p zero) (some n (λ j. p (suc j))) e) [ inl h ↦ (zero, omega arith, h) | inr h ↦ (let r = some_at n (λ j. p (suc j)) h in (suc r.0, omega arith, r.2)) ]

pub some_of : (n : ℕ) (p : ℕ → Bool) (i : ℕ) → i < n → p i ≡ true → some n p ≡ true
some_of zero p i h e = absurd (not-suc-le-zero h)
some_of (suc n) p zero h e = or_left _ _ e
some_of (suc n) p (suc i) h e = or_right (p zero) _ (some_of n (λ j. p (suc j)) i (le_of_suc-le-suc h) e)

pub most_of : (n : ℕ) (f : ℕ → ℕ) (i : ℕ) → i < n → f i ≤ most n f
most_of zero f i h = absurd (not-suc-le-zero h)
most_of (suc n) f zero h = omega arith
most_of (suc n) f (suc i) h = omega (arith, most_of n (λ j. f (suc j)) i (le_of_suc-le-suc h))

pub most-at : (n : ℕ) (f : ℕ → ℕ) → (i : ℕ) × (i < suc n) × (f i ≡ most (suc n) f)
most-at zero f = (zero, omega arith, omega arith)
most-at (suc n) f = pick (most-at n (λ j. f (suc j))) _ refl
  where
    pick : (i : ℕ) × (i < suc n) × (f (suc i) ≡ most (suc n) (λ j. f (suc j))) → (b : Bool) → leb (f zero) (most (suc n) (λ j. f (suc j))) ≡ b
        → (i : ℕ) × (i < suc (suc n)) × (f i ≡ most (suc (suc n)) f)
    pick r true e = (suc r.0, omega arith, omega (arith, leb-true (f zero) (most (suc n) (λ j. f (suc j))) e))
    pick r false e = (zero, omega arith, omega (arith, leb-false (f zero) (most (suc n) (λ j. f (suc j))) e))

pub first-same : (n : ℕ) (p q : ℕ → Bool) → ((i : ℕ) → i < n → p i ≡ q i) → first n p ≡ first n q
first-same zero p q h = refl
first-same (suc n) p q h =
    ap₂ (λ (b : Bool) (k : ℕ). elim b as (λ x. ℕ) [ true ↦ zero | false ↦ suc k ]) (h zero (omega arith)) (first-same n (λ i. p (suc i)) (λ i. q (suc i)) (λ i l. h (suc i) (omega arith)))

pub imp_of : (a b : Bool) → (a ≡ true → b ≡ true) → imp a b ≡ true
imp_of true b f = f refl
imp_of false b f = refl

pub imp-at : (a b : Bool) → imp a b ≡ true → a ≡ true → b ≡ true
imp-at true b e h = e
imp-at false b e h = absurd (false≢true h)

-- Texts in a row: the last of them, how long they are together, and rows that say the same. Assumes nothing.
use Prim.Native.Nat.{ℕ, zero, suc, ◌+◌, ◌*◌, ◌≤◌, ◌<◌}
use native.Mathlib.Decide.{ℕ_discrete}
use native.Mathlib.Nat.{suc-mul}
use native.Mathlib.Numerals.{add-one}
use native.Mathlib.Omega.{arith}
use mathlib.Core.Path.{◌≡◌, refl, ap, ap₂, ◌∙◌, sym}
use mathlib.Core.List.{List, ◌++◌, append_assoc, append-nil}
use lib.ListN.{length, length-append}
use Rattle.waves.specs.Dump.{each}

pub each_last : (n : ℕ) (f : ℕ → List ℕ) → each (suc n) f ≡ each n f ++ f n
each_last zero f = append-nil (f zero)
each_last (suc n) f = ap (λ (r : List ℕ). f zero ++ r) (each_last n (λ i. f (suc i))) ∙ sym (append_assoc (f zero) (each n (λ i. f (suc i))) (f (suc n)))

pub each-longer : (n : ℕ) (f : ℕ → List ℕ) → length (each (suc n) f) ≡ length (each n f) + length (f n)
each-longer n f = ap length (each_last n f) ∙ length-append (each n f) (f n)

pub each_same : (n : ℕ) (f g : ℕ → List ℕ) → ((i : ℕ) → i < n → f i ≡ g i) → each n f ≡ each n g
each_same zero f g h = refl
each_same (suc n) f g h = ap₂ ◌++◌ (h zero (omega arith)) (each_same n (λ i. f (suc i)) (λ i. g (suc i)) (λ i l. h (suc i) (omega arith)))

-- those before i and the one at i are together no longer than all
pub each_fits : (f : ℕ → List ℕ) (i n : ℕ) → i < n → length (each i f) + length (f i) ≤ length (each n f)
each_fits f i zero l = absurd (omega arith)
each_fits f i (suc n) l = go (ℕ_discrete i n) (each_fits f i n)
  where
    go : Dec (i ≡ n) → (i < n → length (each i f) + length (f i) ≤ length (each n f)) → length (each i f) + length (f i) ≤ length (each (suc n) f)
    go (yes e) r = rw e (omega (arith, each-longer n f))
    go (no e) r = omega (arith, r (omega arith), each-longer n f)

-- and all are at most n times as long as the longest
pub each_few : (f : ℕ → List ℕ) (most : ℕ) (n : ℕ) → ((i : ℕ) → i < n → length (f i) ≤ most) → length (each n f) ≤ n * most
each_few f most zero h = omega arith
each_few f most (suc n) h = omega (arith, each-longer n f, each_few f most n (λ i l. h i (omega arith)), h n (omega arith), suc-mul n most)

-- lengths added up one by one
pub lines_more : (f : ℕ → List ℕ) (i : ℕ) {size more : ℕ} → size ≡ length (each i f) → more ≡ length (f i) → size + more ≡ length (each (i + 1) f)
lines_more f i e h = rw (e, h, add-one) (sym (each-longer i f))

pub lines_all : (f : ℕ → List ℕ) (i : ℕ) {n size : ℕ} → i ≡ n → size ≡ length (each i f) → size ≡ length (each n f)
lines_all f i e h = h ∙ ap (λ (k : ℕ). length (each k f)) e

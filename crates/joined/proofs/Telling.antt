-- What cells tell of sources together: nothing of either is lost. Assumes nothing.
use Prim.Native.Nat.{ℕ, ◌+◌, ◌*◌, ◌/◌, ◌%◌, ◌≤◌, ◌<◌}
use native.Mathlib.Omega.{arith}
use native.Mathlib.Nat.{le_refl, le_trans}
use native.Mathlib.Decide.{ℕ_discrete, dec_lt}
use mathlib.Core.Path.{◌≡◌, refl, sym, ◌∙◌}
use mathlib.Core.Bool.{Bool, true, false}
use borrow.Author.Tests.{eq-eqb, le-leb}
use Rattle.branches.specs.Code.{least_telling, telling, mark, together, unlike, Within, begin}
use Rattle.branches.proofs.Codes.{together-same, together-mixed, together_second, together-first, unlike_0, unlike_1, begin_offered, begin_real, begin-bare}
use Rattle.joined.specs.Kept.{Telling}

-- what two cells tell together, by how they compare
data Told (a b : ℕ) : Type 0 where
  first : together a b ≡ a → b / 4 ≤ a / 4 → (a / 4 ≡ b / 4 → a ≡ b) → Told a b
  second : together a b ≡ b → a / 4 < b / 4 → Told a b
  mixed : together a b ≡ 4 * (a / 4) + 3 → a / 4 ≡ b / 4 → Told a b

told : (a b : ℕ) → Told a b
told a b = go (ℕ_discrete (a / 4) (b / 4)) (ℕ_discrete a b) (dec_lt a b)
  where
    go : Dec (a / 4 ≡ b / 4) → Dec (a ≡ b) → Dec (a < b) → Told a b
    go (yes e) (yes f) l = first (sym (together-same a b e f)) (omega arith) (λ q. f)
    go (yes e) (no f) l = mixed (sym (together-mixed a b e f)) e
    go (no e) f (yes l) = second (sym (together_second a b e l)) (omega arith)
    go (no e) f (no l) = first (sym (together-first a b e (omega arith))) (omega arith) (λ q. absurd (e q))

pub together-telling : (a b : ℕ) → Telling a → Telling b → Telling (together a b)
together-telling a b x y = go (told a b)
  where
    go : Told a b → Telling (together a b)
    go (first e l q) = rw e x
    go (second e l) = rw e y
    go (mixed e q) = rw e (omega arith, omega arith, omega arith)

pub within_refl : (a : ℕ) → Within a a
within_refl a = record { lower = le_refl _; kept = λ b l e u. u }

pub within_trans : {a b c : ℕ} → Within a b → Within b c → Within a c
within_trans {a} {b} {c} x y = record { lower = le_trans x.lower y.lower; kept = λ s l e u. y.kept s l (omega (arith, x.lower, y.lower)) (x.kept s l (omega (arith, x.lower, y.lower)) u) }

unlike_both : (b m : ℕ) → m ≡ 3 → unlike b m ≡ true
unlike_both b m e = go (ℕ_discrete b 0)
  where
    go : Dec (b ≡ 0) → unlike b m ≡ true
    go (yes q) = sym (unlike_0 b m q) ∙ le-leb 2 m (omega arith)
    go (no q) = sym (unlike_1 b m q) ∙ eq-eqb (m % 2) 1 (omega arith)

pub within_first : (a b : ℕ) → Within a (together a b)
within_first a b = go (told a b)
  where
    go : Told a b → Within a (together a b)
    go (first e l q) = rw e (within_refl a)
    go (second e l) = record { lower = omega arith; kept = λ s i q u. absurd (omega arith) }
    go (mixed e q) = record { lower = omega arith; kept = λ s i f u. unlike_both s (mark (together a b)) (omega arith) }

pub within_second : (a b : ℕ) → Within b (together a b)
within_second a b = go (told a b)
  where
    go : Told a b → Within b (together a b)
    go (first e l q) = record { lower = omega arith; kept = λ s i f u. rw e (rw (q (omega arith)) u) }
    go (second e l) = rw e (within_refl b)
    go (mixed e q) = record { lower = omega arith; kept = λ s i f u. unlike_both s (mark (together a b)) (omega arith) }

-- what a table begins with tells of no sources
pub begin_small : (b c u : ℕ) → c ≤ telling 3 3 → begin b c u < least_telling
begin_small b c u l = go (unlike b (mark u)) (unlike b (mark c)) refl refl
  where
    go : (x y : Bool) → unlike b (mark u) ≡ x → unlike b (mark c) ≡ y → begin b c u < least_telling
    go true y e f = omega (arith, begin_offered b c u e)
    go false true e f = omega (arith, begin_real b c u e f)
    go false false e f = omega (arith, begin-bare b c u e f)

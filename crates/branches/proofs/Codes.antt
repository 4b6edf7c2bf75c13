-- The codes of cells, by cases. Assumes nothing.
use Prim.Native.Nat.{ℕ, ◌+◌, ◌*◌, ◌-◌, ◌/◌, ◌%◌, ◌≤◌, ◌<◌}
use native.Mathlib.Omega.{arith}
use native.Mathlib.Decide.{ℕ_discrete}
use mathlib.Core.Path.{◌≡◌}
use mathlib.Core.Bool.{true, false}
use lib.Dec.{eqb, leb}
use borrow.Author.Tests.{eq-eqb, ne_eqb, lt-ltb, le-ltb}
use Rattle.branches.specs.Code.{strength_of, mark_of, mark, rank, together, unlike, begin}

-- a cell with a strength, and one without
pub data Coded (c : ℕ) : Type 0 where
  bare : (k : ℕ) → c ≡ 2 * k → Coded c
  real : (k : ℕ) → c ≡ 2 * k + 1 → Coded c

pub coded : (c : ℕ) → Coded c
coded c = go (ℕ_discrete (c % 2) 0)
  where
    go : Dec (c % 2 ≡ 0) → Coded c
    go (yes e) = bare (c / 2) (omega arith)
    go (no e) = real (c / 2) (omega arith)

pub strength-bare : (c k : ℕ) → c ≡ 2 * k → strength_of c ≡ 0
unfolding strength_of
strength-bare c k e = rw (eq-eqb (c % 2) 0 (omega arith))

pub strength_real : (c k : ℕ) → c ≡ 2 * k + 1 → strength_of c ≡ k
unfolding strength_of
strength_real c k e = rw (ne_eqb (c % 2) 0 (λ h. absurd (omega arith))) (omega arith)

-- the mark of a source, by its state
pub mark_x : (x : ℕ) → 1 < x → 3 ≡ mark_of x
unfolding mark_of
mark_x x l = rw (lt-ltb 1 x l)

pub mark_01 : (x : ℕ) → x ≤ 1 → x + 1 ≡ mark_of x
unfolding mark_of
mark_01 x l = rw (le-ltb 1 x l)

-- what two cells tell, by how they compare
pub together-same : (a b : ℕ) → a / 4 ≡ b / 4 → a ≡ b → a ≡ together a b
unfolding together
together-same a b e f = rw (eq-eqb (a / 4) (b / 4) e, eq-eqb a b f)

pub together-mixed : (a b : ℕ) → a / 4 ≡ b / 4 → (a ≡ b → ⊥) → 4 * (a / 4) + 3 ≡ together a b
unfolding together
together-mixed a b e f = rw (eq-eqb (a / 4) (b / 4) e, ne_eqb a b f)

pub together_second : (a b : ℕ) → (a / 4 ≡ b / 4 → ⊥) → a < b → b ≡ together a b
unfolding together
together_second a b e l = rw (ne_eqb (a / 4) (b / 4) e, lt-ltb a b l)

pub together-first : (a b : ℕ) → (a / 4 ≡ b / 4 → ⊥) → b ≤ a → a ≡ together a b
unfolding together
together-first a b e l = rw (ne_eqb (a / 4) (b / 4) e, le-ltb a b l)

-- whether a source is not at b
pub unlike_0 : (b m : ℕ) → b ≡ 0 → leb 2 m ≡ unlike b m
unfolding unlike
unlike_0 b m e = rw (eq-eqb b 0 e)

pub unlike_1 : (b m : ℕ) → (b ≡ 0 → ⊥) → eqb (m % 2) 1 ≡ unlike b m
unfolding unlike
unlike_1 b m e = rw (ne_eqb b 0 e)

-- what a table begins with, by what its cells tell
pub begin_offered : (b c u : ℕ) → unlike b (mark u) ≡ true → 7 ≡ begin b c u
unfolding begin
begin_offered b c u e = rw e

pub begin_real : (b c u : ℕ) → unlike b (mark u) ≡ false → unlike b (mark c) ≡ true → 2 * rank c + 1 ≡ begin b c u
unfolding begin
begin_real b c u e f = rw (e, f)

pub begin-bare : (b c u : ℕ) → unlike b (mark u) ≡ false → unlike b (mark c) ≡ false → 2 * (rank c - 1) ≡ begin b c u
unfolding begin
begin-bare b c u e f = rw (e, f)

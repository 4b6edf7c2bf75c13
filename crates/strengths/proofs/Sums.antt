-- Sums over nodes with a given cell. Assumes nothing.
use Prim.Native.Nat.{ℕ, zero, suc, ◌≤◌, ◌<◌}
use native.Mathlib.Omega.{arith}
use native.Mathlib.Nat.{le_of_suc-le-suc, eq-or-lt_of_le}
use mathlib.Core.Path.{◌≡◌, subst}
use mathlib.Core.Logic.{⊎_elim}
use mathlib.Core.List.{List}
use lib.Dec.{eqb}
use borrow.Author.Tests.{ne_eqb}
use Rattle.branches.specs.Branch.{total}
use Rattle.branches.proofs.Degrees.{total_ones, total_le, cond_few}
use Rattle.strengths.specs.Spread.{cell}
use Rattle.strengths.specs.Level.{share, weigh}

total_less : (f g : ℕ → ℕ) (n j : ℕ) → ((k : ℕ) → k < n → f k ≤ g k) → j < n → f j < g j → total f n < total g n
unfolding total
total_less f g zero j h l p = absurd (omega arith)
total_less f g (suc n) j h l p =
    ⊎_elim
    (λ e. omega (arith, total_le f g n (λ k i. h k (omega arith)), subst (λ (i : ℕ). f i < g i) e p))
    (λ i. omega (arith, total_less f g n j (λ k q. h k (omega arith)) i p, h n (omega arith)))
    (eq-or-lt_of_le (le_of_suc-le-suc l))

-- of m nodes at most m have the cell c, and fewer where one has another
module _ (mem : ℕ → ℕ) (m : ℕ) (w : List ℕ) (table c : ℕ) where
  share_few : (k : ℕ) → share (λ v. 1) w table c (mem k) ≤ 1
  share_few k = cond_few (eqb (cell w table (mem k)) c)

  pub weigh_few : weigh (λ v. 1) mem m w table c ≤ m
  weigh_few = omega (arith, total_ones m, total_le (λ k. share (λ v. 1) w table c (mem k)) (λ k. 1) m (λ k l. share_few k))

  pub weigh_fewer : (j : ℕ) → j < m → (cell w table (mem j) ≡ c → ⊥) → weigh (λ v. 1) mem m w table c < m
  weigh_fewer j l d =
      omega (arith, total_ones m, total_less (λ k. share (λ v. 1) w table c (mem k)) (λ k. 1) m j (λ k i. share_few k) l (rw (ne_eqb (cell w table (mem j)) c d) (omega arith)))

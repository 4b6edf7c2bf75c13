-- Branches by their transistors. Assumes nothing.
use Prim.Native.Nat.{ℕ, ◌+◌, ◌*◌, ◌/◌, ◌%◌}
use native.Mathlib.Omega.{arith}
use native.Mathlib.Decide.{ℕ_discrete}
use mathlib.Core.Path.{◌≡◌, ap, ◌∙◌}
use mathlib.Core.Bool.{Bool, true, not, ◌||◌, and-eq-true_iff}
use mathlib.Core.List.{List}
use borrow.Author.Tests.{eq-eqb, ne_eqb}
use Rattle.model.specs.Places.{at}
use Rattle.branches.specs.Branch.{end_of, Wires, followed}

pub end_at : (A B : List ℕ) (h : ℕ) → h % 2 ≡ 0 → end_of A B h ≡ at A (h / 2)
unfolding end_of
end_at A B h e = rw (eq-eqb (h % 2) 0 e)

pub end_else : (A B : List ℕ) (h : ℕ) → (h % 2 ≡ 0 → ⊥) → end_of A B h ≡ at B (h / 2)
unfolding end_of
end_else A B h e = rw (ne_eqb (h % 2) 0 e)

pub half_even : (t : ℕ) → 2 * t / 2 ≡ t
half_even t = omega arith

pub half_odd : (t : ℕ) → (2 * t + 1) / 2 ≡ t
half_odd t = omega arith

pub end_even : (A B : List ℕ) (t : ℕ) → end_of A B (2 * t) ≡ at A t
end_even A B t = end_at A B (2 * t) (omega arith) ∙ ap (at A) (half_even t)

pub end_odd : (A B : List ℕ) (t : ℕ) → end_of A B (2 * t + 1) ≡ at B t
end_odd A B t = end_else A B (2 * t + 1) (omega arith) ∙ ap (at B) (half_odd t)

-- what holds of both ends holds of where a branch starts
pub end_all : (P : ℕ → Type 0) (A B : List ℕ) (h : ℕ) → P (at A (h / 2)) → P (at B (h / 2)) → P (end_of A B h)
end_all P A B h a b = go (ℕ_discrete (h % 2) 0)
  where
    go : Dec (h % 2 ≡ 0) → P (end_of A B h)
    go (yes e) = rw (end_at A B h e) a
    go (no e) = rw (end_else A B h e) b

-- a branch that is followed is listed
pub followed-listed : (G : Wires) (all : Bool) (h : ℕ) → followed G all h ≡ true → G.listed h ≡ true
followed-listed G all h e = ((and-eq-true_iff (G.listed h) (all || not (G.unsure h))).0 e).0

-- The first changed node: there is one exactly where two states of one length differ, and what a step changes first is no input.
-- Assumes nothing.
use Prim.Native.Nat.{ℕ, ◌<◌}
use native.Mathlib.Omega.{arith}
use mathlib.Core.Path.{◌≡◌, refl, ap, ◌∙◌, sym}
use mathlib.Core.Logic.{inl, inr, ◌↔◌}
use mathlib.Core.Bool.{Bool, true, false}
use mathlib.Core.List.{List}
use lib.ListN.{length}
use lib.Seq.{ext_get_or}
use lib.Dec.{eqb}
use borrow.Author.Tests.{eqb-true, eqb-false, not-true, not-false}
use Rattle.model.specs.Places.{at}
use Rattle.model.specs.Run.{changed}
use Rattle.model.specs.Entries.{first_changed}
use Rattle.model.specs.Cover.{Stepper}
use Rattle.model.specs.Demands.{FirstMoved}
use Rattle.laws.proofs.Judged.{Least, first_says}

-- a node that is not changed, and one that is
unchanged : (s r : List ℕ) (v : ℕ) → changed s r v ≡ false → at r v ≡ at s v
unchanged s r v e = sym (eqb-true (at s v) (at r v) (not-false (eqb (at s v) (at r v)) e))

is_changed : (s r : List ℕ) (v : ℕ) → changed s r v ≡ true → at r v ≡ at s v → ⊥
is_changed s r v e p = eqb-false (at s v) (at r v) (not-true (eqb (at s v) (at r v)) e) (sym p)

first-changed_says : (s r : List ℕ) → Least (length s) (changed s r) (first_changed s r)
unfolding first_changed
first-changed_says s r = first_says (length s) (changed s r)

-- none is changed exactly where the states are the same
pub none_changed : (s r : List ℕ) → length r ≡ length s → (first_changed s r ≡ length s) ↔ (r ≡ s)
none_changed s r e = (there (first-changed_says s r), back (first-changed_says s r))
  where
    there : Least (length s) (changed s r) (first_changed s r) → first_changed s r ≡ length s → r ≡ s
    there (inl h) z = absurd (omega arith)
    there (inr h) z = ext_get_or 0 r s e (λ v l. unchanged s r v (h.1 v (omega arith)))

    back : Least (length s) (changed s r) (first_changed s r) → r ≡ s → first_changed s r ≡ length s
    back (inl h) p = absurd (is_changed s r (first_changed s r) h.1 (ap (λ (x : List ℕ). at x (first_changed s r)) p))
    back (inr h) p = h.0

-- a step of n nodes from s
module _ (n : ℕ) (input : ℕ → Bool) (f : List ℕ → List ℕ) (st : Stepper n input f) (s : List ℕ) (sized : length s ≡ n) where
  pub at_rest : (first_changed s (f s) ≡ n) ↔ (f s ≡ s)
  at_rest = let h = none_changed s (f s) (st.sized s ∙ sym sized) in (λ z. h.0 (z ∙ sym sized), λ p. h.1 p ∙ sized)

  -- where all nodes are inputs, nothing moves
  pub all_held : ((v : ℕ) → v < n → input v ≡ true) → f s ≡ s
  all_held inputs = ext_get_or 0 (f s) s (st.sized s ∙ sym sized) (λ v l. let m : v < n = omega (arith, st.sized s) in st.keeps s v m (inputs v m))

  pub first_moved : (f s ≡ s → ⊥) → FirstMoved n input f s (first_changed s (f s))
  first_moved moves = go (first-changed_says s (f s))
    where
      v : ℕ
      v = first_changed s (f s)

      free : v < n → (at (f s) v ≡ at s v → ⊥) → (b : Bool) → input v ≡ b → input v ≡ false
      free l h true i = absurd (h (st.keeps s v l i))
      free l h false i = i

      go : Least (length s) (changed s (f s)) v → FirstMoved n input f s v
      go (inl h) =
          let l : v < n = omega (arith, h.0, sized) in
          record {
            below = l;
            free = free l (is_changed s (f s) v h.1) (input v) refl;
            moves = is_changed s (f s) v h.1;
            least = λ u m. unchanged s (f s) u (h.2 u m);
          }
      go (inr h) = absurd (moves (at_rest.0 (h.0 ∙ sized)))

-- Which nodes a step changes: the first, looked for one by one; how many, counted one by one; and none exactly where the states are the same. Assumes
-- nothing.
use Prim.Native.Nat.{ℕ, zero, suc, ◌+◌, ◌≤◌}
use native.Mathlib.Omega.{arith}
use mathlib.Core.Path.{◌≡◌, refl, ap, ◌∙◌}
use mathlib.Core.Bool.{Bool, true, false, not, cond}
use mathlib.Core.List.{List, [], ◌∷◌}
use lib.ListN.{length, take}
use lib.Seq.{length-take-le}
use lib.Dec.{eqb, ltb}
use borrow.Author.Tests.{ltb-false, eq-eqb, ne_eqb}
use Rattle.std.proofs.Common.{Some, None}
use Rattle.std.proofs.lemmas.List.Sums.{prefix_len-le-length, sum_by-cons}
use Rattle.std.proofs.lemmas.Slice.Zip.{length-zip}
use Rattle.std.specs.List.{zip, position, position_or_len, sum_by}
use Rattle.std.specs.Option.{unwrap_or}
use Rattle.model.specs.Places.{first, same}
use Rattle.model.specs.Run.{changed}
use Rattle.model.specs.Entries.{altered, first_changed}
use Rattle.laws.proofs.Descent.{count_all}
use Rattle.laws.proofs.Settle.{same_true, same_false}
use Rattle.laws.proofs.Moved.{none_changed}

-- how a state and a next state differ
abbrev pub differs : ℕ × ℕ → Bool
differs p = not (eqb p.0 p.1)

-- of states s, with the next states in w, taken in pairs: the first that differ are those of the first changed node
first_pair : (s w : List ℕ) → length s ≤ length w → position_or_len differs (zip s (take (length s) w)) ≡ first (length s) (changed s w)
first_pair [] w h = refl
first_pair (x ∷ s) [] h = absurd (omega arith)
first_pair (x ∷ s) (y ∷ w) h = go (eqb x y) (first_pair s w (omega arith))
  where
    go : (b : Bool) → {k n : ℕ} → k ≡ n → cond (not (not b)) (1 + k) 0 ≡ elim (not b) [ true ↦ zero | false ↦ suc n ]
    go true e = omega (arith, e)
    go false e = refl

pub first_of_pairs : (s w : List ℕ) → length s ≤ length w → unwrap_or (position differs (zip s (take (length s) w))) (length s) ≡ first_changed s w
unfolding first_changed
first_of_pairs s w h = go (ltb p (length pairs)) refl
  where
    pairs : List (ℕ × ℕ)
    pairs = zip s (take (length s) w)

    p : ℕ
    p = position_or_len differs pairs

    go : (b : Bool) → ltb p (length pairs) ≡ b → unwrap_or (cond b (Some p) None) (length s) ≡ first (length s) (changed s w)
    go true e = first_pair s w h
    go false e =
        omega (arith, ltb-false _ _ e, first_pair s w h, length-zip s (take (length s) w), length-take-le (length s) w h, prefix_len-le-length (λ p. not (differs p)) pairs)

-- as many pairs differ as nodes are changed
abbrev pub one_if_differs : ℕ × ℕ → ℕ
one_if_differs p = cond (differs p) 1 0

pub sum_of_pairs : (s w : List ℕ) → length s ≤ length w → sum_by one_if_differs (zip s w) ≡ altered s w
unfolding altered
sum_of_pairs [] w h = refl
sum_of_pairs (x ∷ s) [] h = absurd (omega arith)
sum_of_pairs (x ∷ s) (y ∷ w) h = sum_by-cons one_if_differs (x, y) (zip s w) ∙ ap (◌+◌ (one_if_differs (x, y))) (sum_of_pairs s w (omega arith))

pub sum_few : (s w : List ℕ) → length s ≤ length w → sum_by one_if_differs (zip s w) ≤ length s
unfolding altered
sum_few s w h = rw (sum_of_pairs s w h) (count_all (length s) (changed s w))

-- states of one length are the same if no node is changed, and not if one is
pub same_first : (s r : List ℕ) → length r ≡ length s → eqb (first_changed s r) (length s) ≡ same r s
same_first s r e = go (same r s) refl
  where
    go : (b : Bool) → same r s ≡ b → eqb (first_changed s r) (length s) ≡ b
    go true h = eq-eqb _ _ ((none_changed s r e).1 (same_true r s h))
    go false h = ne_eqb _ _ (λ z. same_false r s h ((none_changed s r e).0 z))

-- Of any step to which the laws of runs apply: what rises settles, what falls settles, and what is settled covers whatever is reached.
-- Assumes nothing.
use Prim.Native.Nat.{ℕ, zero, suc, ◌≤◌, ◌<◌}
use native.Mathlib.Omega.{arith}
use mathlib.Core.Path.{◌≡◌, refl, ap, ◌∙◌, sym}
use mathlib.Core.Logic.{◌⊎◌, inl, inr}
use mathlib.Core.Bool.{Bool, true, false, not, ◌&&◌, and-eq-true_iff}
use mathlib.Core.List.{List, [], ◌∷◌}
use lib.ListN.{length, set, get_or-eq_default, length-set}
use lib.Dec.{eqb, ltb}
use borrow.Author.Tests.{eqb-true, eqb-false, eq-eqb, ne_eqb, ltb-true, ltb-false, not-true}
use Rattle.model.specs.Places.{at, iter, count}
use Rattle.model.specs.Order.{◌⊑◌, ◌≼◌}
use Rattle.model.specs.Cover.{Stepper, May, stays, arrives, follows, Reach, begin, move, OneByOne, start, arrive, follow}
use Rattle.model.specs.Demands.{free_nodes}
use Rattle.laws.proofs.Descent.{count_le, count_lt, Differ, equal_or_differ, iter_fixed, Still, descent}

-- a cell that rises was no X, and is X
rises : (a b : ℕ) → a ⊑ b → (a ≡ b → ⊥) → (a ≡ 2 → ⊥) × (b ≡ 2)
rises a b (inl e) h = absurd (h e)
rises a b (inr e) h = (λ k. h (k ∙ sym e), e)

-- X stays X as it rises
x_stays : (a b : ℕ) → a ⊑ b → a ≡ 2 → b ≡ 2
x_stays a b (inl e) h = sym e ∙ h
x_stays a b (inr e) h = e

-- a store changes one place
pub set_at : (s : List ℕ) (v a i : ℕ) → (at (set s v a) i ≡ at s i) ⊎ ((i ≡ v) × (at (set s v a) i ≡ a))
set_at [] v a i = inl refl
set_at (x ∷ xs) zero a zero = inr (refl, refl)
set_at (x ∷ xs) zero a (suc i) = inl refl
set_at (x ∷ xs) (suc v) a zero = inl refl
set_at (x ∷ xs) (suc v) a (suc i) = elim (set_at xs v a i) [ inl e ↦ inl e | inr r ↦ inr (ap suc r.0, r.1) ]

abbrev is_x : ℕ → Bool
is_x a = eqb a 2

abbrev not_x : ℕ → Bool
not_x a = not (eqb a 2)

-- past the ends of two tables of one length there is nothing to compare
pub within : (n : ℕ) (s t : List ℕ) → length s ≡ n → length t ≡ n → ((v : ℕ) → v < n → at s v ⊑ at t v) → s ≼ t
within n s t p q h v = go _ refl
  where
    go : (b : Bool) → ltb v n ≡ b → at s v ⊑ at t v
    go true e = h v (ltb-true v n e)
    go false e = let l = ltb-false v n e in inl (get_or-eq_default s 0 (omega arith) ∙ sym (get_or-eq_default t 0 (omega arith)))

-- the nodes that are no inputs and whose state passes the test q
abbrev such : (ℕ → Bool) → (ℕ → Bool) → List ℕ → ℕ → Bool
such input q s i = not (input i) && q (at s i)

abbrev pub Rising : ℕ → (List ℕ → List ℕ) → List ℕ → Type 0
Rising n f s = (length s ≡ n) × (s ≼ f s)

abbrev pub Falling : ℕ → (List ℕ → List ℕ) → List ℕ → Type 0
Falling n f s = (length s ≡ n) × (f s ≼ s)

abbrev pub SameInner : ℕ → (ℕ → Bool) → List ℕ → List ℕ → Type 0
SameInner n input s t = (v : ℕ) → v < n → input v ≡ false → at s v ≡ at t v

module _ (n : ℕ) (input : ℕ → Bool) (f : List ℕ → List ℕ) (st : Stepper n input f) where
  -- a place that differs is no input's
  inner_place : (s : List ℕ) (i : ℕ) → i < n → (at (f s) i ≡ at s i → ⊥) → not (input i) ≡ true
  inner_place s i l h = go (input i) refl
    where
      go : (b : Bool) → input i ≡ b → not b ≡ true
      go true e = absurd (h (st.keeps s i l e))
      go false e = refl

  such_bound : (q : ℕ → Bool) (s : List ℕ) → count n (such input q s) ≤ free_nodes n input
  such_bound q s = count_le n (such input q s) (λ i. not (input i)) (λ i l e. ((and-eq-true_iff (not (input i)) (q (at s i))).0 e).0)

  -- where a changed cell goes from passing q to failing it, and never back, fewer cells pass
  fewer : (q : ℕ → Bool) (s : List ℕ) → length s ≡ n → ((i : ℕ) → q (at (f s) i) ≡ true → q (at s i) ≡ true)
      → ((i : ℕ) → (at (f s) i ≡ at s i → ⊥) → (q (at s i) ≡ true) × (q (at (f s) i) ≡ false))
      → (f s ≡ s) ⊎ (count n (such input q (f s)) < count n (such input q s))
  fewer q s p back change = go (equal_or_differ n (f s) s (st.sized s) p)
    where
      less : (i : ℕ) → i < n → such input q (f s) i ≡ true → such input q s i ≡ true
      less i l e = let h = (and-eq-true_iff (not (input i)) (q (at (f s) i))).0 e in (and-eq-true_iff _ _).1 (h.0, back i h.1)

      fails : (i : ℕ) → q (at (f s) i) ≡ false → (b : Bool) → (b && q (at (f s) i)) ≡ false
      fails i e true = e
      fails i e false = refl

      go : (f s ≡ s) ⊎ Differ n (f s) s → (f s ≡ s) ⊎ (count n (such input q (f s)) < count n (such input q s))
      go (inl e) = inl e
      go (inr d) =
          let c = change d.0 d.2 in
          inr (count_lt n (such input q (f s)) (such input q s) less d.0 d.1 (fails d.0 c.1 (not (input d.0))) ((and-eq-true_iff _ _).1 (inner_place s d.0 d.1 d.2, c.0)))

  -- (i) what rises settles within as many steps as there are nodes that are no inputs
  rising_step : (s : List ℕ) → Rising n f s → Rising n f (f s)
  rising_step s p = (st.sized s, st.mono s (f s) p.1)

  rise_less : (s : List ℕ) → Rising n f s → (f s ≡ s) ⊎ (count n (such input not_x (f s)) < count n (such input not_x s))
  rise_less s p = fewer not_x s p.0 back change
    where
      back : (i : ℕ) → not (eqb (at (f s) i) 2) ≡ true → not (eqb (at s i) 2) ≡ true
      back i e = ap not (ne_eqb (at s i) 2 (λ k. eqb-false (at (f s) i) 2 (not-true _ e) (x_stays (at s i) (at (f s) i) (p.1 i) k)))

      change : (i : ℕ) → (at (f s) i ≡ at s i → ⊥) → (not (eqb (at s i) 2) ≡ true) × (not (eqb (at (f s) i) 2) ≡ false)
      change i h = let r = rises (at s i) (at (f s) i) (p.1 i) (λ e. h (sym e)) in (ap not (ne_eqb _ _ r.0), ap not (eq-eqb _ _ r.1))

  pub rise_settles : (s : List ℕ) → Rising n f s → Still f (free_nodes n input) s
  rise_settles s p = descent f (Rising n f) (λ a. count n (such input not_x a)) rising_step rise_less (free_nodes n input) s p (such_bound not_x s)

  -- (ii) what falls settles within the same bound
  falling_step : (s : List ℕ) → Falling n f s → Falling n f (f s)
  falling_step s p = (st.sized s, st.mono (f s) s p.1)

  fall_less : (s : List ℕ) → Falling n f s → (f s ≡ s) ⊎ (count n (such input is_x (f s)) < count n (such input is_x s))
  fall_less s p = fewer is_x s p.0 back change
    where
      back : (i : ℕ) → eqb (at (f s) i) 2 ≡ true → eqb (at s i) 2 ≡ true
      back i e = eq-eqb _ _ (x_stays (at (f s) i) (at s i) (p.1 i) (eqb-true _ _ e))

      change : (i : ℕ) → (at (f s) i ≡ at s i → ⊥) → (eqb (at s i) 2 ≡ true) × (eqb (at (f s) i) 2 ≡ false)
      change i h = let r = rises (at (f s) i) (at s i) (p.1 i) h in (eq-eqb _ _ r.1, ne_eqb _ _ r.0)

  pub fall_settles : (s : List ℕ) → Falling n f s → Still f (free_nodes n input) s
  fall_settles s p = descent f (Falling n f) (λ a. count n (such input is_x a)) falling_step fall_less (free_nodes n input) s p (such_bound is_x s)

  -- a settled state, some of whose inputs are raised, rises; one whose inputs are lowered, falls
  pub raised_rises : (s t : List ℕ) → f s ≡ s → length t ≡ n → s ≼ t → SameInner n input s t → Rising n f t
  raised_rises s t e len h k = (len, within n t (f t) len (st.sized t) (λ v l. go v l (input v) refl))
    where
      go : (v : ℕ) → v < n → (b : Bool) → input v ≡ b → at t v ⊑ at (f t) v
      go v l true i = inl (sym (st.keeps t v l i))
      go v l false i = rw (← k v l i, ← ap (λ (x : List ℕ). at x v) e) (st.mono s t h v)

  pub lowered_falls : (s t : List ℕ) → f s ≡ s → length t ≡ n → t ≼ s → SameInner n input t s → Falling n f t
  lowered_falls s t e len h k = (len, within n (f t) t (st.sized t) len (λ v l. go v l (input v) refl))
    where
      go : (v : ℕ) → v < n → (b : Bool) → input v ≡ b → at (f t) v ⊑ at t v
      go v l true i = inl (st.keeps t v l i)
      go v l false i = rw (k v l i, ← ap (λ (x : List ℕ). at x v) e) (st.mono t s h v)

  -- (iii) covering
  pub iter_mono : (k : ℕ) (s t : List ℕ) → s ≼ t → iter k f s ≼ iter k f t
  iter_mono zero s t h = h
  iter_mono (suc k) s t h = iter_mono k (f s) (f t) (st.mono s t h)

  module _ (changed : ℕ → Bool) (from to : List ℕ) where
    -- u is settled, covers the start, and has X at each changed input: it covers whatever is reached
    pub reach_below : (u : List ℕ) → f u ≡ u → from ≼ u → ((v : ℕ) → changed v ≡ true → at u v ≡ 2) → (s : List ℕ) → Reach n input changed f to from s → s ≼ u
    reach_below u e h x s begin v = h v
    reach_below u e h x s (move {s = r} p t k may) v = go (λ i. reach_below u e h x r p i) (may v)
      where
        go : r ≼ u → May n input changed f to r v (at t v) → at t v ⊑ at u v
        go b (stays q) = rw q (b v)
        go b (arrives c q) = inr (x v c)
        go b (follows l i q) = rw (q, ← ap (λ (y : List ℕ). at y v) e) (st.mono r u b v)

    -- and from u with the new inputs in place k steps lead to a state that covers each settled state that is reached and has them in place
    pub covered : (u t : List ℕ) → f u ≡ u → from ≼ u → ((v : ℕ) → changed v ≡ true → at u v ≡ 2) → length u ≡ n → length t ≡ n → SameInner n input t u
        → (k : ℕ) (s : List ℕ) → Reach n input changed f to from s → f s ≡ s → ((v : ℕ) → v < n → input v ≡ true → at s v ≡ at t v)
        → s ≼ iter k f t
    covered u t e h x lu lt same k s r fix inputs =
        rw (← iter_fixed f k s fix) (iter_mono k s t (within n s t (ap length (sym fix) ∙ st.sized s) lt (λ v l. go v l (input v) refl)))
      where
        go : (v : ℕ) → v < n → (b : Bool) → input v ≡ b → at s v ⊑ at t v
        go v l true i = inl (inputs v l i)
        go v l false i = rw (same v l i) (reach_below u e h x s r v)

    -- one by one is a case of any nodes at once
    pub one_reach : (s : List ℕ) → OneByOne n input changed f to from s → Reach n input changed f to from s
    one_reach s start = begin
    one_reach s (arrive {s = r} p v c) =
        move (one_reach r p) (set r v (at to v)) (length-set r v (at to v))
        (λ i. elim (set_at r v (at to v) i) [ inl e ↦ stays e | inr q ↦ arrives (ap changed q.0 ∙ c) (q.1 ∙ ap (at to) (sym q.0)) ])
    one_reach s (follow {s = r} p v l h) =
        move (one_reach r p) (set r v (at (f r) v)) (length-set r v (at (f r) v))
        (λ i. elim (set_at r v (at (f r) v) i) [ inl e ↦ stays e | inr q ↦ follows (omega (arith, q.0)) (ap input q.0 ∙ h) (q.1 ∙ ap (at (f r)) (sym q.0)) ])

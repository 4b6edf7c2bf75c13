-- Of any step to which the laws of runs apply: the ternary run settles in both halves, and its end covers what any order of arrival can end in,
-- a unit run among it. Assumes nothing.
use Prim.Native.Nat.{ℕ, zero, suc, ◌≤◌, ◌<◌}
use native.Mathlib.Nat.{zero-add}
use native.Mathlib.Omega.{arith}
use mathlib.Core.Path.{◌≡◌, refl, ap, ◌∙◌, sym, subst}
use mathlib.Core.Logic.{inl, inr}
use mathlib.Core.Bool.{Bool, true, false, cond, not, true≢false, false≢true}
use mathlib.Core.List.{List}
use lib.ListN.{length, get_or-eq_default}
use lib.Dec.{eqb, ltb}
use borrow.Author.Tests.{eqb-true, eq-eqb, not-false, ltb-true, ltb-false}
use Rattle.model.specs.Places.{at, iter}
use Rattle.model.specs.Order.{◌⊑◌, ◌≼◌}
use Rattle.model.specs.Cover.{Stepper, May, stays, arrives, follows, Reach, begin, move}
use Rattle.model.specs.Run.{Ran, changed, raised, lowered, settle}
use Rattle.model.specs.Demands.{Settles, Unsettled, free_nodes, Covered}
use Rattle.laws.proofs.Places.{length-tab, get_or-tab}
use Rattle.laws.proofs.Descent.{count_all, iter_keeps, iter_fixed, Still}
use Rattle.laws.proofs.Settle.{Ended, Stuck, settle_ends, ended_bound}
use Rattle.laws.proofs.Cover.{within, Rising, Falling, SameInner, rise_settles, fall_settles, raised_rises, lowered_falls, iter_mono, covered}

still_more : (f : List ℕ → List ℕ) (a b : ℕ) (s : List ℕ) → a ≤ b → Still f a s → Still f b s
still_more f a b s h r = (r.0, omega arith, r.2)

-- what `settle` says, in the words of the demands
pub ended_settles : (f : List ℕ → List ℕ) (fuel top : ℕ) (s : List ℕ) (r : Ran) → (e : Ended f fuel 0 s r) → e.steps ≤ top → Settles f top s r.count r.states
ended_settles f fuel top s r e l =
    subst (λ (k : ℕ). Settles f top s k r.states) (sym (e.count ∙ zero-add e.steps))
    (subst (λ (x : List ℕ). Settles f top s e.steps x) (sym e.states) (record { few = l; states = refl; settled = e.fixed; least = e.least }))

pub stuck_unsettled : (f : List ℕ → List ℕ) (fuel : ℕ) (s : List ℕ) (r : Ran) → Stuck f fuel 0 s r → Unsettled f fuel s r.states
stuck_unsettled f fuel s r e = record { states = e.states; none = e.none }

module _ (N : ℕ) (input : ℕ → Bool) (F : List ℕ → List ℕ) (st : Stepper N input F) (s to : List ℕ) (sized : length s ≡ N) (sized-to : length to ≡ N) (ok : F s ≡ s)
    (others : (v : ℕ) → v < N → input v ≡ false → at to v ≡ at s v) where
  -- a changed node is an input
  not-changed : (v : ℕ) → at to v ≡ at s v → changed s to v ≡ false
  not-changed v e = ap not (eq-eqb (at s v) (at to v) (sym e))

  changed_input : (v : ℕ) → changed s to v ≡ true → (v < N) × (input v ≡ true)
  changed_input v e = go _ refl _ refl
    where
      clash : at to v ≡ at s v → ⊥
      clash h = true≢false (sym e ∙ not-changed v h)

      go : (b : Bool) → ltb v N ≡ b → (i : Bool) → input v ≡ i → (v < N) × (input v ≡ true)
      go true l true i = (ltb-true v N l, i)
      go true l false i = absurd (clash (others v (ltb-true v N l) i))
      go false l i e =
          let h = ltb-false v N l in
          absurd (clash (get_or-eq_default to 0 (omega arith) ∙ sym (get_or-eq_default s 0 (omega arith))))

  cell_true : (b : Bool) (x y : ℕ) → b ≡ true → cond b x y ≡ x
  cell_true true x y e = refl
  cell_true false x y e = absurd (false≢true e)

  cell_false : (b : Bool) (x y : ℕ) → b ≡ false → cond b x y ≡ y
  cell_false true x y e = absurd (true≢false e)
  cell_false false x y e = refl

  up : List ℕ
  up = raised s to

  up_length : length up ≡ N
  unfolding up raised
  up_length = length-tab (length s) _ ∙ sized

  up_at : (v : ℕ) → v < N → at up v ≡ cond (changed s to v) 2 (at s v)
  unfolding up raised
  up_at v l = get_or-tab (length s) _ 0 v (omega arith)

  up_above : s ≼ up
  up_above = within N s up sized up_length (λ v l. rw (up_at v l) (go v (changed s to v)))
    where
      go : (v : ℕ) (b : Bool) → at s v ⊑ cond b 2 (at s v)
      go v true = inr refl
      go v false = inl refl

  up_inner : SameInner N input s up
  up_inner v l i = sym (up_at v l ∙ cell_false _ _ _ (not-changed v (others v l i)))

  up_rises : Rising N F up
  up_rises = raised_rises N input F st s up ok up_length up_above up_inner

  -- the first half ends, after at most as many steps as there are nodes that are no inputs
  abbrev pub half₁ : Ran
  half₁ = settle F N 0 (raised s to)

  inner_le : free_nodes N input ≤ N
  inner_le = count_all N _

  pub ended₁ : Ended F N 0 (raised s to) half₁
  unfolding up
  ended₁ = settle_ends F N 0 up (still_more F _ _ up inner_le (rise_settles N input F st up up_rises))

  pub bound₁ : ended₁.steps ≤ free_nodes N input
  unfolding up
  bound₁ = ended_bound F N 0 up half₁ _ ended₁ (rise_settles N input F st up up_rises)

  -- its end
  u : List ℕ
  u = half₁.states

  u_is : u ≡ iter ended₁.steps F up
  unfolding u up
  u_is = ended₁.states

  u_fixed : F u ≡ u
  unfolding up
  u_fixed = rw u_is ended₁.fixed

  u_length : length u ≡ N
  u_length = rw u_is (iter_keeps F (λ (x : List ℕ). length x ≡ N) (λ x h. st.sized x) ended₁.steps up up_length)

  u_above : s ≼ u
  u_above =
      rw u_is
      (subst (λ (x : List ℕ). x ≼ iter ended₁.steps F up) (iter_fixed F ended₁.steps s ok) (iter_mono N input F st ended₁.steps s up up_above))

  u_input : (v : ℕ) → v < N → input v ≡ true → at u v ≡ at up v
  u_input v l i = rw u_is (iter_keeps F (λ (x : List ℕ). at x v ≡ at up v) (λ x h. st.keeps x v l i ∙ h) ended₁.steps up refl)

  u_X : (v : ℕ) → changed s to v ≡ true → at u v ≡ 2
  u_X v c = let h = changed_input v c in u_input v h.0 h.1 ∙ (up_at v h.0 ∙ cell_true _ _ _ c)

  down : List ℕ
  down = lowered s to u

  down_length : length down ≡ N
  unfolding down lowered
  down_length = length-tab (length s) _ ∙ sized

  down_at : (v : ℕ) → v < N → at down v ≡ cond (changed s to v) (at to v) (at u v)
  unfolding down lowered
  down_at v l = get_or-tab (length s) _ 0 v (omega arith)

  down_below : down ≼ u
  down_below = within N down u down_length u_length (λ v l. rw (down_at v l) (go v (changed s to v) refl))
    where
      go : (v : ℕ) (b : Bool) → changed s to v ≡ b → cond b (at to v) (at u v) ⊑ at u v
      go v true e = inr (u_X v e)
      go v false e = inl refl

  down_inner : SameInner N input down u
  down_inner v l i = down_at v l ∙ cell_false _ _ _ (not-changed v (others v l i))

  -- the new inputs are in place
  down_input : (v : ℕ) → v < N → input v ≡ true → at down v ≡ at to v
  down_input v l i = down_at v l ∙ go (changed s to v) refl
    where
      go : (b : Bool) → changed s to v ≡ b → cond b (at to v) (at u v) ≡ at to v
      go true e = refl
      go false e = u_input v l i ∙ (up_at v l ∙ (cell_false _ _ _ e ∙ eqb-true (at s v) (at to v) (not-false (eqb (at s v) (at to v)) e)))

  down_falls : Falling N F down
  down_falls = lowered_falls N input F st u down u_fixed down_length down_below down_inner

  abbrev pub half₂ : Ran
  half₂ = settle F N 0 (lowered s to half₁.states)

  pub ended₂ : Ended F N 0 (lowered s to half₁.states) half₂
  unfolding down u
  ended₂ = settle_ends F N 0 down (still_more F _ _ down inner_le (fall_settles N input F st down down_falls))

  pub bound₂ : ended₂.steps ≤ free_nodes N input
  unfolding down u
  bound₂ = ended_bound F N 0 down half₂ _ ended₂ (fall_settles N input F st down down_falls)

  -- whatever is reached in any order, is settled and has the new inputs in place, the answer covers
  pub covers : (x : List ℕ) → Reach N input (changed s to) F to s x → F x ≡ x
      → ((v : ℕ) → v < N → input v ≡ true → at x v ≡ at to v) → x ≼ half₂.states
  unfolding down u
  covers x r fix ins =
      rw ended₂.states
      (covered N input F st (changed s to) s to u down u_fixed u_above u_X u_length down_length down_inner ended₂.steps x r fix (λ v l i. ins v l i ∙ sym (down_input v l i)))

  pub halves_cover : Covered N input F s to half₁.count half₂.count half₂.states
  halves_cover =
      record {
        start = ok;
        middle = half₁.states;
        first = ended_settles F N (free_nodes N input) (raised s to) half₁ ended₁ bound₁;
        second = ended_settles F N (free_nodes N input) (lowered s to half₁.states) half₂ ended₂ bound₂;
        covers = covers;
      }

  -- any number of steps from the new inputs is reached
  pub steps_reached : (k : ℕ) (x : List ℕ) → length x ≡ N → Reach N input (changed s to) F to s x → Reach N input (changed s to) F to s (iter k F x)
  steps_reached zero x e r = r
  steps_reached (suc k) x e r = steps_reached k (F x) (st.sized x) (move r (F x) (st.sized x ∙ sym e) (λ v. go v (ltb v N) refl (input v) refl))
    where
      go : (v : ℕ) (b : Bool) → ltb v N ≡ b → (i : Bool) → input v ≡ i → May N input (changed s to) F to x v (at (F x) v)
      go v true l true i = stays (st.keeps x v (ltb-true v N l) i)
      go v true l false i = follows (ltb-true v N l) i refl
      go v false l i h =
          let m = ltb-false v N l in
          stays (get_or-eq_default (F x) 0 (omega (arith, st.sized x)) ∙ sym (get_or-eq_default x 0 (omega arith)))

  -- the new inputs, all at once
  pub all_arrived : Reach N input (changed s to) F to s to
  all_arrived = move begin to (sized-to ∙ sym sized) (λ v. go v (changed s to v) refl)
    where
      go : (v : ℕ) (b : Bool) → changed s to v ≡ b → May N input (changed s to) F to s v (at to v)
      go v true e = arrives e refl
      go v false e = stays (sym (eqb-true (at s v) (at to v) (not-false (eqb (at s v) (at to v)) e)))

  -- so a number of steps that settles the new inputs ends in a state that is covered
  pub steps_covered : (k : ℕ) → F (iter k F to) ≡ iter k F to → iter k F to ≼ half₂.states
  steps_covered k fix =
      covers (iter k F to) (steps_reached k to sized-to all_arrived) fix
      (λ v l i. iter_keeps F (λ (x : List ℕ). at x v ≡ at to v) (λ x h. st.keeps x v l i ∙ h) k to refl)

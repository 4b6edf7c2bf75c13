-- What `settle` answers: the least number of steps after which the state is settled, or none within the limit. Assumes nothing.
use Prim.Native.Nat.{ℕ, zero, suc, ◌+◌, ◌≤◌, ◌<◌}
use native.Mathlib.Nat.{not-suc-le-zero, le_of_suc-le-suc}
use native.Mathlib.Omega.{arith}
use mathlib.Core.Path.{◌≡◌, refl, ap, ap₂, ◌∙◌, sym}
use mathlib.Core.Logic.{◌⊎◌, inl, inr}
use mathlib.Core.Bool.{Bool, true, false, true≢false, false≢true, and-eq-true_iff}
use mathlib.Core.List.{List, [], ◌∷◌}
use lib.Dec.{eqb, leb}
use borrow.Author.Tests.{eqb-true, eq-eqb, leb-true, leb-false}
use Rattle.model.specs.Places.{same, iter}
use Rattle.model.specs.Run.{Ran, settle}
use Rattle.model.specs.Tables.{until}
use Rattle.laws.proofs.Descent.{Still, iter_fixed}

pub same_true : (s t : List ℕ) → same s t ≡ true → s ≡ t
same_true [] [] e = refl
same_true [] (y ∷ ys) e = absurd (false≢true e)
same_true (x ∷ xs) [] e = absurd (false≢true e)
same_true (x ∷ xs) (y ∷ ys) e =
    let h = (and-eq-true_iff (eqb x y) (same xs ys)).0 e in
    ap₂ ◌∷◌ (eqb-true x y h.0) (same_true xs ys h.1)

pub same_refl : (s : List ℕ) → same s s ≡ true
same_refl [] = refl
same_refl (x ∷ xs) = (and-eq-true_iff _ _).1 (eq-eqb x x refl, same_refl xs)

pub same_false : (s t : List ℕ) → same s t ≡ false → s ≡ t → ⊥
same_false s t e p = true≢false (sym (same_refl t) ∙ (ap (λ (x : List ℕ). same x t) (sym p) ∙ e))

module _ (f : List ℕ → List ℕ) where
  -- one step alters nothing
  abbrev pub Fixed : List ℕ → Type 0
  Fixed s = f s ≡ s

  -- the run ends after k steps, k the least number for which the state is settled
  pub record Ended (fuel c : ℕ) (s : List ℕ) (r : Ran) : Type 0 where
    pub steps : ℕ
    pub few : steps ≤ fuel
    pub ends : r.ends ≡ true
    pub count : r.count ≡ c + steps
    pub states : r.states ≡ iter steps f s
    pub fixed : Fixed (iter steps f s)
    pub least : (j : ℕ) → j < steps → Fixed (iter j f s) → ⊥

  -- no number of steps up to the limit settles the state
  pub record Stuck (fuel c : ℕ) (s : List ℕ) (r : Ran) : Type 0 where
    pub ends : r.ends ≡ false
    pub count : r.count ≡ c + fuel
    pub states : r.states ≡ iter fuel f s
    pub none : (j : ℕ) → j ≤ fuel → Fixed (iter j f s) → ⊥

  none_zero : (s : List ℕ) → (Fixed s → ⊥) → (j : ℕ) → j ≤ 0 → Fixed (iter j f s) → ⊥
  none_zero s h zero l = h
  none_zero s h (suc j) l = absurd (not-suc-le-zero l)

  less_suc : (s : List ℕ) (k : ℕ) → (Fixed s → ⊥) → ((j : ℕ) → j < k → Fixed (iter j f (f s)) → ⊥) → (j : ℕ) → j < suc k → Fixed (iter j f s) → ⊥
  less_suc s k h g zero l = h
  less_suc s k h g (suc j) l = g j (le_of_suc-le-suc l)

  pub settle_says : (fuel c : ℕ) (s : List ℕ) → Ended fuel c s (settle f fuel c s) ⊎ Stuck fuel c s (settle f fuel c s)
  settle_says zero c s = go _ refl
    where
      go : (b : Bool) → same (f s) s ≡ b → Ended 0 c s (settle f 0 c s) ⊎ Stuck 0 c s (settle f 0 c s)
      go true e =
          inl (record { steps = 0; few = omega arith; ends = e; count = omega arith; states = refl; fixed = same_true (f s) s e; least = λ j l. absurd (not-suc-le-zero l) })
      go false e = inr (record { ends = e; count = omega arith; states = refl; none = none_zero s (same_false (f s) s e) })
  settle_says (suc fuel) c s = go _ refl (settle_says fuel (suc c) (f s))
    where
      run : Bool → Ran
      run b = elim b [ true ↦ record { ends = true; count = c; states = s } | false ↦ settle f fuel (suc c) (f s) ]

      go : (b : Bool) → same (f s) s ≡ b → Ended fuel (suc c) (f s) (settle f fuel (suc c) (f s)) ⊎ Stuck fuel (suc c) (f s) (settle f fuel (suc c) (f s))
          → Ended (suc fuel) c s (run b) ⊎ Stuck (suc fuel) c s (run b)
      go true e h =
          inl (record { steps = 0; few = omega arith; ends = refl; count = omega arith; states = refl; fixed = same_true (f s) s e; least = λ j l. absurd (not-suc-le-zero l) })
      go false e (inl r) =
          inl
          (record {
            steps = suc r.steps;
            few = omega arith;
            ends = r.ends;
            count = omega arith;
            states = r.states;
            fixed = r.fixed;
            least = less_suc s r.steps (same_false (f s) s e) r.least;
          })
      go false e (inr r) =
          inr
          (record {
            ends = r.ends;
            count = omega arith;
            states = r.states;
            none = λ j l. less_suc s (suc fuel) (same_false (f s) s e) (λ i m. r.none i (le_of_suc-le-suc m)) j (omega arith);
          })

  pub settle_ends : (fuel c : ℕ) (s : List ℕ) → Still f fuel s → Ended fuel c s (settle f fuel c s)
  settle_ends fuel c s h = elim (settle_says fuel c s) [ inl r ↦ r | inr r ↦ absurd (r.none h.0 h.1 h.2) ]

  -- the least number is below any that settles
  pub ended_bound : (fuel c : ℕ) (s : List ℕ) (r : Ran) (bound : ℕ) → (e : Ended fuel c s r) → Still f bound s → e.steps ≤ bound
  ended_bound fuel c s r bound e h = go _ refl
    where
      go : (b : Bool) → leb e.steps bound ≡ b → e.steps ≤ bound
      go true k = leb-true e.steps bound k
      go false k = let l = leb-false e.steps bound k in absurd (e.least h.0 (omega arith) h.2)

-- to stop where nothing changes loses nothing
pub until-iter : (f : List ℕ → List ℕ) (n : ℕ) (x : List ℕ) → until n f x ≡ iter n f x
until-iter f zero x = refl
until-iter f (suc n) x = go (same (f x) x) refl (until-iter f n (f x))
  where
    go : (b : Bool) → same (f x) x ≡ b → until n f (f x) ≡ iter n f (f x) → ◌≡◌ {A = List ℕ} (elim b [ true ↦ x | false ↦ until n f (f x) ]) (iter n f (f x))
    go true e r = let q = same_true (f x) x e in sym (ap (iter n f) q ∙ iter_fixed f n x q)
    go false e r = r

-- Steps of any kind until settled, one at a time: what an evaluated step says, when nothing is changed, when the limit is reached, and one more. Assumes nothing.
use Prim.Native.Nat.{ℕ, zero, suc, ◌+◌, ◌-◌, ◌<◌}
use native.Mathlib.Omega.{arith}
use native.Mathlib.Numerals.{add-one}
use mathlib.Core.Path.{◌≡◌, refl, sym, ap, ◌∙◌}
use mathlib.Core.Bool.{Bool, true, false, not}
use mathlib.Core.Logic.{◌≢◌}
use borrow.Author.Tests.{eq-eqb, ne_eqb}
use mathlib.Core.List.{List}
use lib.ListN.{length}
use lib.Seq.{ext_get_or}
use lib.Dec.{eqb}
use Rattle.model.specs.Places.{tab, at}
use Rattle.model.specs.Net.{Net}
use Rattle.model.specs.Run.{Ran, changed, settled, settle}
use Rattle.model.specs.Entries.{altered, first_changed}
use Rattle.model.specs.Cover.{Stepper}
use Rattle.laws.proofs.Places.{length-tab, get_or-tab, first-same}
use Rattle.laws.proofs.Descent.{count_same}
use Rattle.laws.proofs.RuleOne.{stepper}
use Rattle.basis.specs.Cells.{Spared}
use Rattle.basis.specs.Steps.{Stepping, rule_one, Evaluated, Ended}
use Rattle.basis.proofs.Altered.{same_first}

-- a step leaves as many states as there are nodes
abbrev pub StepSized : Stepping → Type 0
StepSized by = (s : List ℕ) → length (by.next s) ≡ by.size

pub one_sized : (net : Net) → StepSized (rule_one net)
one_sized net = (stepper net).sized

module _ (f : List ℕ → List ℕ) where
  -- steps with one more left, by whether the state is settled
  abbrev turn : ℕ → ℕ → List ℕ → Bool → Ran
  turn fuel k s b = elim b [ true ↦ record { ends = true; count = k; states = s } | false ↦ settle f fuel (suc k) (f s) ]

  -- they end where the state is settled, or where none is left; else they go on
  settle_ends : (fuel k : ℕ) (s : List ℕ) → settled f s ≡ true → settle f fuel k s ≡ record { ends = true; count = k; states = s }
  settle_ends zero k s e = ap (λ (b : Bool). record { ends = b; count = k; states = s }) e
  settle_ends (suc fuel) k s e = ap (turn fuel k s) e

  settle-stops : (fuel k : ℕ) (s : List ℕ) → fuel ≡ 0 → settled f s ≡ false → settle f fuel k s ≡ record { ends = false; count = k; states = s }
  settle-stops fuel k s z e = rw (z, e)

  settle_goes : (fuel m k : ℕ) (s : List ℕ) → fuel ≡ m + 1 → settled f s ≡ false → settle f fuel k s ≡ settle f m (k + 1) (f s)
  settle_goes fuel m k s z e = ap (λ (n : ℕ). settle f n k s) (z ∙ add-one m) ∙ ap (turn m k s) e ∙ ap (λ (n : ℕ). settle f m n (f s)) (sym (add-one k))

  module _ (n : ℕ) (input : ℕ → Bool) (st : Stepper n input f) (v : ℕ) (l : v < n) (i : input v ≡ true) where
    -- an input holds while steps follow
    pub settle_keeps : (fuel k : ℕ) (s : List ℕ) → at (settle f fuel k s).states v ≡ at s v
    settle_keeps zero k s = refl
    settle_keeps (suc fuel) k s = go (settled f s) (settle_keeps fuel (suc k) (f s))
      where
        go : (b : Bool) → at (settle f fuel (suc k) (f s)).states v ≡ at (f s) v → at (turn fuel k s b).states v ≡ at s v
        go true h = refl
        go false h = h ∙ st.keeps s v l i

module _ {by : Stepping} where
  ended_as : {run : Ran} {w w' s : List ℕ} {b : Bool} {k : ℕ} → run ≡ record { ends = b; count = k; states = s } → Spared by.used w w'
      → {p : ℕ} → p ≡ first_changed s (by.next s) → Ended by run w b p k s w'
  ended_as e r q = record {
    ends = sym (ap (λ (x : Ran). x.ends) e);
    place = q ∙ sym (ap (λ (x : Ran). first_changed x.states (by.next x.states)) e);
    count = sym (ap (λ (x : Ran). x.count) e);
    states = sym (ap (λ (x : Ran). x.states) e);
    spared = r;
  }

  -- one evaluated step says which nodes the step changes, the first and how many, and the states after it
  module _ {s w w' : List ℕ} (E : Evaluated by s w w') (long : length s ≡ by.size) where
    evaluated_changed : (v : ℕ) → v < length s → changed s w' v ≡ changed s (by.next s) v
    evaluated_changed v l = ap (λ (x : ℕ). not (eqb (at s v) x)) (E.next v (omega arith))

    pub evaluated_place : first_changed s w' ≡ first_changed s (by.next s)
    unfolding first_changed
    evaluated_place = first-same (length s) (changed s w') (changed s (by.next s)) evaluated_changed

    pub evaluated_count : altered s w' ≡ altered s (by.next s)
    unfolding altered
    evaluated_count = count_same (length s) (changed s w') (changed s (by.next s)) evaluated_changed

    module _ (sized : StepSized by) where
      pub evaluated_states : tab (length s) (at w') ≡ by.next s
      evaluated_states =
          ext_get_or 0 (tab (length s) (at w')) (by.next s) (length-tab (length s) (at w') ∙ long ∙ sym (sized s))
          (λ v l. let h = length-tab (length s) (at w') in get_or-tab (length s) (at w') 0 v (omega arith) ∙ E.next v (omega arith))

      -- where p is the first node that the step changes, in steps of which `count` were taken and `limit` are allowed
      module _ {p : ℕ} (c : p ≡ first_changed s w') where
        pub settled_test : eqb p (length s) ≡ settled by.next s
        settled_test = ap (λ (v : ℕ). eqb v (length s)) (c ∙ evaluated_place) ∙ same_first s (by.next s) (sized s ∙ sym long)

        module _ {count : ℕ} (limit : ℕ) where
          -- they stop where the state is settled, and at the limit; else they go on
          pub rests : {run : Ran} {w₀ : List ℕ} → run ≡ settle by.next (limit - count) count s → Spared by.used w₀ w → p ≡ length s → Ended by run w₀ true by.size count s w'
          rests i r e = ended_as (i ∙ settle_ends by.next (limit - count) count s (sym settled_test ∙ eq-eqb _ _ e)) (λ j l. E.after j l ∙ r j l) (sym long ∙ sym e ∙ c ∙ evaluated_place)

          pub stops : {run : Ran} {w₀ : List ℕ} → run ≡ settle by.next (limit - count) count s → Spared by.used w₀ w → p ≢ length s → count ≡ limit → Ended by run w₀ false p count s w'
          stops i r n h =
              ended_as (i ∙ settle-stops by.next (limit - count) count s (omega arith) (sym settled_test ∙ ne_eqb _ _ n)) (λ j l. E.after j l ∙ r j l) (c ∙ evaluated_place)

          pub goes : {x : Ran} → x ≡ settle by.next (limit - count) count s → p ≢ length s → count < limit → {s' : List ℕ} → s' ≡ tab (length s) (at w')
              → x ≡ settle by.next (limit - (count + 1)) (count + 1) s'
          goes i z e q =
              i ∙ settle_goes by.next (limit - count) (limit - (count + 1)) count s (omega arith) (sym settled_test ∙ ne_eqb _ _ z)
              ∙ ap (settle by.next (limit - (count + 1)) (count + 1)) (sym (q ∙ evaluated_states))

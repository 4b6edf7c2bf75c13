-- What an entry leaves that was accepted: the outcome that the definitions give, from what the steps have left. Under any rules and of any step. Assumes nothing.
use Prim.Native.Nat.{ℕ, ◌<◌}
use native.Mathlib.Omega.{arith}
use mathlib.Core.Path.{◌≡◌, refl, ap, ◌∙◌, sym}
use mathlib.Core.Bool.{Bool, true, false, cond}
use mathlib.Core.List.{List}
use borrow.Author.Tests.{ltb-false}
use lib.ListN.{length}
use lib.Seq.{ext_get_or}
use lib.Dec.{ltb}
use Rattle.model.specs.Places.{at, first}
use Rattle.model.specs.Run.{Changes, settled, limit_of, unit_steps}
use Rattle.model.specs.Rules.{Rule, judge, judged}
use Rattle.model.specs.Entries.{Outcome, untouched, cleared, step_taken, unit_ran, ternary_ran, ternary_started, step_under, unit_under, ternary_under, Leaves}
use Rattle.model.specs.declared.Answer.TheVariants.{Done, Start, Oscillates}
use Rattle.laws.proofs.Places.{length-tab, get_or-tab}
use Rattle.basis.specs.Cells.{Spared}
use Rattle.basis.specs.Steps.{Stepping, Stepped, Ended, Halved}
use Rattle.basis.proofs.Verdicts.{accepted_gives, leaves_at}
use Rattle.std.proofs.Common.{Ok}

-- the cells past those that are cleared are as they came
pub cleared_spared : (used : ℕ) (w w' : List ℕ) → length w' ≡ length w → Spared used w w' → cleared used w' ≡ cleared used w
unfolding cleared
cleared_spared used w w' e h =
    ext_get_or 0 (cleared used w') (cleared used w) (length-tab (length w') _ ∙ e ∙ sym (length-tab (length w) _))
    (λ i l. let m : i < length w' = omega (arith, length-tab (length w') (λ j. cond (ltb j used) 0 (at w' j))) in
    get_or-tab (length w') _ 0 i m ∙ go i (ltb i used) refl ∙ sym (get_or-tab (length w) _ 0 i (omega arith)))
  where
    go : (i : ℕ) (b : Bool) → ltb i used ≡ b → cond b 0 (at w' i) ≡ cond b 0 (at w i)
    go i true p = refl
    go i false p = h i (ltb-false i used p)

module _ (by : Stepping) (s w w₁ w' : List ℕ) (same : length w₁ ≡ length w) (used : ℕ) (u : used ≡ by.used) (x : w' ≡ cleared used w₁) where
  wiped : Spared by.used w w₁ → w' ≡ cleared by.used w
  wiped h = x ∙ ap (λ (k : ℕ). cleared k w₁) u ∙ cleared_spared by.used w w₁ same h

  -- a step
  pub step_leaves : (rs : List Rule) → judge rs ≡ Ok tt → {p k : ℕ} {s' : List ℕ} → Stepped by s w p k s' w₁
      → Leaves (step_under rs by.next by.used s w) (Done p k 0) s' w'
  step_leaves rs e st =
      leaves_at
      (accepted_gives rs (untouched s w) (step_taken by.next by.used s w) (Ok tt) (sym e) refl)
      (record { answers = rw (st.place, st.count); states_left = st.states; work_left = wiped st.spared })

  -- a unit run
  pub unit_leaves : (rs : List Rule) → judge rs ≡ Ok tt → (ch : Changes) (limit : ℕ) {b : Bool} {p k : ℕ} {s' : List ℕ} → Ended by (unit_steps by.next s ch limit) w b p k s' w₁
      → Leaves (unit_under rs by.next by.used s ch limit w) (cond b (Done 0 k 0) (Oscillates p (limit_of limit))) s' w'
  unit_leaves rs e ch limit en =
      leaves_at
      (accepted_gives rs (untouched s w) (unit_ran by.next by.used s ch limit w) (Ok tt) (sym e) refl)
      (record { answers = rw (en.ends, en.place, en.count); states_left = en.states; work_left = wiped en.spared })

  -- a ternary run after the other rules: START with the states as they came, or both halves
  module _ (rs : List Rule) (e : judge rs ≡ Ok tt) (ch : Changes) where
    abbrev started : Outcome
    started = ternary_started by.size by.next by.used s ch w

    unsettled : settled by.next s ≡ false → untouched s (cleared by.used w) Start ≡ started
    unsettled h = rw (judged, judge, first, h)

    at_rest : settled by.next s ≡ true → ternary_ran by.size by.next by.used s ch w ≡ started
    at_rest h = rw (judged, judge, first, h)

    pub start_leaves : settled by.next s ≡ false → Spared by.used w w₁ → Leaves (ternary_under rs by.size by.next by.used s ch w) Start s w'
    start_leaves h sp =
        leaves_at (unsettled h ∙ accepted_gives rs (untouched s w) started (Ok tt) (sym e) refl) (record { answers = refl; states_left = refl; work_left = wiped sp })

    pub ternary_leaves : settled by.next s ≡ true → {w₀ : List ℕ} → Spared by.used w w₀ → {k l : ℕ} {s' : List ℕ} → Halved by s ch w₀ k l s' w₁
        → Leaves (ternary_under rs by.size by.next by.used s ch w) (Done 0 k l) s' w'
    ternary_leaves h sp hv =
        leaves_at (at_rest h ∙ accepted_gives rs (untouched s w) started (Ok tt) (sym e) refl)
        (record { answers = rw (hv.first, hv.second) refl; states_left = hv.states; work_left = wiped (λ i m. hv.spared i m ∙ sp i m) })

-- What the outcome of a step, a unit run and a ternary run promises, under any rules and of any step: a refusal touches nothing; counts are the least;
-- the end is settled, or that of exactly the limit's steps; a place names the first node that a step changes; a ternary end covers. Assumes nothing.
use Prim.Native.Nat.{ℕ, ◌≤◌, ◌<◌}
use native.Mathlib.Omega.{arith}
use mathlib.Core.Path.{◌≡◌, refl, ap, ◌∙◌, subst}
use mathlib.Core.Logic.{◌⊎◌, inl, inr, ◌↔◌}
use mathlib.Core.Bool.{Bool, true, false, not, cond}
use mathlib.Core.List.{List, [], ◌∷◌}
use lib.ListN.{length}
use borrow.Author.Tests.{not-false, not-true, lt-ltb, le-ltb}
use Rattle.model.specs.Places.{iter, same, at}
use Rattle.model.specs.Run.{Changes, Ran, entered, settled, limit_of, unit_steps, first_half, second_half}
use Rattle.model.specs.Answer.{number, place, first_count, second_count}
use Rattle.model.specs.Rules.{Verdict, Rule, judge, given, judged, start_rule}
use Rattle.model.specs.Entries.{Outcome, untouched, first_changed, cleared, step_taken, unit_ran, ternary_ran, ternary_started, step_under, unit_under, ternary_under}
use Rattle.model.specs.Order.{◌≼◌}
use Rattle.model.specs.Cover.{Stepper}
use Rattle.model.specs.Demands.{Clean, Broken, Judged, Told, Enterable, Settles, Unsettled, FirstMoved, Covered}
use Rattle.model.specs.declared.Answer.{Answer}
use Rattle.model.specs.declared.Answer.TheVariants.{Done, Oscillates}
use Rattle.laws.proofs.Places.{length-tab, get_or-tab}
use Rattle.laws.proofs.Descent.{iter_keeps}
use Rattle.laws.proofs.Settle.{same_refl, same_true, same_false, Ended, Stuck, settle_says}
use Rattle.laws.proofs.Judged.{judge_says, judge_clean, broken_each, Numbered, broken_number}
use Rattle.laws.proofs.Ternary.{ended_settles, stuck_unsettled, halves_cover, steps_covered}
use Rattle.laws.proofs.Changes.{length-put, entered_others}
use Rattle.laws.proofs.Moved.{at_rest, first_moved}
use Rattle.std.proofs.Common.{Ok, Err}

-- to show a fact of what is judged, show it of what is accepted and of what a refusal gives
pub by_verdict : {A : Type 0} (P : A → Type 0) (rs : List Rule) (refuse : Answer → A) (accept : A) → (Clean rs → P accept) → ((a : Answer) → Broken rs a → P (refuse a))
    → P (judged rs refuse accept)
by_verdict P rs refuse accept f g = go (judge rs) (judge_says rs)
  where
    go : (v : Verdict) → Judged rs v → P (given v refuse accept)
    go (Ok _) j = f j
    go (Err a) j = g a j

pub told : {A : Type 0} (rs : List Rule) (refuse : Answer → A) (accept : A) → Told rs refuse accept (judged rs refuse accept)
told rs refuse accept = by_verdict (Told rs refuse accept) rs refuse accept (λ c. inl (c, refl)) (λ a b. inr (a, b, refl))

-- what is judged, where no rule is broken
pub accepts : {A : Type 0} (rs : List Rule) (refuse : Answer → A) (accept : A) → Clean rs → judged rs refuse accept ≡ accept
accepts rs refuse accept c = ap (λ (v : Verdict). given v refuse accept) (judge_clean rs c)

-- the work area, its first cells at 0, the rest as it came
module _ (used : ℕ) (w : List ℕ) where
  pub cleared-length : length (cleared used w) ≡ length w
  unfolding cleared
  cleared-length = length-tab (length w) _

  pub cleared-cell : (i : ℕ) → i < length w → i < used → at (cleared used w) i ≡ 0
  unfolding cleared
  cleared-cell i l h = get_or-tab (length w) _ 0 i l ∙ ap (λ (b : Bool). cond b 0 (at w i)) (lt-ltb i used h)

  pub cleared-rest : (i : ℕ) → i < length w → used ≤ i → at (cleared used w) i ≡ at w i
  unfolding cleared
  cleared-rest i l h = get_or-tab (length w) _ 0 i l ∙ ap (λ (b : Bool). cond b 0 (at w i)) (le-ltb i used h)

-- a step
module _ (rs : List Rule) (num : Numbered 8 rs) (f : List ℕ → List ℕ) (used : ℕ) (s w : List ℕ) where
  abbrev done_step : Outcome
  done_step = step_taken f used s w

  pub step_refused : 1 ≤ number (step_under rs f used s w).answer → ((step_under rs f used s w).states ≡ s) × ((step_under rs f used s w).work ≡ w)
  step_refused =
      by_verdict (λ (o : Outcome). 1 ≤ number o.answer → (o.states ≡ s) × (o.work ≡ w)) rs (untouched s w) done_step (λ c l. absurd (omega arith)) (λ a b l. (refl, refl))

  pub step_done : number (step_under rs f used s w).answer ≡ 0 → Clean rs × (step_under rs f used s w ≡ done_step)
  step_done =
      by_verdict (λ (o : Outcome). number o.answer ≡ 0 → Clean rs × (o ≡ done_step)) rs (untouched s w) done_step (λ c l. (c, refl))
      (λ a b l. absurd (omega (arith, (broken_number 8 rs a num b).0)))

  -- its place: the first node that it changed; the number of nodes exactly where the state was settled
  module _ (n : ℕ) (input : ℕ → Bool) (st : Stepper n input f) (sized : Clean rs → length s ≡ n) where
    pub step_moved : number (step_under rs f used s w).answer ≡ 0 → (f s ≡ s → ⊥) → FirstMoved n input f s (place (step_under rs f used s w).answer)
    step_moved e moves = let r = step_done e in rw r.1 (first_moved n input f st s (sized r.0) moves)

    pub step-at-rest : number (step_under rs f used s w).answer ≡ 0 → (place (step_under rs f used s w).answer ≡ n) ↔ (f s ≡ s)
    step-at-rest e = let r = step_done e in rw r.1 (at_rest n input f st s (sized r.0))

-- a unit run
module _ (rs : List Rule) (num : Numbered 8 rs) (f : List ℕ → List ℕ) (used : ℕ) (s : List ℕ) (ch : Changes) (limit : ℕ) (w : List ℕ) where
  abbrev ran : Ran
  ran = unit_steps f s ch limit

  -- the answer, by whether the steps ended settled
  abbrev answered : Bool → Answer
  answered b = cond b (Done 0 ran.count 0) (Oscillates (first_changed ran.states (f ran.states)) (limit_of limit))

  abbrev unit_end : Outcome
  unit_end = unit_ran f used s ch limit w

  abbrev unit_run : Outcome
  unit_run = unit_under rs f used s ch limit w

  abbrev Says : Type 0
  Says = Ended f (limit_of limit) 0 (entered s ch) ran ⊎ Stuck f (limit_of limit) 0 (entered s ch) ran

  says : Says
  unfolding unit_steps
  says = settle_says f (limit_of limit) 0 (entered s ch)

  not_refusal : 1 ≤ number (answered ran.ends) → (number (answered ran.ends) ≡ 8 → ⊥) → ⊥
  not_refusal = go ran.ends
    where
      go : (b : Bool) → 1 ≤ number (answered b) → (number (answered b) ≡ 8 → ⊥) → ⊥
      go true l h = omega arith
      go false l h = h refl

  pub unit_refused : 1 ≤ number unit_run.answer → (number unit_run.answer ≡ 8 → ⊥) → (unit_run.states ≡ s) × (unit_run.work ≡ w)
  unit_refused =
      by_verdict (λ (o : Outcome). 1 ≤ number o.answer → (number o.answer ≡ 8 → ⊥) → (o.states ≡ s) × (o.work ≡ w)) rs (untouched s w) unit_end
      (λ c l h. absurd (not_refusal l h)) (λ a b l h. (refl, refl))

  -- the answers 0 and 8 are those of the steps
  pub unit-ran : (number unit_run.answer ≡ 0) ⊎ (number unit_run.answer ≡ 8) → Clean rs × (unit_run ≡ unit_end)
  unit-ran =
      by_verdict (λ (o : Outcome). (number o.answer ≡ 0) ⊎ (number o.answer ≡ 8) → Clean rs × (o ≡ unit_end)) rs (untouched s w) unit_end (λ c h. (c, refl))
      (λ a b h. absurd (elim h [ inl e ↦ omega (arith, (broken_number 8 rs a num b).0) | inr e ↦ omega (arith, (broken_number 8 rs a num b).1) ]))

  -- DONE: the count is the least number of steps that settles, and it is within the limit
  pub unit_done : number unit_run.answer ≡ 0 → Settles f (limit_of limit) (entered s ch) (first_count unit_run.answer) unit_run.states
  unit_done =
      by_verdict (λ (o : Outcome). number o.answer ≡ 0 → Settles f (limit_of limit) (entered s ch) (first_count o.answer) o.states) rs (untouched s w) unit_end (λ c. go says)
      (λ a b e. absurd (omega (arith, (broken_number 8 rs a num b).0)))
    where
      go : Says → number (answered ran.ends) ≡ 0 → Settles f (limit_of limit) (entered s ch) (first_count (answered ran.ends)) ran.states
      go (inl x) e = rw x.ends (ended_settles f (limit_of limit) (limit_of limit) (entered s ch) ran x x.few)
      go (inr x) e = absurd (omega (arith, rw x.ends at e))

  -- OSCILLATES: no number of steps up to the limit settles, and the states are those after exactly the limit's steps
  pub unit_oscillates : number unit_run.answer ≡ 8
      → (unit_run.answer ≡ Oscillates (first_changed unit_run.states (f unit_run.states)) (limit_of limit)) × Unsettled f (limit_of limit) (entered s ch) unit_run.states
  unit_oscillates =
      by_verdict
      (λ (o : Outcome).
      number o.answer ≡ 8 → (o.answer ≡ Oscillates (first_changed o.states (f o.states)) (limit_of limit)) × Unsettled f (limit_of limit) (entered s ch) o.states) rs (untouched s w) unit_end
      (λ c. go says) (λ a b e. absurd (omega (arith, (broken_number 8 rs a num b).1)))
    where
      go : Says → number (answered ran.ends) ≡ 8 → (answered ran.ends ≡ answered false) × Unsettled f (limit_of limit) (entered s ch) ran.states
      go (inl x) e = absurd (omega (arith, rw x.ends at e))
      go (inr x) e = (rw x.ends, stuck_unsettled f (limit_of limit) (entered s ch) ran x)

  -- DONE has place 0, OSCILLATES the first node that one more step would change
  pub unit_done_place : number unit_run.answer ≡ 0 → place unit_run.answer ≡ 0
  unit_done_place =
      by_verdict (λ (o : Outcome). number o.answer ≡ 0 → place o.answer ≡ 0) rs (untouched s w) unit_end (λ c. go ran.ends) (λ a b e. absurd (omega (arith, (broken_number 8 rs a num b).0)))
    where
      go : (b : Bool) → number (answered b) ≡ 0 → place (answered b) ≡ 0
      go true e = refl
      go false e = absurd (omega arith)

  module _ (n : ℕ) (input : ℕ → Bool) (st : Stepper n input f) (sized : Clean rs → length s ≡ n) where
    pub unit-next_moved : number unit_run.answer ≡ 8 → FirstMoved n input f unit_run.states (place unit_run.answer)
    unit-next_moved e = rw stopped.0 (first_moved n input f st unit_run.states long moves)
      where
        stopped : (unit_run.answer ≡ Oscillates (first_changed unit_run.states (f unit_run.states)) (limit_of limit)) × Unsettled f (limit_of limit) (entered s ch) unit_run.states
        stopped = unit_oscillates e

        long : length unit_run.states ≡ n
        long =
            ap length stopped.1.states
            ∙ iter_keeps f (λ (x : List ℕ). length x ≡ n) (λ x l. st.sized x) (limit_of limit) (entered s ch) (length-put s ch.places ch.values ∙ sized (unit-ran (inr e)).0)

        moves : f unit_run.states ≡ unit_run.states → ⊥
        moves p = stopped.1.none (limit_of limit) (omega arith) (subst (λ (x : List ℕ). f x ≡ x) stopped.1.states p)

  -- and exactly when: some number of steps up to the limit settles, or none does
  pub unit_done_when : Clean rs → (k : ℕ) → k ≤ limit_of limit → f (iter k f (entered s ch)) ≡ iter k f (entered s ch) → number unit_run.answer ≡ 0
  unit_done_when c k l fix =
      rw (accepts rs (untouched s w) unit_end c)
      (elim says [ inl x ↦ ap (λ (b : Bool). number (answered b)) x.ends | inr x ↦ absurd (x.none k l fix) ])

  pub unit_oscillates_when : Clean rs → ((k : ℕ) → k ≤ limit_of limit → f (iter k f (entered s ch)) ≡ iter k f (entered s ch) → ⊥) → number unit_run.answer ≡ 8
  unit_oscillates_when c none =
      rw (accepts rs (untouched s w) unit_end c)
      (elim says [ inl x ↦ absurd (none x.steps x.few x.fixed) | inr x ↦ ap (λ (b : Bool). number (answered b)) x.ends ])

-- a ternary run
module _ (rs : List Rule) (num : Numbered 7 rs) (n : ℕ) (input : ℕ → Bool) (f : List ℕ → List ℕ) (used : ℕ) (s : List ℕ) (ch : Changes) (w : List ℕ) where
  abbrev ternary_end : Outcome
  ternary_end = ternary_ran n f used s ch w

  abbrev started : Outcome
  started = ternary_started n f used s ch w

  abbrev ternary_run : Outcome
  ternary_run = ternary_under rs n f used s ch w

  -- where the start is not settled
  start_broken : (a : Answer) → Broken (start_rule f s ∷ []) a → (number a ≡ 7) × (f s ≡ s → ⊥)
  start_broken a b =
      let h = broken_each (λ (x : Answer). (number x ≡ 7) × (settled f s ≡ false)) (start_rule f s ∷ []) a (λ p l e. (refl, not-true (settled f s) e), tt) b in
      (h.0, same_false (f s) s h.1)

  start_clean : Clean (start_rule f s ∷ []) → f s ≡ s
  start_clean c = same_true (f s) s (not-false (settled f s) (c.0 0 (omega arith)))

  pub ternary_refused : 1 ≤ number ternary_run.answer → (number ternary_run.answer ≡ 7 → ⊥) → (ternary_run.states ≡ s) × (ternary_run.work ≡ w)
  ternary_refused =
      by_verdict (λ (o : Outcome). 1 ≤ number o.answer → (number o.answer ≡ 7 → ⊥) → (o.states ≡ s) × (o.work ≡ w)) rs (untouched s w) started
      (λ c.
      by_verdict (λ (o : Outcome). 1 ≤ number o.answer → (number o.answer ≡ 7 → ⊥) → (o.states ≡ s) × (o.work ≡ w)) (start_rule f s ∷ []) (untouched s (cleared used w)) ternary_end
      (λ d l h. absurd (omega arith)) (λ a b l h. absurd (h (start_broken a b).0)))
      (λ a b l h. (refl, refl))

  -- START: the state before any change is not settled
  pub ternary_start : number ternary_run.answer ≡ 7 → (f s ≡ s → ⊥) × (ternary_run.states ≡ s) × (ternary_run.work ≡ cleared used w)
  ternary_start =
      by_verdict (λ (o : Outcome). number o.answer ≡ 7 → (f s ≡ s → ⊥) × (o.states ≡ s) × (o.work ≡ cleared used w)) rs (untouched s w) started
      (λ c.
      by_verdict (λ (o : Outcome). number o.answer ≡ 7 → (f s ≡ s → ⊥) × (o.states ≡ s) × (o.work ≡ cleared used w)) (start_rule f s ∷ []) (untouched s (cleared used w)) ternary_end
      (λ d e. absurd (omega arith)) (λ a b e. ((start_broken a b).1, refl, refl)))
      (λ a b e. absurd (omega (arith, (broken_number 7 rs a num b).1)))

  pub ternary-ran : number ternary_run.answer ≡ 0 → Clean rs × (f s ≡ s) × (ternary_run ≡ ternary_end)
  ternary-ran =
      by_verdict (λ (o : Outcome). number o.answer ≡ 0 → Clean rs × (f s ≡ s) × (o ≡ ternary_end)) rs (untouched s w) started
      (λ c.
      by_verdict (λ (o : Outcome). number o.answer ≡ 0 → Clean rs × (f s ≡ s) × (o ≡ ternary_end)) (start_rule f s ∷ []) (untouched s (cleared used w)) ternary_end
      (λ d e. (c, start_clean d, refl)) (λ a b e. absurd (omega (arith, (start_broken a b).0))))
      (λ a b e. absurd (omega (arith, (broken_number 7 rs a num b).0)))

  -- and exactly when
  pub ternary_done_when : Clean rs → f s ≡ s → ternary_run ≡ ternary_end
  ternary_done_when c ok =
      accepts rs (untouched s w) started c
      ∙ accepts (start_rule f s ∷ []) (untouched s (cleared used w)) ternary_end (λ q l. ap not (ap (λ (x : List ℕ). same x s) ok ∙ same_refl s), tt)

  pub ternary_start_when : Clean rs → (f s ≡ s → ⊥) → number ternary_run.answer ≡ 7
  ternary_start_when c moves =
      rw (accepts rs (untouched s w) started c)
      (by_verdict (λ (o : Outcome). number o.answer ≡ 7) (start_rule f s ∷ []) (untouched s (cleared used w)) ternary_end (λ d. absurd (moves (start_clean d))) (λ a b. (start_broken a b).0))

  -- DONE: both halves settle, within the bound and at the least counts, and the end covers what any order of arrival can end in
  module _ (st : Stepper n input f) (sized : Clean rs → length s ≡ n) (fit : Clean rs → Enterable n input ch) where
    length_to : Clean rs → length (entered s ch) ≡ n
    length_to c = length-put s ch.places ch.values ∙ sized c

    others : Clean rs → (v : ℕ) → v < n → input v ≡ false → at (entered s ch) v ≡ at s v
    others c v l i = entered_others n input s (sized c) ch (fit c) v i

    pub ternary_done : number ternary_run.answer ≡ 0
        → Covered n input f s (entered s ch) (first_count ternary_run.answer) (second_count ternary_run.answer) ternary_run.states
    ternary_done e = let r = ternary-ran e in rw r.2 (go r.0 r.1)
      where
        go : Clean rs → f s ≡ s → Covered n input f s (entered s ch) (first_half n f s ch).count (second_half n f s ch).count (second_half n f s ch).states
        go c ok = unfold first_half second_half in halves_cover n input f st s (entered s ch) (sized c) (length_to c) ok (others c)

    -- steps from the new inputs that settle end in what is covered
    pub ternary_above : number ternary_run.answer ≡ 0 → (k : ℕ) → f (iter k f (entered s ch)) ≡ iter k f (entered s ch) → iter k f (entered s ch) ≼ ternary_run.states
    ternary_above e k fix = let r = ternary-ran e in rw r.2 (go r.0 r.1)
      where
        go : Clean rs → f s ≡ s → iter k f (entered s ch) ≼ (second_half n f s ch).states
        go c ok = unfold first_half second_half in steps_covered n input f st s (entered s ch) (sized c) (length_to c) ok (others c) k fix

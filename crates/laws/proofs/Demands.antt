-- The demands, as statements about the entries under rule one. Each says which sentence it answers. Assumes nothing.
use Prim.Native.Nat.{ℕ, zero, suc, ◌≤◌, ◌<◌}
use native.Mathlib.Omega.{arith}
use mathlib.Core.Path.{◌≡◌, refl, ap, sym, ◌∙◌, subst}
use mathlib.Core.Bool.{true, true≢false}
use mathlib.Core.Logic.{◌⊎◌, ◌↔◌, inl, inr}
use mathlib.Core.List.{List, [], ◌∷◌, ◌++◌}
use lib.ListN.{length}
use borrow.Author.Tests.{ne_eqb}
use Rattle.model.specs.Places.{iter, at}
use Rattle.model.specs.Net.{Net, nodes, ground, power, is_input, step}
use Rattle.model.specs.Run.{Changes, entered, changed, limit_of}
use Rattle.model.specs.Answer.{number, place, first_count, second_count}
use Rattle.model.specs.Rules.{Verdict, Rule, judge, given, cells, start_rule, check_rules, reset_rules, step_sizes, step_rules, run_sizes, run_rules, unit_rules, ternary_rules}
use Rattle.model.specs.Entries.{Outcome, untouched, first_changed, reset_state, reset_states, cleared, step_taken, unit_ran, ternary_ran, check_answer, reset_outcome, step_outcome, unit_outcome, ternary_outcome}
use Rattle.model.specs.Order.{◌≼◌}
use Rattle.model.specs.Cover.{OneByOne}
use Rattle.model.specs.Demands.{Clean, Told, Lowest, Live, Enterable, Settles, Unsettled, FirstMoved, Covered}
use Rattle.model.specs.declared.Answer.{Answer}
use Rattle.model.specs.declared.Answer.TheVariants.{Done, Oscillates}
use Rattle.laws.proofs.Places.{length-tab, get_or-tab}
use Rattle.laws.proofs.Agreed.{below_bit}
use Rattle.laws.proofs.Judged.{Numbers, none, also, Numbered, numbered, sorted, broken_number, level_at, judged_lowest, judge_append}
use Rattle.laws.proofs.Cover.{one_reach}
use Rattle.laws.proofs.Changes.{length-put, clean_changes}
use Rattle.laws.proofs.Moved.{all_held}
use Rattle.laws.proofs.RuleOne.{stepper}
use Rattle.laws.proofs.Outcomes.{told, by_verdict, accepts, step_refused, step_done, step_moved, step-at-rest, unit_refused, unit-ran, unit_done, unit_done_place, unit_oscillates, unit-next_moved, unit_done_when, unit_oscillates_when, ternary_refused, ternary_start, ternary-ran, ternary_done, ternary_done_when, ternary_start_when, ternary_above}
use Rattle.std.proofs.Common.{Ok, Err}

-- the answer of what is judged is what judging the answers gives
answer_of : (rs : List Rule) (refuse : Answer → Outcome) (accept : Outcome) → ((a : Answer) → (refuse a).answer ≡ a) → (given (judge rs) refuse accept).answer ≡ given (judge rs) (λ a. a) accept.answer
answer_of rs refuse accept h = go (judge rs)
  where
    go : (v : Verdict) → (given v refuse accept).answer ≡ given v (λ a. a) accept.answer
    go (Ok _) = refl
    go (Err a) = h a

-- Check. "The lowest number that applies is given", exactly when its row says, at the first place
module _ (net : Net) where
  pub check-told : Told (check_rules net) (λ a. a) (Done 0 0 0) (check_answer net)
  unfolding check_answer
  check-told = told (check_rules net) (λ a. a) (Done 0 0 0)

  check_numbers : Numbers (1 ∷ 3 ∷ 4 ∷ []) (check_rules net)
  unfolding check_rules
  check_numbers = also (λ p. refl) (also (λ p. refl) (also (λ p. refl) none))

  pub check_lowest : Lowest (check_rules net) (check_answer net)
  unfolding check_answer
  check_lowest = judged_lowest 1 (check_rules net) (Done 0 0 0) (sorted 1 check_numbers refl)

-- the states that reset gives, node by node
states_live : (kinds : List ℕ) → Live kinds (reset_states kinds)
unfolding reset_states
states_live kinds = record {
  level = length-tab (length kinds) _;
  grounds = λ v l e. get_or-tab (length kinds) _ 0 v l ∙ ap reset_state e;
  powers = λ v l e. get_or-tab (length kinds) _ 0 v l ∙ ap reset_state e;
  others = λ v l g p. get_or-tab (length kinds) _ 0 v l ∙ simp (ne_eqb (at kinds v) ground g, ne_eqb (at kinds v) power p);
}

-- Reset
module _ (kinds s : List ℕ) where
  abbrev pub done_reset : Outcome
  done_reset = record { answer = Done 0 0 0; states = reset_states kinds; work = [] }

  pub reset-told : Told (reset_rules kinds s) (untouched s []) done_reset (reset_outcome kinds s)
  unfolding reset_outcome
  reset-told = told (reset_rules kinds s) (untouched s []) done_reset

  -- "Refused tables leave the node states as they came"
  pub reset-untouched : 1 ≤ number (reset_outcome kinds s).answer → (reset_outcome kinds s).states ≡ s
  unfolding reset_outcome
  reset-untouched = by_verdict (λ (o : Outcome). 1 ≤ number o.answer → o.states ≡ s) (reset_rules kinds s) (untouched s []) done_reset (λ c l. absurd (omega arith)) (λ a b l. refl)

  reset_numbers : Numbers (1 ∷ 3 ∷ []) (reset_rules kinds s)
  unfolding reset_rules
  reset_numbers = also (λ p. refl) (also (λ p. refl) none)

  pub reset_lowest : Lowest (reset_rules kinds s) (reset_outcome kinds s).answer
  unfolding reset_outcome
  reset_lowest =
      rw (answer_of (reset_rules kinds s) (untouched s []) done_reset (λ a. refl)) (judged_lowest 1 (reset_rules kinds s) done_reset.answer (sorted 1 reset_numbers refl))

  reset_numbered : Numbered 8 (reset_rules kinds s)
  reset_numbered = numbered 8 reset_numbers refl

  -- what reset leaves is a function of the kinds alone
  pub reset_takes : number (reset_outcome kinds s).answer ≡ 0 → reset_outcome kinds s ≡ done_reset
  unfolding reset_outcome
  reset_takes =
      by_verdict (λ (o : Outcome). number o.answer ≡ 0 → o ≡ done_reset) (reset_rules kinds s) (untouched s []) done_reset (λ c e. refl)
      (λ a b e. absurd (omega (arith, (broken_number 8 (reset_rules kinds s) a reset_numbered b).0)))

  -- "Reset gives them 0 and 1. Kind 2 still resets to X", and so do the kinds that are no inputs
  pub reset_live : number (reset_outcome kinds s).answer ≡ 0 → Live kinds (reset_outcome kinds s).states
  reset_live e = rw (reset_takes e) (states_live kinds)

-- Step
module _ (net : Net) (s w : List ℕ) where
  abbrev pub done_step : Outcome
  done_step = step_taken (step net) (cells net) s w

  step_numbers : Numbers (1 ∷ 3 ∷ 4 ∷ 5 ∷ []) (step_rules net s w)
  unfolding step_rules
  step_numbers = also (λ p. refl) (also (λ p. refl) (also (λ p. refl) (also (λ p. refl) none)))

  step_numbered : Numbered 8 (step_rules net s w)
  step_numbered = numbered 8 step_numbers refl

  pub step-told : Told (step_rules net s w) (untouched s w) done_step (step_outcome net s w)
  unfolding step_outcome
  step-told = told (step_rules net s w) (untouched s w) done_step

  pub step-untouched : 1 ≤ number (step_outcome net s w).answer → ((step_outcome net s w).states ≡ s) × ((step_outcome net s w).work ≡ w)
  unfolding step_outcome
  step-untouched = step_refused (step_rules net s w) step_numbered (step net) (cells net) s w

  -- "One unit step": its states, and the number of nodes whose state differs after it
  pub step_takes : number (step_outcome net s w).answer ≡ 0 → Clean (step_rules net s w) × (step_outcome net s w ≡ done_step)
  unfolding step_outcome
  step_takes = step_done (step_rules net s w) step_numbered (step net) (cells net) s w

  pub step_takes_when : Clean (step_rules net s w) → step_outcome net s w ≡ done_step
  unfolding step_outcome
  step_takes_when = accepts (step_rules net s w) (untouched s w) done_step

  step_size : Clean (step_rules net s w) → length s ≡ nodes net
  unfolding step_rules step_sizes
  step_size c = level_at (length s) (nodes net) (step_sizes net s w) 2 (c.0 0 (omega arith)) refl

  -- "Its place is the lowest-numbered changed node, or the node count if none changed"
  pub step-names : number (step_outcome net s w).answer ≡ 0 → (step net s ≡ s → ⊥) → FirstMoved (nodes net) (is_input net) (step net) s (place (step_outcome net s w).answer)
  unfolding step_outcome
  step-names = step_moved (step_rules net s w) step_numbered (step net) (cells net) s w (nodes net) (is_input net) (stepper net) step_size

  pub step_rests : number (step_outcome net s w).answer ≡ 0 → (place (step_outcome net s w).answer ≡ nodes net) ↔ (step net s ≡ s)
  unfolding step_outcome
  step_rests = step-at-rest (step_rules net s w) step_numbered (step net) (cells net) s w (nodes net) (is_input net) (stepper net) step_size

  pub step_lowest : Lowest (step_rules net s w) (step_outcome net s w).answer
  unfolding step_outcome
  step_lowest =
      rw (answer_of (step_rules net s w) (untouched s w) done_step (λ a. refl)) (judged_lowest 1 (step_rules net s w) done_step.answer (sorted 1 step_numbers refl))

-- Unit run
module _ (net : Net) (s : List ℕ) (ch : Changes) (limit : ℕ) (w : List ℕ) where
  abbrev pub unit_end : Outcome
  unit_end = unit_ran (step net) (cells net) s ch limit w

  unit_numbers : Numbers (1 ∷ 2 ∷ 3 ∷ 4 ∷ 5 ∷ 6 ∷ []) (unit_rules net s ch limit w)
  unfolding unit_rules run_rules
  unit_numbers = also (λ p. refl) (also (λ p. refl) (also (λ p. refl) (also (λ p. refl) (also (λ p. refl) (also (λ p. refl) none)))))

  unit_numbered : Numbered 8 (unit_rules net s ch limit w)
  unit_numbered = numbered 8 unit_numbers refl

  pub unit-told : Told (unit_rules net s ch limit w) (untouched s w) unit_end (unit_outcome net s ch limit w)
  unfolding unit_outcome
  unit-told = told (unit_rules net s ch limit w) (untouched s w) unit_end

  pub unit_lowest : Lowest (unit_rules net s ch limit w) (unit_outcome net s ch limit w).answer
  unfolding unit_outcome
  unit_lowest =
      rw (answer_of (unit_rules net s ch limit w) (untouched s w) unit_end (λ a. refl))
      (judged_lowest 1 (unit_rules net s ch limit w) unit_end.answer (sorted 1 unit_numbers refl))

  -- "Refused tables and refused changes leave the node states as they came"
  pub unit-untouched : 1 ≤ number (unit_outcome net s ch limit w).answer → number (unit_outcome net s ch limit w).answer ≤ 7
      → ((unit_outcome net s ch limit w).states ≡ s) × ((unit_outcome net s ch limit w).work ≡ w)
  unfolding unit_outcome
  unit-untouched l h = unit_refused (unit_rules net s ch limit w) unit_numbered (step net) (cells net) s ch limit w l (λ e. omega arith)

  unit_size : Clean (unit_rules net s ch limit w) → length s ≡ nodes net
  unfolding unit_rules run_sizes step_sizes
  unit_size c = level_at (length s) (nodes net) (run_sizes net s ch w) 2 (c.0 0 (omega arith)) refl

  -- "A unit run repeats the step until nothing moves": the count is the least that settles
  pub unit_settles : number (unit_outcome net s ch limit w).answer ≡ 0
      → Settles (step net) (limit_of limit) (entered s ch) (first_count (unit_outcome net s ch limit w).answer) (unit_outcome net s ch limit w).states
  unfolding unit_outcome
  unit_settles = unit_done (unit_rules net s ch limit w) unit_numbered (step net) (cells net) s ch limit w

  -- "A run stopped at its step limit leaves the states after exactly that many steps"
  pub unit-at_limit : number (unit_outcome net s ch limit w).answer ≡ 8
      → ((unit_outcome net s ch limit w).answer ≡ Oscillates (first_changed (unit_outcome net s ch limit w).states (step net (unit_outcome net s ch limit w).states)) (limit_of limit))
      × Unsettled (step net) (limit_of limit) (entered s ch) (unit_outcome net s ch limit w).states
  unfolding unit_outcome
  unit-at_limit = unit_oscillates (unit_rules net s ch limit w) unit_numbered (step net) (cells net) s ch limit w

  -- "OSCILLATES [has] the lowest node that the next step, which isn't stored, would change"; a run's DONE has place 0
  pub unit-names : number (unit_outcome net s ch limit w).answer ≡ 8
      → FirstMoved (nodes net) (is_input net) (step net) (unit_outcome net s ch limit w).states (place (unit_outcome net s ch limit w).answer)
  unfolding unit_outcome
  unit-names = unit-next_moved (unit_rules net s ch limit w) unit_numbered (step net) (cells net) s ch limit w (nodes net) (is_input net) (stepper net) unit_size

  pub unit-names_none : number (unit_outcome net s ch limit w).answer ≡ 0 → place (unit_outcome net s ch limit w).answer ≡ 0
  unfolding unit_outcome
  unit-names_none = unit_done_place (unit_rules net s ch limit w) unit_numbered (step net) (cells net) s ch limit w

  -- "The work area's contents are fixed too"
  pub unit_runs : (number (unit_outcome net s ch limit w).answer ≡ 0) ⊎ (number (unit_outcome net s ch limit w).answer ≡ 8)
      → Clean (unit_rules net s ch limit w) × (unit_outcome net s ch limit w ≡ unit_end)
  unfolding unit_outcome
  unit_runs = unit-ran (unit_rules net s ch limit w) unit_numbered (step net) (cells net) s ch limit w

  -- a network of inputs only, such as rails, settles with count 0
  pub unit-inputs_only : ((v : ℕ) → v < nodes net → is_input net v ≡ true)
      → (number (unit_outcome net s ch limit w).answer ≡ 0) ⊎ (number (unit_outcome net s ch limit w).answer ≡ 8)
      → (number (unit_outcome net s ch limit w).answer ≡ 0) × (first_count (unit_outcome net s ch limit w).answer ≡ 0)
  unit-inputs_only inputs (inl e) = (e, none_before (first_count (unit_outcome net s ch limit w).answer) (unit_settles e).least)
    where
      none_before : (k : ℕ) → ((j : ℕ) → j < k → step net (iter j (step net) (entered s ch)) ≡ iter j (step net) (entered s ch) → ⊥) → k ≡ 0
      none_before zero h = refl
      none_before (suc k) h =
          let long = length-put s ch.places ch.values ∙ unit_size (unit_runs (inl e)).0 in
          absurd (h 0 (omega arith) (all_held (nodes net) (is_input net) (step net) (stepper net) (entered s ch) long inputs))
  unit-inputs_only inputs (inr e) = let m = unit-names e in absurd (true≢false (sym (inputs _ m.below) ∙ m.free))

  -- DONE exactly where some number of steps up to the limit settles, OSCILLATES exactly where none does
  pub unit_settles_when : Clean (unit_rules net s ch limit w) → (k : ℕ) → k ≤ limit_of limit → step net (iter k (step net) (entered s ch)) ≡ iter k (step net) (entered s ch)
      → number (unit_outcome net s ch limit w).answer ≡ 0
  unfolding unit_outcome
  unit_settles_when = unit_done_when (unit_rules net s ch limit w) unit_numbered (step net) (cells net) s ch limit w

  pub unit-at_limit_when : Clean (unit_rules net s ch limit w)
      → ((k : ℕ) → k ≤ limit_of limit → step net (iter k (step net) (entered s ch)) ≡ iter k (step net) (entered s ch) → ⊥) → number (unit_outcome net s ch limit w).answer ≡ 8
  unfolding unit_outcome
  unit-at_limit_when = unit_oscillates_when (unit_rules net s ch limit w) unit_numbered (step net) (cells net) s ch limit w

-- Ternary run
module _ (net : Net) (s : List ℕ) (ch : Changes) (w : List ℕ) where
  abbrev pub ternary_end : Outcome
  ternary_end = ternary_ran (nodes net) (step net) (cells net) s ch w

  ternary_numbers : Numbers (1 ∷ 3 ∷ 4 ∷ 5 ∷ 6 ∷ []) (ternary_rules net s ch w)
  unfolding ternary_rules run_rules
  ternary_numbers = also (λ p. refl) (also (λ p. refl) (also (λ p. refl) (also (λ p. refl) (also (λ p. refl) none))))

  ternary_numbered : Numbered 7 (ternary_rules net s ch w)
  ternary_numbered = numbered 7 ternary_numbers refl

  -- START is the last rule
  abbrev pub all_rules : List Rule
  all_rules = ternary_rules net s ch w ++ start_rule (step net) s ∷ []

  ternary_answer : (ternary_outcome net s ch w).answer ≡ given (judge all_rules) (λ a. a) ternary_end.answer
  unfolding ternary_outcome
  ternary_answer = rw (judge_append (ternary_rules net s ch w) (start_rule (step net) s ∷ [])) (go (judge (ternary_rules net s ch w)) (judge (start_rule (step net) s ∷ [])))
    where
      go : (v u : Verdict) → (given v (untouched s w) (given u (untouched s (cleared (cells net) w)) ternary_end)).answer ≡ given (given v Err u) (λ a. a) ternary_end.answer
      go (Ok _) (Ok _) = refl
      go (Ok _) (Err a) = refl
      go (Err a) u = refl

  pub ternary-told : Told all_rules (λ a. a) ternary_end.answer (ternary_outcome net s ch w).answer
  unfolding ternary_outcome
  ternary-told = rw ternary_answer (told all_rules (λ a. a) ternary_end.answer)

  all_numbers : Numbers (1 ∷ 3 ∷ 4 ∷ 5 ∷ 6 ∷ 7 ∷ []) all_rules
  unfolding ternary_rules run_rules
  all_numbers = also (λ p. refl) (also (λ p. refl) (also (λ p. refl) (also (λ p. refl) (also (λ p. refl) (also (λ p. refl) none)))))

  pub ternary_lowest : Lowest all_rules (ternary_outcome net s ch w).answer
  unfolding ternary_outcome
  ternary_lowest =
      rw ternary_answer
      (judged_lowest 1 all_rules ternary_end.answer
      (sorted 1 all_numbers refl))

  pub ternary-untouched : 1 ≤ number (ternary_outcome net s ch w).answer → number (ternary_outcome net s ch w).answer ≤ 6
      → ((ternary_outcome net s ch w).states ≡ s) × ((ternary_outcome net s ch w).work ≡ w)
  unfolding ternary_outcome
  ternary-untouched l h = ternary_refused (ternary_rules net s ch w) ternary_numbered (nodes net) (is_input net) (step net) (cells net) s ch w l (λ e. omega arith)

  -- "An unsettled start leaves the node states as they came"
  pub ternary_unsettled : number (ternary_outcome net s ch w).answer ≡ 7
      → (step net s ≡ s → ⊥) × ((ternary_outcome net s ch w).states ≡ s) × ((ternary_outcome net s ch w).work ≡ cleared (cells net) w)
  unfolding ternary_outcome
  ternary_unsettled = ternary_start (ternary_rules net s ch w) ternary_numbered (nodes net) (is_input net) (step net) (cells net) s ch w

  pub ternary_runs : number (ternary_outcome net s ch w).answer ≡ 0 → Clean (ternary_rules net s ch w) × (step net s ≡ s) × (ternary_outcome net s ch w ≡ ternary_end)
  unfolding ternary_outcome
  ternary_runs = ternary-ran (ternary_rules net s ch w) ternary_numbered (nodes net) (is_input net) (step net) (cells net) s ch w

  pub ternary-names_none : number (ternary_outcome net s ch w).answer ≡ 0 → place (ternary_outcome net s ch w).answer ≡ 0
  ternary-names_none e = ap (λ (o : Outcome). place o.answer) (ternary_runs e).2

  clean_size : Clean (ternary_rules net s ch w) → length s ≡ nodes net
  unfolding ternary_rules run_sizes step_sizes
  clean_size c = level_at (length s) (nodes net) (run_sizes net s ch w) 2 (c.0 0 (omega arith)) refl

  clean_enters : Clean (ternary_rules net s ch w) → Enterable (nodes net) (is_input net) ch
  unfolding ternary_rules run_rules
  clean_enters c = clean_changes net ch c.1.1.1.1.0

  -- "From a settled start, each half of a ternary run settles in at most as many steps as there are non-input nodes, and reports the least number
  -- that settles it"; and its answer covers whatever any order of arrivals and updates can end in
  pub ternary_settles : number (ternary_outcome net s ch w).answer ≡ 0
      → Covered (nodes net) (is_input net) (step net) s (entered s ch) (first_count (ternary_outcome net s ch w).answer) (second_count (ternary_outcome net s ch w).answer) (ternary_outcome net s ch w).states
  unfolding ternary_outcome
  ternary_settles = ternary_done (ternary_rules net s ch w) ternary_numbered (nodes net) (is_input net) (step net) (cells net) s ch w (stepper net) clean_size clean_enters

  -- "Every state so reached that is settled with all new inputs in place agrees with the ternary answer at each node where that answer is 0 or 1"
  pub ternary_covers : number (ternary_outcome net s ch w).answer ≡ 0 → (y : List ℕ) → OneByOne (nodes net) (is_input net) (changed s (entered s ch)) (step net) (entered s ch) s y
      → step net y ≡ y → ((v : ℕ) → v < nodes net → is_input net v ≡ true → at y v ≡ at (entered s ch) v)
      → (v : ℕ) → at (ternary_outcome net s ch w).states v < 2 → at y v ≡ at (ternary_outcome net s ch w).states v
  ternary_covers e y r fix ins v l =
      below_bit (at y v) (at (ternary_outcome net s ch w).states v) (at (ternary_outcome net s ch w).states v)
      ((ternary_settles e).covers y (one_reach (nodes net) (is_input net) (step net) (stepper net) (changed s (entered s ch)) s (entered s ch) y r) fix ins v) refl l

  -- from a settled start whose tables and changes are in order the ternary run is done: both halves always settle
  pub ternary_ends : Clean (ternary_rules net s ch w) → step net s ≡ s → ternary_outcome net s ch w ≡ ternary_end
  unfolding ternary_outcome
  ternary_ends = ternary_done_when (ternary_rules net s ch w) ternary_numbered (nodes net) (is_input net) (step net) (cells net) s ch w

  -- and START exactly where it is not settled
  pub ternary_unsettled_when : Clean (ternary_rules net s ch w) → (step net s ≡ s → ⊥) → number (ternary_outcome net s ch w).answer ≡ 7
  unfolding ternary_outcome
  ternary_unsettled_when = ternary_start_when (ternary_rules net s ch w) ternary_numbered (nodes net) (is_input net) (step net) (cells net) s ch w

  -- a unit run from a settled start that ends DONE: the ternary run ends DONE too, and covers it
  pub unit_below : (limit : ℕ) → step net s ≡ s → number (unit_outcome net s ch limit w).answer ≡ 0
      → (number (ternary_outcome net s ch w).answer ≡ 0) × ((unit_outcome net s ch limit w).states ≼ (ternary_outcome net s ch w).states)
  unit_below limit ok e = (done, covered)
    where
      clean : Clean (ternary_rules net s ch w)
      clean = drop (unit_runs net s ch limit w (inl e)).0
        where
          drop : Clean (unit_rules net s ch limit w) → Clean (ternary_rules net s ch w)
          drop c = unfold unit_rules ternary_rules in (c.0, c.1.1)

      done : number (ternary_outcome net s ch w).answer ≡ 0
      done = ap (λ (o : Outcome). number o.answer) (ternary_ends clean ok)

      u : Settles (step net) (limit_of limit) (entered s ch) (first_count (unit_outcome net s ch limit w).answer) (unit_outcome net s ch limit w).states
      u = unit_settles net s ch limit w e

      covered : (unit_outcome net s ch limit w).states ≼ (ternary_outcome net s ch w).states
      covered =
          subst (λ (x : List ℕ). x ≼ (ternary_outcome net s ch w).states) (sym u.states)
          (unfold ternary_outcome in ternary_above (ternary_rules net s ch w) ternary_numbered (nodes net) (is_input net) (step net) (cells net) s ch w (stepper net) clean_size clean_enters done
          (first_count (unit_outcome net s ch limit w).answer) (subst (λ (x : List ℕ). step net x ≡ x) u.states u.settled))

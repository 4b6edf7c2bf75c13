-- The demands, as what a caller may conclude from the contracts alone: s and w are the states and the work area as they were lent, r the answer,
-- t and u the states and the work area as they are left. Assumes nothing.
use Prim.Native.Nat.{ℕ, ◌≤◌, ◌<◌}
use mathlib.Core.Path.{◌≡◌, refl, ap, ◌∙◌, sym, subst}
use mathlib.Core.Bool.{Bool, true}
use mathlib.Core.Logic.{◌⊎◌, inr, ◌↔◌}
use mathlib.Core.List.{List, []}
use lib.ListN.{length}
use Rattle.model.specs.Places.{at}
use Rattle.model.specs.Net.{Net, nodes, is_input, stands, joined, set_state, step}
use Rattle.model.specs.Run.{Changes, entered, changed, limit_of}
use Rattle.model.specs.Answer.{number, place, first_count, second_count}
use Rattle.model.specs.Rules.{cells, check_rules, reset_rules, step_rules, unit_rules}
use Rattle.model.specs.Entries.{Outcome, cleared, altered, first_changed, reset_states, check_answer, reset_outcome, step_outcome, unit_outcome, ternary_outcome, Leaves}
use Rattle.model.specs.Order.{◌≼◌}
use Rattle.model.specs.Cover.{OneByOne}
use Rattle.model.specs.Demands.{Clean, Choice, Lowest, Live, Settles, Unsettled, FirstMoved, Covered}
use Rattle.model.specs.Alike.{Alike, SameAnswer, SameRun}
use Rattle.model.specs.declared.Answer.{Answer}
use Rattle.model.specs.declared.Answer.TheVariants.{Oscillates}
use Rattle.laws.proofs.RuleOne.{Inner, step_exactly}
use Rattle.laws.proofs.Demands.{check_lowest, reset_lowest, reset-untouched, reset_takes, reset_live, all_rules, step_lowest, step-untouched, done_step, step_takes, step_takes_when, step-names, step_rests, unit_lowest, unit-untouched, unit_settles, unit-at_limit, unit-names, unit-names_none, unit-inputs_only, unit_runs, ternary_lowest, ternary-untouched, ternary_unsettled, ternary_settles, ternary_covers, ternary_runs, ternary-names_none, unit_below}
use Rattle.laws.proofs.Onward.{step_goes_on}
use Rattle.laws.proofs.OrderFree.{step_order, unit_order, ternary_order}

-- what holds of an outcome holds of what a contract leaves
pub as_left : (P : Answer → List ℕ → List ℕ → Type 0) {o : Outcome} {r : Answer} {t u : List ℕ} → Leaves o r t u → P o.answer o.states o.work → P r t u
as_left P {o} {r} {t} {u} l p =
    subst (λ (a : Answer). P a t u) (sym l.answers) (subst (λ (x : List ℕ). P o.answer x u) (sym l.states_left) (subst (λ (y : List ℕ). P o.answer o.states y) (sym l.work_left) p))

-- Check
pub check-first_refusal : (net : Net) {r : Answer} → r ≡ check_answer net → Lowest (check_rules net) r
check-first_refusal net e = subst (Lowest (check_rules net)) (sym e) (check_lowest net)

-- Reset, which is lent no work area
module _ (kinds s : List ℕ) {r : Answer} {t : List ℕ} (contract : Leaves (reset_outcome kinds s) r t []) where
  -- demand 1: a refusal leaves the states as they came, and is the lowest that applies
  pub reset_refusal : 1 ≤ number r → t ≡ s
  reset_refusal = as_left (λ (a : Answer) (x y : List ℕ). 1 ≤ number a → x ≡ s) contract (reset-untouched kinds s)

  pub reset-first_refusal : Lowest (reset_rules kinds s) r
  reset-first_refusal = as_left (λ (a : Answer) (x y : List ℕ). Lowest (reset_rules kinds s) a) contract (reset_lowest kinds s)

  pub reset_done : number r ≡ 0 → t ≡ reset_states kinds
  reset_done = as_left (λ (a : Answer) (x y : List ℕ). number a ≡ 0 → x ≡ reset_states kinds) contract (λ e. ap (λ (o : Outcome). o.states) (reset_takes kinds s e))

  -- each node of kind 3 is 0, of kind 4 is 1, all others are X
  pub reset_rails_live : number r ≡ 0 → Live kinds t
  reset_rails_live = as_left (λ (a : Answer) (x y : List ℕ). number a ≡ 0 → Live kinds x) contract (reset_live kinds s)

-- Step
module _ (net : Net) (s w : List ℕ) {r : Answer} {t u : List ℕ} (contract : Leaves (step_outcome net s w) r t u) where
  -- demand 1: a refusal leaves states and work area as they came, and is the lowest that applies
  pub step_refusal : 1 ≤ number r → (t ≡ s) × (u ≡ w)
  step_refusal = as_left (λ (a : Answer) (x y : List ℕ). 1 ≤ number a → (x ≡ s) × (y ≡ w)) contract (step-untouched net s w)

  pub step-first_refusal : Lowest (step_rules net s w) r
  step-first_refusal = as_left (λ (a : Answer) (x y : List ℕ). Lowest (step_rules net s w) a) contract (step_lowest net s w)

  -- demand 2: one unit step, its count, and the work area
  pub step_done : number r ≡ 0 → (t ≡ step net s) × (first_count r ≡ altered s (step net s)) × (u ≡ cleared (cells net) w)
  step_done =
      as_left (λ (a : Answer) (x y : List ℕ). number a ≡ 0 → (x ≡ step net s) × (first_count a ≡ altered s (step net s)) × (y ≡ cleared (cells net) w)) contract
      (λ e. let q = (step_takes net s w e).1 in rw q (refl, refl, refl))

  -- its place: the lowest node that it changed, which is no input; the number of nodes exactly where the states were settled
  pub step-first-changed : number r ≡ 0 → (step net s ≡ s → ⊥) → FirstMoved (nodes net) (is_input net) (step net) s (place r)
  step-first-changed =
      as_left (λ (a : Answer) (x y : List ℕ). number a ≡ 0 → (step net s ≡ s → ⊥) → FirstMoved (nodes net) (is_input net) (step net) s (place a)) contract (step-names net s w)

  pub step_none_changed : number r ≡ 0 → (place r ≡ nodes net) ↔ (step net s ≡ s)
  step_none_changed = as_left (λ (a : Answer) (x y : List ℕ). number a ≡ 0 → (place a ≡ nodes net) ↔ (step net s ≡ s)) contract (step_rests net s w)

  -- demand 2: a node that is no input is 0 or 1 exactly when every choice gives it that state
  pub step-every_choice : number r ≡ 0 → (v : ℕ) → Inner net v → (b : ℕ) → b < 2
      → (at t v ≡ b) ↔ ((c : List Bool) → Choice (stands net s) c → set_state net s c (joined net c v) ≡ b)
  step-every_choice e v i b l = rw (step_done e).0 (step_exactly net s v i b l)

-- Unit run
module _ (net : Net) (s : List ℕ) (ch : Changes) (limit : ℕ) (w : List ℕ) {r : Answer} {t u : List ℕ} (contract : Leaves (unit_outcome net s ch limit w) r t u) where
  pub unit_refusal : 1 ≤ number r → number r ≤ 7 → (t ≡ s) × (u ≡ w)
  unit_refusal = as_left (λ (a : Answer) (x y : List ℕ). 1 ≤ number a → number a ≤ 7 → (x ≡ s) × (y ≡ w)) contract (unit-untouched net s ch limit w)

  pub unit-first_refusal : Lowest (unit_rules net s ch limit w) r
  unit-first_refusal = as_left (λ (a : Answer) (x y : List ℕ). Lowest (unit_rules net s ch limit w) a) contract (unit_lowest net s ch limit w)

  -- demand 2: steps until nothing moves; the count is the least that settles
  pub unit_done : number r ≡ 0 → Settles (step net) (limit_of limit) (entered s ch) (first_count r) t
  unit_done = as_left (λ (a : Answer) (x y : List ℕ). number a ≡ 0 → Settles (step net) (limit_of limit) (entered s ch) (first_count a) x) contract (unit_settles net s ch limit w)

  -- demand 1: a run at its limit leaves the states after exactly that many steps
  pub unit_oscillates : number r ≡ 8 → (r ≡ Oscillates (first_changed t (step net t)) (limit_of limit)) × Unsettled (step net) (limit_of limit) (entered s ch) t
  unit_oscillates =
      as_left
      (λ (a : Answer) (x y : List ℕ). number a ≡ 8 → (a ≡ Oscillates (first_changed x (step net x)) (limit_of limit)) × Unsettled (step net) (limit_of limit) (entered s ch) x)
      contract (unit-at_limit net s ch limit w)

  -- its place: the lowest node that one more step would change, which is no input; where the run settles, 0
  pub unit-next-changed : number r ≡ 8 → FirstMoved (nodes net) (is_input net) (step net) t (place r)
  unit-next-changed = as_left (λ (a : Answer) (x y : List ℕ). number a ≡ 8 → FirstMoved (nodes net) (is_input net) (step net) x (place a)) contract (unit-names net s ch limit w)

  pub unit_done_place : number r ≡ 0 → place r ≡ 0
  unit_done_place = as_left (λ (a : Answer) (x y : List ℕ). number a ≡ 0 → place a ≡ 0) contract (unit-names_none net s ch limit w)

  -- rails alone, and inputs alone, settle with count 0
  pub unit-inputs-settled : ((v : ℕ) → v < nodes net → is_input net v ≡ true) → (number r ≡ 0) ⊎ (number r ≡ 8) → (number r ≡ 0) × (first_count r ≡ 0)
  unit-inputs-settled inputs =
      as_left (λ (a : Answer) (x y : List ℕ). (number a ≡ 0) ⊎ (number a ≡ 8) → (number a ≡ 0) × (first_count a ≡ 0)) contract (unit-inputs_only net s ch limit w inputs)

  -- demand 1: the work area
  pub unit_clears : (number r ≡ 0) ⊎ (number r ≡ 8) → u ≡ cleared (cells net) w
  unit_clears =
      as_left (λ (a : Answer) (x y : List ℕ). (number a ≡ 0) ⊎ (number a ≡ 8) → y ≡ cleared (cells net) w) contract (λ h. ap (λ (o : Outcome). o.work) (unit_runs net s ch limit w h).1)

-- Ternary run
module _ (net : Net) (s : List ℕ) (ch : Changes) (w : List ℕ) {r : Answer} {t u : List ℕ} (contract : Leaves (ternary_outcome net s ch w) r t u) where
  pub ternary_refusal : 1 ≤ number r → number r ≤ 6 → (t ≡ s) × (u ≡ w)
  ternary_refusal = as_left (λ (a : Answer) (x y : List ℕ). 1 ≤ number a → number a ≤ 6 → (x ≡ s) × (y ≡ w)) contract (ternary-untouched net s ch w)

  pub ternary-first_refusal : Lowest (all_rules net s ch w) r
  ternary-first_refusal = as_left (λ (a : Answer) (x y : List ℕ). Lowest (all_rules net s ch w) a) contract (ternary_lowest net s ch w)

  -- demand 1: an unsettled start
  pub ternary_start : number r ≡ 7 → (step net s ≡ s → ⊥) × (t ≡ s) × (u ≡ cleared (cells net) w)
  ternary_start =
      as_left (λ (a : Answer) (x y : List ℕ). number a ≡ 7 → (step net s ≡ s → ⊥) × (x ≡ s) × (y ≡ cleared (cells net) w)) contract (ternary_unsettled net s ch w)

  -- demand 3: both halves settle, within the number of nodes that are no inputs and at the least counts
  pub ternary_done : number r ≡ 0 → Covered (nodes net) (is_input net) (step net) s (entered s ch) (first_count r) (second_count r) t
  ternary_done =
      as_left (λ (a : Answer) (x y : List ℕ). number a ≡ 0 → Covered (nodes net) (is_input net) (step net) s (entered s ch) (first_count a) (second_count a) x) contract (ternary_settles net s ch w)

  pub ternary_done_place : number r ≡ 0 → place r ≡ 0
  ternary_done_place = as_left (λ (a : Answer) (x y : List ℕ). number a ≡ 0 → place a ≡ 0) contract (ternary-names_none net s ch w)

  pub ternary_clears : number r ≡ 0 → u ≡ cleared (cells net) w
  ternary_clears = as_left (λ (a : Answer) (x y : List ℕ). number a ≡ 0 → y ≡ cleared (cells net) w) contract (λ h. ap (λ (o : Outcome). o.work) (ternary_runs net s ch w h).2)

  -- demand 3: whatever any order of arrivals and updates ends in agrees with the answer where that is 0 or 1
  pub ternary_agrees : number r ≡ 0 → (y : List ℕ) → OneByOne (nodes net) (is_input net) (changed s (entered s ch)) (step net) (entered s ch) s y
      → step net y ≡ y → ((v : ℕ) → v < nodes net → is_input net v ≡ true → at y v ≡ at (entered s ch) v) → (v : ℕ) → at t v < 2 → at y v ≡ at t v
  ternary_agrees =
      as_left
      (λ (a : Answer) (x z : List ℕ).
      number a ≡ 0 → (y : List ℕ) → OneByOne (nodes net) (is_input net) (changed s (entered s ch)) (step net) (entered s ch) s y
      → step net y ≡ y → ((v : ℕ) → v < nodes net → is_input net v ≡ true → at y v ≡ at (entered s ch) v) → (v : ℕ) → at x v < 2 → at y v ≡ at x v)
      contract (ternary_covers net s ch w)

-- a step from where a run stopped at its limit, in a work area that is large enough, is DONE, and has the place that the run gave
pub step_after_oscillates : (net : Net) (s : List ℕ) (ch : Changes) (limit : ℕ) (w v : List ℕ) {r r' : Answer} {t t' u u' : List ℕ}
    → Leaves (unit_outcome net s ch limit w) r t u → Leaves (step_outcome net t v) r' t' u' → number r ≡ 8 → cells net ≤ length v → (number r' ≡ 0) × (place r' ≡ place r)
step_after_oscillates net s ch limit w v {r} {r'} {t} l k e room = (ap number done, ap place done ∙ sym (ap place (unit_oscillates net s ch limit w l e).0))
  where
    taken : Clean (step_rules net t v)
    taken = subst (λ (x : List ℕ). Clean (step_rules net x v)) (sym l.states_left) (step_goes_on net s ch limit w (inr (sym (ap number l.answers) ∙ e)) v room)

    done : r' ≡ (done_step net t v).answer
    done = k.answers ∙ ap (λ (o : Outcome). o.answer) (step_takes_when net t v taken)

-- a unit run from a settled start that ends DONE lies below the ternary run's answer
pub unit_below_ternary : (net : Net) (s : List ℕ) (ch : Changes) (limit : ℕ) (w : List ℕ) {r r' : Answer} {t t' u u' : List ℕ}
    → Leaves (unit_outcome net s ch limit w) r t u → Leaves (ternary_outcome net s ch w) r' t' u' → step net s ≡ s → number r ≡ 0 → (number r' ≡ 0) × (t ≼ t')
unit_below_ternary net s ch limit w {r' = r'} {t' = t'} l k ok =
    as_left (λ (a : Answer) (x y : List ℕ). number a ≡ 0 → (number r' ≡ 0) × (x ≼ t')) l
    (λ e. as_left (λ (a : Answer) (x y : List ℕ). (number a ≡ 0) × ((unit_outcome net s ch limit w).states ≼ x)) k (unit_below net s ch w limit ok e))

-- two answers and two tables of states are the same, where neither answer is SIZE and the place of a refused transistor aside
abbrev pub Same : Answer → List ℕ → Answer → List ℕ → Type 0
Same p x q y = (number p ≡ 1 → ⊥) → (number q ≡ 1 → ⊥) → SameAnswer p q × (x ≡ y)

same_left : {o p : Outcome} {r r' : Answer} {t t' u u' : List ℕ} → Leaves o r t u → Leaves p r' t' u' → ((number o.answer ≡ 1 → ⊥) → (number p.answer ≡ 1 → ⊥) → SameRun o p) → Same r t r' t'
same_left {o} {r' = r'} {t' = t'} l k h =
    as_left (λ (b : Answer) (x y : List ℕ). Same b x r' t') l (as_left (λ (c : Answer) (x y : List ℕ). Same o.answer o.states c x) k (λ m n. let q = h m n in (q.answers, q.states)))

-- the order in which transistors are listed, how often, and which end is called the source show nowhere
module _ (net twin : Net) (a : Alike net twin) where
  pub step_in_any_order : (s w v : List ℕ) {r r' : Answer} {t t' u u' : List ℕ} → Leaves (step_outcome net s w) r t u → Leaves (step_outcome twin s v) r' t' u' → Same r t r' t'
  step_in_any_order s w v l k = same_left l k (step_order net twin a s w v)

  pub unit_in_any_order : (s : List ℕ) (ch : Changes) (limit : ℕ) (w v : List ℕ) {r r' : Answer} {t t' u u' : List ℕ}
      → Leaves (unit_outcome net s ch limit w) r t u → Leaves (unit_outcome twin s ch limit v) r' t' u' → Same r t r' t'
  unit_in_any_order s ch limit w v l k = same_left l k (unit_order net twin a s ch limit w v)

  pub ternary_in_any_order : (s : List ℕ) (ch : Changes) (w v : List ℕ) {r r' : Answer} {t t' u u' : List ℕ}
      → Leaves (ternary_outcome net s ch w) r t u → Leaves (ternary_outcome twin s ch v) r' t' u' → Same r t r' t'
  ternary_in_any_order s ch w v l k = same_left l k (ternary_order net twin a s ch w v)

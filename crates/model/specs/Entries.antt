-- What each of the five entries answers, and what it leaves in the states and in the work area, on every input. Assumes nothing.
use Rattle.std.specs.Prelude.{ℕ, ◌≡◌, cond, List, [], ◌∷◌, length, eqb, ltb}
use Rattle.model.specs.Places.{tab, first, count, at}
use Rattle.model.specs.Net.{Net, nodes, ground, power, step}
use Rattle.model.specs.Run.{Changes, changed, Ran, limit_of, unit_steps, first_half, second_half}
use Rattle.model.specs.Rules.{Rule, judged, cells, start_rule, check_rules, reset_rules, step_rules, unit_rules, ternary_rules}
use Rattle.model.specs.declared.Answer.{Answer}
use Rattle.model.specs.declared.Answer.TheVariants.{Done, Oscillates}

-- the answer, and what is left in the buffers that an entry may write
pub record Outcome : Type 0 where
  pub answer : Answer
  pub states : List ℕ
  pub work : List ℕ

-- a refusal, with states and work area as they are
abbrev pub untouched : List ℕ → List ℕ → Answer → Outcome
untouched s w a = record { answer = a; states = s; work = w }

-- how many nodes are changed; and the first that is, or the number of nodes where none is
unfoldable pub altered : List ℕ → List ℕ → ℕ
altered s r = count (length s) (changed s r)

unfoldable pub first_changed : List ℕ → List ℕ → ℕ
first_changed s r = first (length s) (changed s r)

-- what reset gives a node: the rails are live, all else is X
abbrev pub reset_state : ℕ → ℕ
reset_state kind = cond (eqb kind ground) 0 (cond (eqb kind power) 1 2)

unfoldable pub reset_states : List ℕ → List ℕ
reset_states kinds = tab (length kinds) (λ v. reset_state (at kinds v))

-- the work area with its first `used` cells at 0
unfoldable pub cleared : ℕ → List ℕ → List ℕ
cleared used w = tab (length w) (λ i. cond (ltb i used) 0 (at w i))

-- how a unit run of steps f answers: DONE with place 0; OSCILLATES with the first node that the next step, which is not stored, would change
abbrev pub ran_answer : (List ℕ → List ℕ) → Ran → ℕ → Answer
ran_answer f r limit = cond r.ends (Done 0 r.count 0) (Oscillates (first_changed r.states (f r.states)) limit)

-- what is left where nothing is refused, of any step f of n nodes that uses so many work cells: a step, with the first node that it changed and how
-- many; a unit run; both halves of a ternary run
abbrev pub step_taken : (List ℕ → List ℕ) → ℕ → List ℕ → List ℕ → Outcome
step_taken f used s w = record { answer = Done (first_changed s (f s)) (altered s (f s)) 0; states = f s; work = cleared used w }

abbrev pub unit_ran : (List ℕ → List ℕ) → ℕ → List ℕ → Changes → ℕ → List ℕ → Outcome
unit_ran f used s ch limit w =
    record { answer = ran_answer f (unit_steps f s ch limit) (limit_of limit); states = (unit_steps f s ch limit).states; work = cleared used w }

abbrev pub ternary_ran : ℕ → (List ℕ → List ℕ) → ℕ → List ℕ → Changes → List ℕ → Outcome
ternary_ran n f used s ch w =
    record { answer = Done 0 (first_half n f s ch).count (second_half n f s ch).count; states = (second_half n f s ch).states; work = cleared used w }

-- START comes last, and leaves the work area cleared
abbrev pub ternary_started : ℕ → (List ℕ → List ℕ) → ℕ → List ℕ → Changes → List ℕ → Outcome
ternary_started n f used s ch w = judged (start_rule f s ∷ []) (untouched s (cleared used w)) (ternary_ran n f used s ch w)

-- the same under any rules
abbrev pub step_under : List Rule → (List ℕ → List ℕ) → ℕ → List ℕ → List ℕ → Outcome
step_under rs f used s w = judged rs (untouched s w) (step_taken f used s w)

abbrev pub unit_under : List Rule → (List ℕ → List ℕ) → ℕ → List ℕ → Changes → ℕ → List ℕ → Outcome
unit_under rs f used s ch limit w = judged rs (untouched s w) (unit_ran f used s ch limit w)

abbrev pub ternary_under : List Rule → ℕ → (List ℕ → List ℕ) → ℕ → List ℕ → Changes → List ℕ → Outcome
ternary_under rs n f used s ch w = judged rs (untouched s w) (ternary_started n f used s ch w)

-- the five entries. Check may write nothing, and reset is lent no work area
unfoldable pub check_answer : Net → Answer
check_answer net = judged (check_rules net) (λ a. a) (Done 0 0 0)

unfoldable pub reset_outcome : List ℕ → List ℕ → Outcome
reset_outcome kinds s = judged (reset_rules kinds s) (untouched s []) (record { answer = Done 0 0 0; states = reset_states kinds; work = [] })

unfoldable pub step_outcome : Net → List ℕ → List ℕ → Outcome
step_outcome net s w = step_under (step_rules net s w) (step net) (cells net) s w

unfoldable pub unit_outcome : Net → List ℕ → Changes → ℕ → List ℕ → Outcome
unit_outcome net s ch limit w = unit_under (unit_rules net s ch limit w) (step net) (cells net) s ch limit w

unfoldable pub ternary_outcome : Net → List ℕ → Changes → List ℕ → Outcome
ternary_outcome net s ch w = ternary_under (ternary_rules net s ch w) (nodes net) (step net) (cells net) s ch w

-- what a contract says of an entry: its answer, its states and its work area at exit are those of the outcome
pub record Leaves (o : Outcome) (answer : Answer) (states work : List ℕ) : Type 0 where
  pub answers : answer ≡ o.answer
  pub states_left : states ≡ o.states
  pub work_left : work ≡ o.work

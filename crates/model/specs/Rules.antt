-- What is refused, and where: the refusals as one list of rules in the order of testing. Assumes nothing.
use Rattle.std.specs.Prelude.{Result, Ok, Err, ℕ, Bool, true, false, not, List, [], ◌∷◌, ◌++◌, length, eqb, ltb}
use Rattle.model.specs.Bounds.{most_nodes, most_transistors, most_changes, highest_kind, highest_type, highest_state, highest_limit, cells_for}
use Rattle.model.specs.Places.{some, any, first, at}
use Rattle.model.specs.Net.{Net, nodes, transistors, is_input}
use Rattle.model.specs.Run.{Changes, settled}
use Rattle.model.specs.declared.Answer.{Answer}
use Rattle.model.specs.declared.Answer.TheVariants.{Size, Limit, Kind, Wire, State, Change, Start}

-- whether what is lent is taken, or which refusal it gets
abbrev pub Verdict : Type 0
Verdict = Result (Unit {0}) Answer

-- a rule for what is lent: how many places it has, which of them break it, and the refusal at a place
pub record Rule : Type 0 where
  pub refusal : ℕ → Answer
  pub places : ℕ
  pub breaks : ℕ → Bool

-- the refusal of the first rule that is broken, at the first place that breaks it
abbrev pub judge : List Rule → Verdict
judge [] = Ok tt
judge (r ∷ rs) =
    let p = first r.places r.breaks in
    elim (ltb p r.places) [ true ↦ Err (r.refusal p) | false ↦ judge rs ]

-- what a refusal gives, and what acceptance gives
abbrev pub given : {A : Type 0} → Verdict → (Answer → A) → A → A
given (Ok _) refuse accept = accept
given (Err a) refuse accept = refuse a

abbrev pub judged : {A : Type 0} → List Rule → (Answer → A) → A → A
judged rs refuse accept = given (judge rs) refuse accept

-- the bounds and the equal lengths, each as a test that says that it is broken
abbrev pub node_sizes : List ℕ → List Bool
node_sizes kinds = ltb (length kinds) 1 ∷ ltb most_nodes (length kinds) ∷ []

abbrev pub state_sizes : List ℕ → List ℕ → List Bool
state_sizes kinds s = not (eqb (length s) (length kinds)) ∷ []

abbrev pub wire_sizes : Net → List Bool
wire_sizes net =
    ltb most_transistors (transistors net)
    ∷ not (eqb (length net.gates) (transistors net))
    ∷ not (eqb (length net.sources) (transistors net))
    ∷ not (eqb (length net.drains) (transistors net))
    ∷ []

-- the work cells that a network needs
abbrev pub cells : Net → ℕ
cells net = cells_for (nodes net) (transistors net)

abbrev pub work_sizes : Net → List ℕ → List Bool
work_sizes net w = ltb (length w) (cells net) ∷ []

abbrev pub change_sizes : Changes → List Bool
change_sizes ch = not (eqb (length ch.values) (length ch.places)) ∷ ltb most_changes (length ch.places) ∷ []

-- a type that is none, or a node that is none
unfoldable pub wire_tests : Net → ℕ → List Bool
wire_tests net t =
    ltb highest_type (at net.types t)
    ∷ not (ltb (at net.gates t) (nodes net))
    ∷ not (ltb (at net.sources t) (nodes net))
    ∷ not (ltb (at net.drains t) (nodes net))
    ∷ []

-- no node, no input, no state, or a node named earlier
unfoldable pub change_tests : Net → Changes → ℕ → List Bool
change_tests net ch e =
    not (ltb (at ch.places e) (nodes net))
    ∷ not (is_input net (at ch.places e))
    ∷ ltb highest_state (at ch.values e)
    ∷ some e (λ k. eqb (at ch.places k) (at ch.places e))
    ∷ []

abbrev pub size_rule : List Bool → Rule
size_rule tests = record { refusal = λ p. Size; places = 1; breaks = λ i. any tests }

abbrev pub limit_rule : ℕ → Rule
limit_rule limit = record { refusal = λ p. Limit; places = 1; breaks = λ i. ltb highest_limit limit }

abbrev pub kind_rule : List ℕ → Rule
kind_rule kinds = record { refusal = Kind; places = length kinds; breaks = λ v. ltb highest_kind (at kinds v) }

abbrev pub wire_rule : Net → Rule
wire_rule net = record { refusal = Wire; places = transistors net; breaks = λ t. any (wire_tests net t) }

abbrev pub state_rule : List ℕ → Rule
state_rule s = record { refusal = State; places = length s; breaks = λ v. ltb highest_state (at s v) }

abbrev pub change_rule : Net → Changes → Rule
change_rule net ch = record { refusal = Change; places = length ch.places; breaks = λ e. any (change_tests net ch e) }

-- of any step f: the state before any change is not settled
abbrev pub start_rule : (List ℕ → List ℕ) → List ℕ → Rule
start_rule f s = record { refusal = λ p. Start; places = 1; breaks = λ i. not (settled f s) }

-- each entry tests what it is lent, in the order of the numbers
unfoldable pub check_sizes : Net → List Bool
check_sizes net = node_sizes net.kinds ++ wire_sizes net

unfoldable pub check_rules : Net → List Rule
check_rules net = size_rule (check_sizes net) ∷ kind_rule net.kinds ∷ wire_rule net ∷ []

unfoldable pub reset_sizes : List ℕ → List ℕ → List Bool
reset_sizes kinds s = node_sizes kinds ++ state_sizes kinds s

unfoldable pub reset_rules : List ℕ → List ℕ → List Rule
reset_rules kinds s = size_rule (reset_sizes kinds s) ∷ kind_rule kinds ∷ []

unfoldable pub step_sizes : Net → List ℕ → List ℕ → List Bool
step_sizes net s w = node_sizes net.kinds ++ state_sizes net.kinds s ++ wire_sizes net ++ work_sizes net w

unfoldable pub step_rules : Net → List ℕ → List ℕ → List Rule
step_rules net s w = size_rule (step_sizes net s w) ∷ kind_rule net.kinds ∷ wire_rule net ∷ state_rule s ∷ []

unfoldable pub run_sizes : Net → List ℕ → Changes → List ℕ → List Bool
run_sizes net s ch w = step_sizes net s w ++ change_sizes ch

-- what both runs test after SIZE and LIMIT
unfoldable pub run_rules : Net → List ℕ → Changes → List Rule
run_rules net s ch = kind_rule net.kinds ∷ wire_rule net ∷ state_rule s ∷ change_rule net ch ∷ []

unfoldable pub unit_rules : Net → List ℕ → Changes → ℕ → List ℕ → List Rule
unit_rules net s ch limit w = size_rule (run_sizes net s ch w) ∷ limit_rule limit ∷ run_rules net s ch

-- all but START, which leaves the work area otherwise
unfoldable pub ternary_rules : Net → List ℕ → Changes → List ℕ → List Rule
ternary_rules net s ch w = size_rule (run_sizes net s ch w) ∷ run_rules net s ch

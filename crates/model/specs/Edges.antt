-- What the bench set leaves out, from the definitions, under one claim: each stand of a transistor, both sides of each bound, a run that ends
-- exactly at its limit, the limit in force, the first changed node, rails, the work area after each kind of answer. Assumes nothing.
use Rattle.std.specs.Prelude.{ℕ, zero, suc, ◌≡◌, refl, Bool, true, false, List, [], ◌∷◌, ◌++◌}
use Rattle.model.specs.Places.{any}
use Rattle.model.specs.Net.{Net, ground, power, input_kind, Stand, opened, closed, unknown, stand, stands, linked, spread, joined, strength, set_state, new, step}
use Rattle.model.specs.Run.{changes_of, raised, lowered, limit_of, unit_steps, first_half, second_half}
use Rattle.model.specs.Answer.{row}
use Rattle.model.specs.Rules.{node_sizes, wire_sizes, change_sizes, wire_tests, change_tests, check_sizes, check_rules, reset_sizes, reset_rules, step_rules, step_sizes, run_sizes, run_rules, unit_rules, ternary_rules}
use Rattle.model.specs.Entries.{Outcome, altered, first_changed, reset_states, cleared, check_answer, reset_outcome, step_outcome, unit_outcome, ternary_outcome}
use Rattle.model.specs.Bench.{line, INV, RING, LATCH}

-- n times a; a table by `tab` takes a number of steps that grows with the square of n
abbrev many : ℕ → ℕ → List ℕ
many zero a = []
many (suc n) a = a ∷ many n a

-- a number of transistors with one node at every end
abbrev bare : List ℕ → ℕ → Net
bare kinds t = record { kinds = kinds; types = many t 2; gates = many t 0; sources = many t 0; drains = many t 0 }

-- three nodes and one transistor
abbrev one : ℕ → ℕ → ℕ → ℕ → ℕ → Net
one kind type gate source drain = record { kinds = 2 ∷ kind ∷ 0 ∷ []; types = type ∷ []; gates = gate ∷ []; sources = source ∷ []; drains = drain ∷ [] }

-- two inverters in a row: 0 I, 1 I, 2 P, 3 P; n(1; 0, 2), n(2; 0, 3)
abbrev TWO : Net
TWO = record { kinds = 2 ∷ 2 ∷ 1 ∷ 1 ∷ []; types = 0 ∷ 0 ∷ []; gates = 1 ∷ 2 ∷ []; sources = 0 ∷ 0 ∷ []; drains = 2 ∷ 3 ∷ [] }

-- an inverter between rails: 0 ground, 1 power, 2 I, 3 N; n(2; 0, 3), p(2; 1, 3)
abbrev RAILS : Net
RAILS = record { kinds = 3 ∷ 4 ∷ 2 ∷ 0 ∷ []; types = 0 ∷ 1 ∷ []; gates = 2 ∷ 2 ∷ []; sources = 0 ∷ 1 ∷ []; drains = 3 ∷ 3 ∷ [] }

-- three inverters in a ring: 0 I, 1 P, 2 P, 3 P; n(1; 0, 2), n(2; 0, 3), n(3; 0, 1)
abbrev THREE : Net
THREE = record { kinds = 2 ∷ 1 ∷ 1 ∷ 1 ∷ []; types = many 3 0; gates = 1 ∷ 2 ∷ 3 ∷ []; sources = many 3 0; drains = 2 ∷ 3 ∷ 1 ∷ [] }

abbrev left : Outcome → List ℕ
left o = o.work

-- each row of the table of stands
abbrev stood : List Stand
stood = stand 0 0 ∷ stand 0 1 ∷ stand 0 2 ∷ stand 1 0 ∷ stand 1 1 ∷ stand 1 2 ∷ stand 2 0 ∷ stand 2 1 ∷ stand 2 2 ∷ []

abbrev stood_so : List Stand
stood_so = opened ∷ closed ∷ unknown ∷ closed ∷ opened ∷ unknown ∷ closed ∷ closed ∷ closed ∷ []

-- which kinds are inputs: 2 and both rails
abbrev inputs : List Bool
inputs = input_kind 0 ∷ input_kind 1 ∷ input_kind 2 ∷ input_kind ground ∷ input_kind power ∷ []

abbrev inputs_so : List Bool
inputs_so = false ∷ false ∷ true ∷ true ∷ true ∷ []

-- the limit in force: 0 stands for 1,000, and every other limit for itself
abbrev in_force : List ℕ
in_force = limit_of 0 ∷ limit_of 1 ∷ limit_of 100 ∷ limit_of 1000 ∷ limit_of 10000 ∷ []

abbrev in_force_so : List ℕ
in_force_so = 1000 ∷ 1 ∷ 100 ∷ 1000 ∷ 10000 ∷ []

-- the largest tables, by their lengths: which of them are refused
abbrev large : List Bool
large =
    any (node_sizes (many 4096 0))
    ∷ any (node_sizes (many 4097 0))
    ∷ any (wire_sizes (bare (0 ∷ []) 8192))
    ∷ any (wire_sizes (bare (0 ∷ []) 8193))
    ∷ any (change_sizes (changes_of (many 4096 0) (many 4096 0)))
    ∷ any (change_sizes (changes_of (many 4097 0) (many 4097 0)))
    ∷ []

abbrev large_so : List Bool
large_so = false ∷ true ∷ false ∷ true ∷ false ∷ true ∷ []

-- INV: 3 nodes and 1 transistor need 14 cells
abbrev seen : List (List ℕ)
seen =
    row (check_answer (bare [] 0))
    ∷ row (check_answer (bare (many 1 0) 0))
    ∷ row (check_answer (bare (many 4097 0) 0))
    ∷ row (check_answer (bare (0 ∷ []) 8193))
    ∷ row (check_answer (one 2 1 2 0 1))
    ∷ row (check_answer (one 2 1 3 0 1))
    ∷ row (check_answer (one 2 1 2 3 1))
    ∷ row (check_answer (one 2 1 2 0 3))
    ∷ row (check_answer (one 2 3 2 0 1))
    ∷ row (check_answer (one 4 1 2 0 1))
    ∷ row (check_answer (one 5 1 3 0 1))
    -- each kind reset; a kind above power; one state for two nodes
    ∷ line (reset_outcome (0 ∷ 1 ∷ 2 ∷ 3 ∷ 4 ∷ []) (7 ∷ 255 ∷ 0 ∷ 1 ∷ 0 ∷ []))
    ∷ line (reset_outcome (4 ∷ 5 ∷ []) (7 ∷ 255 ∷ []))
    ∷ line (reset_outcome (2 ∷ 1 ∷ []) (7 ∷ []))
    -- a p transistor: open at 1, closed at 0, unknown at X
    ∷ line (step_outcome (one 0 1 2 0 1) (1 ∷ 0 ∷ 1 ∷ []) (many 14 9))
    ∷ line (step_outcome (one 0 1 2 0 1) (1 ∷ 0 ∷ 0 ∷ []) (many 14 9))
    ∷ line (step_outcome (one 0 1 2 0 1) (1 ∷ 0 ∷ 2 ∷ []) (many 14 9))
    -- both ends one node, both ends inputs: no effect
    ∷ line (step_outcome (one 0 2 2 1 1) (1 ∷ 0 ∷ 1 ∷ []) (many 14 9))
    ∷ line (step_outcome (one 2 2 2 0 1) (1 ∷ 0 ∷ 1 ∷ []) (many 14 9))
    -- the second inverter reads what the first had before the step
    ∷ line (step_outcome TWO (0 ∷ 1 ∷ 1 ∷ 0 ∷ []) (many 20 9))
    ∷ line (unit_outcome TWO (0 ∷ 1 ∷ 1 ∷ 0 ∷ []) (changes_of [] []) 0 (many 20 9))
    -- two pullups: the step changes both, the second alone, none
    ∷ line (step_outcome (bare (1 ∷ 1 ∷ []) 0) (0 ∷ 0 ∷ []) (many 8 9))
    ∷ line (step_outcome (bare (1 ∷ 1 ∷ []) 0) (1 ∷ 0 ∷ []) (many 8 9))
    ∷ line (step_outcome (bare (1 ∷ 1 ∷ []) 0) (1 ∷ 1 ∷ []) (many 8 9))
    -- the work area exact, and one cell less; a state above X; what is left in the area
    ∷ line (step_outcome INV (0 ∷ 1 ∷ 1 ∷ []) (many 14 9))
    ∷ line (step_outcome INV (0 ∷ 1 ∷ 1 ∷ []) (many 13 9))
    ∷ line (step_outcome INV (0 ∷ 1 ∷ 3 ∷ []) (many 14 9))
    ∷ left (step_outcome INV (0 ∷ 1 ∷ 1 ∷ []) (many 16 9))
    ∷ left (step_outcome INV (0 ∷ 1 ∷ 3 ∷ []) (many 16 9))
    -- limits: the highest and one more; reached exactly; a ring, whose node turns over at each step, at three limits
    ∷ line (unit_outcome INV (0 ∷ 1 ∷ 1 ∷ []) (changes_of [] []) 10000 (many 14 9))
    ∷ line (unit_outcome INV (0 ∷ 1 ∷ 1 ∷ []) (changes_of [] []) 10001 (many 14 9))
    ∷ line (unit_outcome INV (0 ∷ 1 ∷ 1 ∷ []) (changes_of [] []) 1 (many 14 9))
    ∷ line (unit_outcome RING (0 ∷ 0 ∷ []) (changes_of [] []) 1 (many 10 9))
    ∷ line (unit_outcome RING (0 ∷ 0 ∷ []) (changes_of [] []) 99 (many 10 9))
    ∷ line (unit_outcome RING (0 ∷ 0 ∷ []) (changes_of [] []) 100 (many 10 9))
    -- round three inverters a change goes from node to node: each run names the node after the one that its last step changed
    ∷ line (unit_outcome THREE (0 ∷ 0 ∷ 1 ∷ 0 ∷ []) (changes_of [] []) 1 (many 22 9))
    ∷ line (unit_outcome THREE (0 ∷ 0 ∷ 1 ∷ 0 ∷ []) (changes_of [] []) 2 (many 22 9))
    ∷ line (unit_outcome THREE (0 ∷ 0 ∷ 1 ∷ 0 ∷ []) (changes_of [] []) 3 (many 22 9))
    ∷ left (unit_outcome RING (0 ∷ 0 ∷ []) (changes_of [] []) 1 (many 12 9))
    ∷ left (unit_outcome INV (0 ∷ 1 ∷ 1 ∷ []) (changes_of [] []) 10001 (many 16 9))
    -- changes: no node, no input, no state, a node named earlier, one state for two nodes; an input changed to what it is
    ∷ line (unit_outcome INV (0 ∷ 1 ∷ 0 ∷ []) (changes_of (3 ∷ []) (1 ∷ [])) 0 (many 14 9))
    ∷ line (unit_outcome INV (0 ∷ 1 ∷ 0 ∷ []) (changes_of (1 ∷ 2 ∷ []) (1 ∷ 1 ∷ [])) 0 (many 14 9))
    ∷ line (unit_outcome INV (0 ∷ 1 ∷ 0 ∷ []) (changes_of (1 ∷ []) (3 ∷ [])) 0 (many 14 9))
    ∷ line (ternary_outcome INV (0 ∷ 1 ∷ 0 ∷ []) (changes_of (1 ∷ 0 ∷ 1 ∷ []) (1 ∷ 0 ∷ 0 ∷ [])) (many 14 9))
    ∷ line (ternary_outcome INV (0 ∷ 1 ∷ 0 ∷ []) (changes_of (1 ∷ 0 ∷ []) (1 ∷ [])) (many 14 9))
    ∷ line (ternary_outcome LATCH (1 ∷ 0 ∷ 0 ∷ []) (changes_of (0 ∷ []) (1 ∷ [])) (many 14 9))
    -- rails are inputs: they drive the node between them, which is X under an unknown input; changes may name them; they hold against each other
    ∷ line (unit_outcome RAILS (0 ∷ 1 ∷ 2 ∷ 2 ∷ []) (changes_of (2 ∷ []) (1 ∷ [])) 0 (many 20 9))
    ∷ line (unit_outcome RAILS (0 ∷ 1 ∷ 1 ∷ 0 ∷ []) (changes_of (2 ∷ []) (2 ∷ [])) 0 (many 20 9))
    ∷ line (unit_outcome RAILS (0 ∷ 1 ∷ 1 ∷ 0 ∷ []) (changes_of (1 ∷ 0 ∷ 2 ∷ []) (2 ∷ 1 ∷ 1 ∷ [])) 0 (many 20 9))
    ∷ line (ternary_outcome RAILS (0 ∷ 1 ∷ 1 ∷ 0 ∷ []) (changes_of (0 ∷ []) (1 ∷ [])) (many 20 9))
    ∷ line (ternary_outcome RAILS (0 ∷ 1 ∷ 1 ∷ 0 ∷ []) (changes_of (3 ∷ []) (1 ∷ [])) (many 20 9))
    -- inputs only, rails only; no changes, settled and not; the work area after START and after CHANGE
    ∷ line (unit_outcome (bare (2 ∷ 2 ∷ []) 1) (0 ∷ 1 ∷ []) (changes_of (1 ∷ []) (1 ∷ [])) 1 (many 10 9))
    ∷ line (unit_outcome (bare (3 ∷ 4 ∷ []) 1) (0 ∷ 1 ∷ []) (changes_of [] []) 1 (many 10 9))
    ∷ line (ternary_outcome (bare (3 ∷ 4 ∷ []) 1) (0 ∷ 1 ∷ []) (changes_of (0 ∷ 1 ∷ []) (1 ∷ 0 ∷ [])) (many 10 9))
    ∷ line (ternary_outcome INV (0 ∷ 1 ∷ 0 ∷ []) (changes_of [] []) (many 14 9))
    ∷ line (ternary_outcome INV (0 ∷ 1 ∷ 1 ∷ []) (changes_of [] []) (many 14 9))
    ∷ line (ternary_outcome INV (0 ∷ 1 ∷ 1 ∷ []) (changes_of (1 ∷ []) (0 ∷ [])) (many 14 9))
    ∷ left (ternary_outcome INV (0 ∷ 1 ∷ 0 ∷ []) (changes_of (1 ∷ []) (0 ∷ [])) (many 16 9))
    ∷ left (ternary_outcome INV (0 ∷ 1 ∷ 1 ∷ []) (changes_of [] []) (many 16 9))
    ∷ left (ternary_outcome INV (0 ∷ 1 ∷ 1 ∷ []) (changes_of (2 ∷ []) (1 ∷ [])) (many 16 9))
    ∷ []

abbrev seen_so : List (List ℕ)
seen_so =
    (1 ∷ 0 ∷ 0 ∷ 0 ∷ [])
    ∷ (0 ∷ 0 ∷ 0 ∷ 0 ∷ [])
    ∷ (1 ∷ 0 ∷ 0 ∷ 0 ∷ [])
    ∷ (1 ∷ 0 ∷ 0 ∷ 0 ∷ [])
    ∷ (0 ∷ 0 ∷ 0 ∷ 0 ∷ [])
    ∷ (4 ∷ 0 ∷ 0 ∷ 0 ∷ [])
    ∷ (4 ∷ 0 ∷ 0 ∷ 0 ∷ [])
    ∷ (4 ∷ 0 ∷ 0 ∷ 0 ∷ [])
    ∷ (4 ∷ 0 ∷ 0 ∷ 0 ∷ [])
    ∷ (0 ∷ 0 ∷ 0 ∷ 0 ∷ [])
    ∷ (3 ∷ 1 ∷ 0 ∷ 0 ∷ [])
    ∷ (0 ∷ 0 ∷ 0 ∷ 0 ∷ 2 ∷ 2 ∷ 2 ∷ 0 ∷ 1 ∷ [])
    ∷ (3 ∷ 1 ∷ 0 ∷ 0 ∷ 7 ∷ 255 ∷ [])
    ∷ (1 ∷ 0 ∷ 0 ∷ 0 ∷ 7 ∷ [])
    ∷ (0 ∷ 3 ∷ 0 ∷ 0 ∷ 1 ∷ 0 ∷ 1 ∷ [])
    ∷ (0 ∷ 1 ∷ 1 ∷ 0 ∷ 1 ∷ 1 ∷ 0 ∷ [])
    ∷ (0 ∷ 1 ∷ 1 ∷ 0 ∷ 1 ∷ 2 ∷ 2 ∷ [])
    ∷ (0 ∷ 3 ∷ 0 ∷ 0 ∷ 1 ∷ 0 ∷ 1 ∷ [])
    ∷ (0 ∷ 3 ∷ 0 ∷ 0 ∷ 1 ∷ 0 ∷ 1 ∷ [])
    ∷ (0 ∷ 2 ∷ 1 ∷ 0 ∷ 0 ∷ 1 ∷ 0 ∷ 0 ∷ [])
    ∷ (0 ∷ 0 ∷ 2 ∷ 0 ∷ 0 ∷ 1 ∷ 0 ∷ 1 ∷ [])
    ∷ (0 ∷ 0 ∷ 2 ∷ 0 ∷ 1 ∷ 1 ∷ [])
    ∷ (0 ∷ 1 ∷ 1 ∷ 0 ∷ 1 ∷ 1 ∷ [])
    ∷ (0 ∷ 2 ∷ 0 ∷ 0 ∷ 1 ∷ 1 ∷ [])
    ∷ (0 ∷ 2 ∷ 1 ∷ 0 ∷ 0 ∷ 1 ∷ 0 ∷ [])
    ∷ (1 ∷ 0 ∷ 0 ∷ 0 ∷ 0 ∷ 1 ∷ 1 ∷ [])
    ∷ (5 ∷ 2 ∷ 0 ∷ 0 ∷ 0 ∷ 1 ∷ 3 ∷ [])
    ∷ (many 14 0 ++ 9 ∷ 9 ∷ [])
    ∷ many 16 9
    ∷ (0 ∷ 0 ∷ 1 ∷ 0 ∷ 0 ∷ 1 ∷ 0 ∷ [])
    ∷ (2 ∷ 0 ∷ 0 ∷ 0 ∷ 0 ∷ 1 ∷ 1 ∷ [])
    ∷ (0 ∷ 0 ∷ 1 ∷ 0 ∷ 0 ∷ 1 ∷ 0 ∷ [])
    ∷ (8 ∷ 1 ∷ 1 ∷ 0 ∷ 0 ∷ 1 ∷ [])
    ∷ (8 ∷ 1 ∷ 99 ∷ 0 ∷ 0 ∷ 1 ∷ [])
    ∷ (8 ∷ 1 ∷ 100 ∷ 0 ∷ 0 ∷ 0 ∷ [])
    ∷ (8 ∷ 2 ∷ 1 ∷ 0 ∷ 0 ∷ 1 ∷ 1 ∷ 0 ∷ [])
    ∷ (8 ∷ 3 ∷ 2 ∷ 0 ∷ 0 ∷ 1 ∷ 0 ∷ 0 ∷ [])
    ∷ (8 ∷ 1 ∷ 3 ∷ 0 ∷ 0 ∷ 1 ∷ 0 ∷ 1 ∷ [])
    ∷ (many 10 0 ++ 9 ∷ 9 ∷ [])
    ∷ many 16 9
    ∷ (6 ∷ 0 ∷ 0 ∷ 0 ∷ 0 ∷ 1 ∷ 0 ∷ [])
    ∷ (6 ∷ 1 ∷ 0 ∷ 0 ∷ 0 ∷ 1 ∷ 0 ∷ [])
    ∷ (6 ∷ 0 ∷ 0 ∷ 0 ∷ 0 ∷ 1 ∷ 0 ∷ [])
    ∷ (6 ∷ 2 ∷ 0 ∷ 0 ∷ 0 ∷ 1 ∷ 0 ∷ [])
    ∷ (1 ∷ 0 ∷ 0 ∷ 0 ∷ 0 ∷ 1 ∷ 0 ∷ [])
    ∷ (0 ∷ 0 ∷ 0 ∷ 0 ∷ 1 ∷ 0 ∷ 0 ∷ [])
    ∷ (0 ∷ 0 ∷ 1 ∷ 0 ∷ 0 ∷ 1 ∷ 1 ∷ 0 ∷ [])
    ∷ (0 ∷ 0 ∷ 1 ∷ 0 ∷ 0 ∷ 1 ∷ 2 ∷ 2 ∷ [])
    ∷ (0 ∷ 0 ∷ 1 ∷ 0 ∷ 1 ∷ 2 ∷ 1 ∷ 1 ∷ [])
    ∷ (0 ∷ 0 ∷ 1 ∷ 1 ∷ 1 ∷ 1 ∷ 1 ∷ 1 ∷ [])
    ∷ (6 ∷ 0 ∷ 0 ∷ 0 ∷ 0 ∷ 1 ∷ 1 ∷ 0 ∷ [])
    ∷ (0 ∷ 0 ∷ 0 ∷ 0 ∷ 0 ∷ 1 ∷ [])
    ∷ (0 ∷ 0 ∷ 0 ∷ 0 ∷ 0 ∷ 1 ∷ [])
    ∷ (0 ∷ 0 ∷ 0 ∷ 0 ∷ 1 ∷ 0 ∷ [])
    ∷ (0 ∷ 0 ∷ 0 ∷ 0 ∷ 0 ∷ 1 ∷ 0 ∷ [])
    ∷ (7 ∷ 0 ∷ 0 ∷ 0 ∷ 0 ∷ 1 ∷ 1 ∷ [])
    ∷ (7 ∷ 0 ∷ 0 ∷ 0 ∷ 0 ∷ 1 ∷ 1 ∷ [])
    ∷ (many 14 0 ++ 9 ∷ 9 ∷ [])
    ∷ (many 14 0 ++ 9 ∷ 9 ∷ [])
    ∷ many 16 9
    ∷ []

pub edges : (stood ≡ stood_so) × (inputs ≡ inputs_so) × (in_force ≡ in_force_so) × (large ≡ large_so) × (seen ≡ seen_so)
unfolding stands linked spread joined strength set_state new step raised lowered unit_steps first_half second_half wire_tests change_tests check_sizes check_rules reset_sizes reset_rules step_rules step_sizes run_sizes run_rules unit_rules ternary_rules altered first_changed reset_states cleared check_answer reset_outcome step_outcome unit_outcome ternary_outcome
edges = (refl, refl, refl, refl, refl)

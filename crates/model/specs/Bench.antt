-- The bench set K1 to K14 from the definitions, as one list under a single claim. Assumes nothing.
use Rattle.std.specs.Prelude.{ℕ, ◌≡◌, refl, List, [], ◌∷◌, ◌++◌}
use Rattle.model.specs.Places.{tab}
use Rattle.model.specs.Net.{Net, stands, linked, spread, joined, strength, set_state, new, step}
use Rattle.model.specs.Run.{changes_of, raised, lowered, unit_steps, first_half, second_half}
use Rattle.model.specs.Answer.{row}
use Rattle.model.specs.Rules.{wire_tests, change_tests, step_sizes, run_sizes, run_rules, unit_rules, ternary_rules}
use Rattle.model.specs.Entries.{Outcome, altered, first_changed, cleared, unit_outcome, ternary_outcome}

-- a work area that is large enough for each network of the set
abbrev work : List ℕ
work = tab 64 (λ i. 7)

-- a line of the set: number, place, first count, second count, states
abbrev pub line : Outcome → List ℕ
line o = row o.answer ++ o.states

abbrev unit : Net → List ℕ → List ℕ → List ℕ → ℕ → List ℕ
unit net s ps vs limit = line (unit_outcome net s (changes_of ps vs) limit work)

abbrev ternary : Net → List ℕ → List ℕ → List ℕ → List ℕ
ternary net s ps vs = line (ternary_outcome net s (changes_of ps vs) work)

abbrev pub INV : Net
INV = record { kinds = 2 ∷ 2 ∷ 1 ∷ []; types = 0 ∷ []; gates = 1 ∷ []; sources = 0 ∷ []; drains = 2 ∷ [] }

abbrev pub PASS : Net
PASS = record { kinds = 2 ∷ 0 ∷ 0 ∷ []; types = 0 ∷ []; gates = 0 ∷ []; sources = 1 ∷ []; drains = 2 ∷ [] }

abbrev pub RING : Net
RING = record { kinds = 2 ∷ 1 ∷ []; types = 0 ∷ []; gates = 1 ∷ []; sources = 0 ∷ []; drains = 1 ∷ [] }

abbrev pub FENCE : Net
FENCE = record { kinds = 2 ∷ 0 ∷ 1 ∷ 0 ∷ []; types = 0 ∷ 0 ∷ []; gates = 0 ∷ 0 ∷ []; sources = 1 ∷ 2 ∷ []; drains = 2 ∷ 3 ∷ [] }

abbrev pub SHORT : Net
SHORT = record { kinds = 2 ∷ 2 ∷ 0 ∷ []; types = 2 ∷ 2 ∷ []; gates = 0 ∷ 0 ∷ []; sources = 0 ∷ 1 ∷ []; drains = 2 ∷ 2 ∷ [] }

abbrev pub SPLIT : Net
SPLIT = record { kinds = 2 ∷ 2 ∷ 0 ∷ 0 ∷ []; types = 2 ∷ 2 ∷ 2 ∷ []; gates = 0 ∷ 0 ∷ 0 ∷ []; sources = 0 ∷ 0 ∷ 1 ∷ []; drains = 2 ∷ 3 ∷ 3 ∷ [] }

abbrev pub LATCH : Net
LATCH = record { kinds = 2 ∷ 2 ∷ 0 ∷ []; types = 0 ∷ []; gates = 0 ∷ []; sources = 1 ∷ []; drains = 2 ∷ [] }

abbrev ran : List (List ℕ)
ran =
    unit INV (0 ∷ 2 ∷ 2 ∷ []) (1 ∷ []) (1 ∷ []) 0
    ∷ unit INV (0 ∷ 1 ∷ 0 ∷ []) (1 ∷ []) (2 ∷ []) 0
    ∷ ternary INV (0 ∷ 1 ∷ 0 ∷ []) (1 ∷ []) (0 ∷ [])
    ∷ unit PASS (0 ∷ 1 ∷ 0 ∷ []) (0 ∷ []) (1 ∷ []) 0
    ∷ unit PASS (0 ∷ 1 ∷ 1 ∷ []) (0 ∷ []) (2 ∷ []) 0
    ∷ unit RING (0 ∷ 0 ∷ []) [] [] 4
    ∷ ternary RING (0 ∷ 0 ∷ []) [] []
    ∷ unit INV (0 ∷ 2 ∷ 2 ∷ []) (1 ∷ 1 ∷ []) (1 ∷ 1 ∷ []) 0
    ∷ unit FENCE (2 ∷ 0 ∷ 1 ∷ 1 ∷ []) [] [] 0
    ∷ unit SHORT (0 ∷ 1 ∷ 0 ∷ []) [] [] 0
    ∷ unit SPLIT (1 ∷ 0 ∷ 0 ∷ 0 ∷ []) [] [] 0
    ∷ unit LATCH (1 ∷ 0 ∷ 0 ∷ []) (0 ∷ 1 ∷ []) (0 ∷ 1 ∷ []) 0
    ∷ ternary LATCH (1 ∷ 0 ∷ 0 ∷ []) (0 ∷ 1 ∷ []) (0 ∷ 1 ∷ [])
    ∷ unit RING (0 ∷ 2 ∷ []) [] [] 4
    ∷ []

abbrev listed : List (List ℕ)
listed =
    (0 ∷ 0 ∷ 1 ∷ 0 ∷ 0 ∷ 1 ∷ 0 ∷ [])
    ∷ (0 ∷ 0 ∷ 1 ∷ 0 ∷ 0 ∷ 2 ∷ 2 ∷ [])
    ∷ (0 ∷ 0 ∷ 1 ∷ 1 ∷ 0 ∷ 0 ∷ 1 ∷ [])
    ∷ (0 ∷ 0 ∷ 1 ∷ 0 ∷ 1 ∷ 2 ∷ 2 ∷ [])
    ∷ (0 ∷ 0 ∷ 0 ∷ 0 ∷ 2 ∷ 1 ∷ 1 ∷ [])
    ∷ (8 ∷ 1 ∷ 4 ∷ 0 ∷ 0 ∷ 0 ∷ [])
    ∷ (7 ∷ 0 ∷ 0 ∷ 0 ∷ 0 ∷ 0 ∷ [])
    ∷ (6 ∷ 1 ∷ 0 ∷ 0 ∷ 0 ∷ 2 ∷ 2 ∷ [])
    ∷ (0 ∷ 0 ∷ 1 ∷ 0 ∷ 2 ∷ 2 ∷ 1 ∷ 1 ∷ [])
    ∷ (0 ∷ 0 ∷ 1 ∷ 0 ∷ 0 ∷ 1 ∷ 2 ∷ [])
    ∷ (0 ∷ 0 ∷ 1 ∷ 0 ∷ 1 ∷ 0 ∷ 1 ∷ 2 ∷ [])
    ∷ (0 ∷ 0 ∷ 0 ∷ 0 ∷ 0 ∷ 1 ∷ 0 ∷ [])
    ∷ (0 ∷ 0 ∷ 1 ∷ 0 ∷ 0 ∷ 1 ∷ 2 ∷ [])
    ∷ (0 ∷ 0 ∷ 0 ∷ 0 ∷ 0 ∷ 2 ∷ [])
    ∷ []

pub bench : ran ≡ listed
unfolding stands linked spread joined strength set_state new step raised lowered unit_steps first_half second_half wire_tests change_tests step_sizes run_sizes run_rules unit_rules ternary_rules altered first_changed cleared unit_outcome ternary_outcome
bench = refl

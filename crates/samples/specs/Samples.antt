-- Entries on random networks, sound and flawed, against an outside program that tries every choice: by `outside/choices/choices.py sample 2 78`,
-- which writes this file and never reads the definitions. Assumes nothing.
use Rattle.std.specs.Prelude.{ℕ, zero, suc, ◌≡◌, refl, List, [], ◌∷◌, ◌++◌}
use Rattle.model.specs.Net.{Net, stands, linked, spread, joined, strength, set_state, new, step}
use Rattle.model.specs.Run.{Changes, raised, lowered, unit_steps, first_half, second_half}
use Rattle.model.specs.Answer.{row}
use Rattle.model.specs.Rules.{wire_tests, change_tests, check_sizes, check_rules, reset_sizes, reset_rules, step_sizes, step_rules, run_sizes, run_rules, unit_rules, ternary_rules}
use Rattle.model.specs.Entries.{Outcome, altered, first_changed, reset_states, cleared, check_answer, reset_outcome, step_outcome, unit_outcome, ternary_outcome}

-- n cells of 0; n cells of which each is one more than the last
abbrev zeros : ℕ → List ℕ
zeros zero = []
zeros (suc n) = 0 ∷ zeros n

abbrev from : ℕ → ℕ → List ℕ
from a zero = []
from a (suc n) = a ∷ from (suc a) n

-- kinds; types, gates, sources, drains
abbrev net : List ℕ → List ℕ → List ℕ → List ℕ → List ℕ → Net
net k y g a b = record { kinds = k; types = y; gates = g; sources = a; drains = b }

abbrev changes : List ℕ → List ℕ → Changes
changes ps vs = record { places = ps; values = vs }

-- number, place and counts; states; work area
abbrev left : List ℕ → List ℕ → List ℕ → List (List ℕ)
left answer states work = answer ∷ states ∷ work ∷ []

abbrev told : Outcome → List (List ℕ)
told o = left (row o.answer) o.states o.work

abbrev check : Net → List (List ℕ)
check m = left (row (check_answer m)) [] []

abbrev reset : List ℕ → List ℕ → List (List ℕ)
reset kinds s = told (reset_outcome kinds s)

abbrev once : Net → List ℕ → List ℕ → List (List ℕ)
once m s w = told (step_outcome m s w)

abbrev unit : Net → List ℕ → Changes → ℕ → List ℕ → List (List ℕ)
unit m s ch limit w = told (unit_outcome m s ch limit w)

abbrev ternary : Net → List ℕ → Changes → List ℕ → List (List ℕ)
ternary m s ch w = told (ternary_outcome m s ch w)

abbrev ran : List (List (List ℕ))
ran =
    -- check
    check (net (4 ∷ 2 ∷ 0 ∷ 1 ∷ []) (0 ∷ 0 ∷ []) (2 ∷ 2 ∷ []) (3 ∷ 3 ∷ []) (0 ∷ 2 ∷ 5 ∷ []))
    ∷ check (net (3 ∷ 2 ∷ 0 ∷ []) [] [] [] [])
    ∷ check (net [] (0 ∷ 1 ∷ 1 ∷ []) (0 ∷ 0 ∷ 0 ∷ []) (0 ∷ 0 ∷ 0 ∷ []) (0 ∷ 0 ∷ 0 ∷ []))
    ∷ check (net (5 ∷ []) (0 ∷ 0 ∷ 1 ∷ 0 ∷ []) (0 ∷ 0 ∷ 0 ∷ 0 ∷ []) (0 ∷ 0 ∷ 0 ∷ 0 ∷ []) (0 ∷ 0 ∷ 0 ∷ 0 ∷ []))
    ∷ check (net (0 ∷ 1 ∷ 0 ∷ 2 ∷ 0 ∷ 0 ∷ []) (1 ∷ 0 ∷ 1 ∷ []) (0 ∷ 3 ∷ 5 ∷ []) (2 ∷ 0 ∷ 4 ∷ []) (1 ∷ 4 ∷ 1 ∷ []))
    ∷ check (net (2 ∷ []) (1 ∷ 0 ∷ 3 ∷ []) (0 ∷ 0 ∷ 0 ∷ []) (0 ∷ 0 ∷ 0 ∷ []) (0 ∷ 0 ∷ 0 ∷ []))
    ∷ check (net (2 ∷ 0 ∷ 3 ∷ 0 ∷ []) (0 ∷ 0 ∷ 0 ∷ []) (2 ∷ 2 ∷ 1 ∷ []) (2 ∷ 3 ∷ 3 ∷ []) (5 ∷ 0 ∷ 65535 ∷ []))
    ∷ check (net (0 ∷ []) (2 ∷ 1 ∷ 2 ∷ 1 ∷ 0 ∷ 0 ∷ []) (0 ∷ 0 ∷ 0 ∷ 0 ∷ 0 ∷ 0 ∷ []) (0 ∷ 0 ∷ 0 ∷ 0 ∷ 0 ∷ 0 ∷ []) (0 ∷ 0 ∷ 0 ∷ 0 ∷ 0 ∷ 0 ∷ []))
    ∷ check (net (1 ∷ 4 ∷ 4 ∷ 2 ∷ []) (1 ∷ []) (1 ∷ []) (1 ∷ 0 ∷ []) (2 ∷ []))
    -- reset
    ∷ reset (0 ∷ 3 ∷ 1 ∷ []) (2 ∷ 0 ∷ [])
    ∷ reset [] []
    ∷ reset (1 ∷ 3 ∷ 0 ∷ 0 ∷ 0 ∷ []) (2 ∷ 1 ∷ 0 ∷ 0 ∷ 2 ∷ [])
    ∷ reset (2 ∷ 0 ∷ 4 ∷ 5 ∷ []) (1 ∷ 0 ∷ 1 ∷ 1 ∷ [])
    ∷ reset (4 ∷ 0 ∷ 0 ∷ 0 ∷ 3 ∷ []) (2 ∷ 0 ∷ 1 ∷ 0 ∷ 2 ∷ [])
    ∷ reset (0 ∷ 2 ∷ 2 ∷ 4 ∷ 0 ∷ 4 ∷ []) (0 ∷ 255 ∷ 255 ∷ 1 ∷ 2 ∷ 0 ∷ [])
    ∷ reset (0 ∷ 0 ∷ 4 ∷ 0 ∷ 0 ∷ 3 ∷ []) (1 ∷ 0 ∷ 0 ∷ 0 ∷ 2 ∷ 1 ∷ [])
    ∷ reset (4 ∷ 0 ∷ 0 ∷ []) (1 ∷ 0 ∷ [])
    -- one step
    ∷ once (net (0 ∷ 0 ∷ 0 ∷ 0 ∷ 1 ∷ 1 ∷ []) (2 ∷ 0 ∷ 0 ∷ 0 ∷ 0 ∷ 0 ∷ []) (2 ∷ 4 ∷ 0 ∷ 5 ∷ 5 ∷ 5 ∷ []) (3 ∷ 1 ∷ 4 ∷ 0 ∷ 3 ∷ 4 ∷ []) (3 ∷ 4 ∷ 1 ∷ 5 ∷ 0 ∷ 1 ∷ [])) (1 ∷ 2 ∷ 0 ∷ 0 ∷ 2 ∷ 0 ∷ []) (from 2 38)
    ∷ once (net (0 ∷ []) (3 ∷ 2 ∷ 3 ∷ []) (0 ∷ 0 ∷ 0 ∷ []) (0 ∷ 0 ∷ 0 ∷ []) (0 ∷ 0 ∷ 0 ∷ [])) (1 ∷ 0 ∷ []) (from 2 10)
    ∷ once (net [] (1 ∷ 1 ∷ 0 ∷ []) (2 ∷ 1 ∷ 0 ∷ []) (1 ∷ 0 ∷ 1 ∷ []) (0 ∷ 1 ∷ 0 ∷ [])) [] (from 8 18)
    ∷ once (net (2 ∷ 1 ∷ 0 ∷ 3 ∷ 0 ∷ 2 ∷ []) (0 ∷ 2 ∷ []) (2 ∷ 5 ∷ []) (3 ∷ 2 ∷ []) (4 ∷ 2 ∷ [])) (0 ∷ 2 ∷ 1 ∷ 2 ∷ 0 ∷ 0 ∷ []) (from 3 28)
    ∷ once (net (2 ∷ 0 ∷ 2 ∷ 3 ∷ 4 ∷ []) (0 ∷ []) (3 ∷ 0 ∷ []) (0 ∷ []) (0 ∷ [])) (1 ∷ 0 ∷ 2 ∷ 2 ∷ 2 ∷ []) (from 2 21)
    ∷ once (net (2 ∷ 4 ∷ 0 ∷ 1 ∷ 2 ∷ 0 ∷ []) (0 ∷ 0 ∷ 0 ∷ 0 ∷ []) (1 ∷ 4 ∷ 3 ∷ 4 ∷ []) (1 ∷ 3 ∷ 2 ∷ 0 ∷ []) (1 ∷ 5 ∷ 2 ∷ 0 ∷ [])) (2 ∷ 0 ∷ 1 ∷ 2 ∷ 2 ∷ 0 ∷ []) (from 2 34)
    ∷ once (net (5 ∷ 0 ∷ 0 ∷ 2 ∷ 255 ∷ []) [] [] [] []) (1 ∷ 2 ∷ 0 ∷ 1 ∷ 0 ∷ []) (from 8 21)
    ∷ once (net (1 ∷ []) (1 ∷ 2 ∷ 2 ∷ 255 ∷ []) (0 ∷ 0 ∷ 0 ∷ 0 ∷ []) (0 ∷ 0 ∷ 0 ∷ 0 ∷ []) (0 ∷ 0 ∷ 0 ∷ 0 ∷ [])) (0 ∷ []) (from 4 12)
    ∷ once (net (4 ∷ 1 ∷ 0 ∷ 0 ∷ 1 ∷ 3 ∷ []) (1 ∷ 1 ∷ 2 ∷ 0 ∷ 1 ∷ 0 ∷ []) (1 ∷ 5 ∷ 2 ∷ 4 ∷ 3 ∷ 1 ∷ []) (4 ∷ 0 ∷ 5 ∷ 5 ∷ 4 ∷ 3 ∷ []) (1 ∷ 5 ∷ 3 ∷ 0 ∷ 0 ∷ 2 ∷ [])) (2 ∷ 2 ∷ 1 ∷ 0 ∷ 1 ∷ 2 ∷ []) (from 1 38)
    ∷ once (net (4 ∷ 0 ∷ 1 ∷ []) (1 ∷ 0 ∷ 0 ∷ 0 ∷ 0 ∷ []) (0 ∷ 1 ∷ 0 ∷ 1 ∷ 1 ∷ []) (2 ∷ 0 ∷ 2 ∷ 0 ∷ 4 ∷ []) (0 ∷ 4 ∷ 2 ∷ 1 ∷ 3 ∷ [])) (0 ∷ 0 ∷ 2 ∷ []) (from 8 24)
    ∷ once (net (0 ∷ 0 ∷ 0 ∷ 1 ∷ 0 ∷ 3 ∷ []) (2 ∷ 2 ∷ 0 ∷ 1 ∷ 1 ∷ []) (4 ∷ 3 ∷ 0 ∷ 4 ∷ 4 ∷ []) (1 ∷ 1 ∷ 4 ∷ 4 ∷ 4 ∷ []) (5 ∷ 2 ∷ 1 ∷ 4 ∷ 4 ∷ [])) (2 ∷ 1 ∷ 0 ∷ 2 ∷ 1 ∷ 0 ∷ []) (from 5 36)
    ∷ once (net (0 ∷ []) (0 ∷ 1 ∷ []) (0 ∷ 0 ∷ []) (0 ∷ 0 ∷ []) (0 ∷ 0 ∷ [])) (255 ∷ []) (from 5 9)
    ∷ once (net (0 ∷ 0 ∷ 2 ∷ 1 ∷ []) (0 ∷ 0 ∷ 0 ∷ 2 ∷ 1 ∷ 1 ∷ []) (1 ∷ 1 ∷ 2 ∷ 2 ∷ 0 ∷ 0 ∷ []) (0 ∷ 0 ∷ 2 ∷ 0 ∷ 1 ∷ 0 ∷ []) (2 ∷ 3 ∷ 1 ∷ 1 ∷ 1 ∷ 0 ∷ [])) (1 ∷ 0 ∷ 2 ∷ 2 ∷ []) (from 6 30)
    -- unit runs
    ∷ unit (net (1 ∷ 2 ∷ 1 ∷ 2 ∷ 4 ∷ []) (1 ∷ 0 ∷ 2 ∷ 0 ∷ []) (1 ∷ 0 ∷ 2 ∷ 2 ∷ []) (4 ∷ 0 ∷ 1 ∷ 3 ∷ []) (0 ∷ 2 ∷ 0 ∷ 3 ∷ [])) (0 ∷ 0 ∷ 0 ∷ 0 ∷ 2 ∷ []) (changes [] []) 2 (from 7 30)
    ∷ unit (net (0 ∷ 0 ∷ []) (0 ∷ []) (0 ∷ 1 ∷ []) (1 ∷ 1 ∷ []) (0 ∷ 0 ∷ [])) (2 ∷ 2 ∷ []) (changes [] []) 0 (from 7 12)
    ∷ unit (net (2 ∷ 0 ∷ 4 ∷ 0 ∷ 3 ∷ 1 ∷ []) (0 ∷ 0 ∷ 0 ∷ []) (5 ∷ 3 ∷ 3 ∷ []) (0 ∷ 3 ∷ 2 ∷ []) (5 ∷ 1 ∷ 0 ∷ [])) (0 ∷ 2 ∷ 2 ∷ 0 ∷ 0 ∷ 1 ∷ []) (changes (4 ∷ 0 ∷ []) (2 ∷ 0 ∷ [])) 3 (from 2 30)
    ∷ unit (net (4 ∷ 0 ∷ 4 ∷ 2 ∷ 0 ∷ 0 ∷ []) (1 ∷ 2 ∷ 2 ∷ 0 ∷ 1 ∷ 0 ∷ []) (3 ∷ 1 ∷ 1 ∷ 1 ∷ 1 ∷ 4 ∷ []) (1 ∷ 3 ∷ 5 ∷ 3 ∷ 3 ∷ 1 ∷ []) (1 ∷ 4 ∷ 0 ∷ 1 ∷ 4 ∷ 0 ∷ [])) (1 ∷ 1 ∷ 0 ∷ 1 ∷ 0 ∷ 2 ∷ []) (changes (0 ∷ 2 ∷ []) (2 ∷ 0 ∷ [])) 2 (from 3 38)
    ∷ unit (net [] (0 ∷ 0 ∷ []) (0 ∷ []) (0 ∷ []) (0 ∷ [])) [] (changes [] []) 10000 (from 7 8)
    ∷ unit (net (2 ∷ 0 ∷ 0 ∷ 1 ∷ []) (2 ∷ 1 ∷ 1 ∷ []) (3 ∷ 2 ∷ 3 ∷ []) (3 ∷ 0 ∷ 2 ∷ []) (0 ∷ 2 ∷ 3 ∷ [])) (0 ∷ 2 ∷ 2 ∷ 2 ∷ []) (changes [] []) 3 (from 4 24)
    ∷ unit (net (4 ∷ 0 ∷ 0 ∷ 5 ∷ []) (1 ∷ []) (3 ∷ []) (2 ∷ []) (1 ∷ [])) (0 ∷ 2 ∷ 2 ∷ 2 ∷ []) (changes (0 ∷ []) (0 ∷ [])) 10000 []
    ∷ unit (net (2 ∷ 0 ∷ 0 ∷ 0 ∷ []) [] [] [] []) (1 ∷ 1 ∷ 2 ∷ 2 ∷ []) (changes (0 ∷ []) (2 ∷ [])) 10001 (from 2 18)
    ∷ unit (net (0 ∷ 1 ∷ 0 ∷ 1 ∷ 0 ∷ 1 ∷ []) (0 ∷ 0 ∷ 1 ∷ 0 ∷ 0 ∷ []) (4 ∷ 1 ∷ 2 ∷ 3 ∷ 5 ∷ []) (1 ∷ 3 ∷ 5 ∷ 4 ∷ 0 ∷ []) (4 ∷ 3 ∷ 1 ∷ 4 ∷ 5 ∷ [])) (2 ∷ 0 ∷ 0 ∷ 1 ∷ 2 ∷ 0 ∷ []) (changes [] []) 0 (from 6 35)
    ∷ unit (net (0 ∷ 1 ∷ 3 ∷ []) (0 ∷ 0 ∷ 1 ∷ 0 ∷ 0 ∷ []) (1 ∷ 0 ∷ 2 ∷ 2 ∷ 2 ∷ []) (1 ∷ 0 ∷ 2 ∷ 1 ∷ 1 ∷ []) (2 ∷ 1 ∷ 2 ∷ 2 ∷ 2 ∷ [])) (2 ∷ 1 ∷ 1 ∷ []) (changes (2 ∷ []) (0 ∷ [])) 3 (from 4 22)
    ∷ unit (net (255 ∷ []) (0 ∷ 0 ∷ []) (0 ∷ 0 ∷ []) (0 ∷ 0 ∷ []) (0 ∷ 0 ∷ [])) (2 ∷ []) (changes (0 ∷ []) (1 ∷ [])) 0 (from 2 8)
    ∷ unit (net (1 ∷ 2 ∷ 0 ∷ 2 ∷ 0 ∷ []) (0 ∷ 0 ∷ 2 ∷ 0 ∷ []) (3 ∷ 2 ∷ 2 ∷ 4 ∷ []) (2 ∷ 3 ∷ 4 ∷ 1 ∷ []) (4 ∷ 3 ∷ 2 ∷ 3 ∷ [])) (0 ∷ 0 ∷ 2 ∷ 0 ∷ 1 ∷ []) (changes (3 ∷ 1 ∷ []) (2 ∷ 2 ∷ [])) 1 (from 4 29)
    ∷ unit (net (2 ∷ []) (3 ∷ 0 ∷ 1 ∷ 3 ∷ 0 ∷ 0 ∷ []) (0 ∷ 0 ∷ 0 ∷ 0 ∷ 0 ∷ 0 ∷ []) (0 ∷ 0 ∷ 0 ∷ 0 ∷ 0 ∷ 0 ∷ []) (0 ∷ 0 ∷ 0 ∷ 0 ∷ 0 ∷ 0 ∷ [])) (2 ∷ []) (changes (0 ∷ []) (1 ∷ [])) 0 (from 3 18)
    ∷ unit (net (0 ∷ 0 ∷ 0 ∷ 2 ∷ []) (0 ∷ 0 ∷ 2 ∷ 1 ∷ []) (0 ∷ 1 ∷ 3 ∷ 1 ∷ []) (1 ∷ 3 ∷ 3 ∷ 0 ∷ []) (1 ∷ 1 ∷ 2 ∷ 2 ∷ [])) (1 ∷ 2 ∷ 2 ∷ 2 ∷ []) (changes (3 ∷ []) (1 ∷ [])) 3 (from 7 26)
    ∷ unit (net (0 ∷ 2 ∷ []) (1 ∷ 2 ∷ 0 ∷ 0 ∷ 0 ∷ 0 ∷ []) (0 ∷ 1 ∷ 1 ∷ 1 ∷ 0 ∷ 65535 ∷ []) (0 ∷ 0 ∷ 1 ∷ 0 ∷ 0 ∷ 1 ∷ []) (1 ∷ 1 ∷ 0 ∷ 1 ∷ 0 ∷ 1 ∷ [])) (0 ∷ 2 ∷ []) (changes (1 ∷ []) (2 ∷ [])) 0 (from 7 20)
    ∷ unit (net (2 ∷ 4 ∷ 4 ∷ 0 ∷ 1 ∷ []) (0 ∷ 1 ∷ 0 ∷ 0 ∷ 2 ∷ []) (0 ∷ 0 ∷ 0 ∷ 2 ∷ 3 ∷ []) (1 ∷ 3 ∷ 1 ∷ 2 ∷ 2 ∷ []) (4 ∷ 1 ∷ 3 ∷ 0 ∷ 4 ∷ [])) (1 ∷ 0 ∷ 1 ∷ 1 ∷ 2 ∷ []) (changes (1 ∷ 0 ∷ []) (1 ∷ 2 ∷ [])) 2 (from 6 31)
    ∷ unit (net (0 ∷ 0 ∷ 2 ∷ 1 ∷ 2 ∷ []) (1 ∷ 1 ∷ 2 ∷ []) (0 ∷ 3 ∷ 4 ∷ []) (2 ∷ 1 ∷ 0 ∷ []) (4 ∷ 0 ∷ 0 ∷ [])) (2 ∷ 3 ∷ 0 ∷ 2 ∷ 3 ∷ []) (changes [] []) 0 (from 5 28)
    ∷ unit (net (2 ∷ 1 ∷ 2 ∷ 0 ∷ 1 ∷ []) (2 ∷ 0 ∷ 1 ∷ 2 ∷ 0 ∷ 1 ∷ []) (0 ∷ 3 ∷ 1 ∷ 1 ∷ 4 ∷ 4 ∷ []) (0 ∷ 3 ∷ 3 ∷ 3 ∷ 4 ∷ 1 ∷ []) (3 ∷ 2 ∷ 4 ∷ 3 ∷ 2 ∷ 2 ∷ [])) (1 ∷ 1 ∷ 0 ∷ 1 ∷ 1 ∷ []) (changes (0 ∷ []) (2 ∷ [])) 3 (from 9 33)
    ∷ unit (net (0 ∷ 4 ∷ 0 ∷ 4 ∷ []) (0 ∷ 0 ∷ []) (1 ∷ 1 ∷ []) (3 ∷ 0 ∷ []) (3 ∷ 0 ∷ [])) (0 ∷ 1 ∷ 2 ∷ 1 ∷ []) (changes (0 ∷ []) (0 ∷ [])) 3 (from 8 20)
    ∷ unit (net (0 ∷ 1 ∷ 0 ∷ 2 ∷ 0 ∷ 1 ∷ []) (0 ∷ 1 ∷ []) (1 ∷ 3 ∷ []) (0 ∷ 2 ∷ []) (5 ∷ 4 ∷ [])) (2 ∷ 2 ∷ 2 ∷ 0 ∷ 2 ∷ 2 ∷ []) (changes (3 ∷ []) (0 ∷ [])) 3 (from 7 30)
    ∷ unit (net (0 ∷ 4 ∷ []) (255 ∷ 2 ∷ 3 ∷ 0 ∷ 2 ∷ []) (0 ∷ 0 ∷ 1 ∷ 0 ∷ 0 ∷ []) (1 ∷ 1 ∷ 0 ∷ 0 ∷ 0 ∷ []) (0 ∷ 1 ∷ 1 ∷ 0 ∷ 1 ∷ [])) (2 ∷ 0 ∷ []) (changes (1 ∷ []) (255 ∷ [])) 1 (from 5 19)
    ∷ unit (net (0 ∷ 0 ∷ 2 ∷ []) (0 ∷ 0 ∷ []) (2 ∷ 2 ∷ []) (2 ∷ 2 ∷ []) (1 ∷ 2 ∷ [])) (1 ∷ 0 ∷ 2 ∷ []) (changes (2 ∷ 2 ∷ []) (0 ∷ 2 ∷ [])) 1 (from 1 17)
    ∷ unit (net (1 ∷ 0 ∷ []) (0 ∷ 0 ∷ 1 ∷ []) (1 ∷ 0 ∷ 1 ∷ []) (0 ∷ 1 ∷ 0 ∷ []) (1 ∷ 1 ∷ 1 ∷ [])) (2 ∷ 2 ∷ []) (changes [] []) 1 (from 1 16)
    -- ternary runs
    ∷ ternary (net (0 ∷ 0 ∷ 3 ∷ 2 ∷ []) (0 ∷ 0 ∷ 0 ∷ 0 ∷ 0 ∷ 0 ∷ []) (3 ∷ 3 ∷ 2 ∷ 1 ∷ 1 ∷ 3 ∷ []) (3 ∷ 0 ∷ 2 ∷ 2 ∷ 2 ∷ 0 ∷ []) (2 ∷ 0 ∷ 0 ∷ 2 ∷ 2 ∷ 2 ∷ [])) (1 ∷ 2 ∷ 1 ∷ 0 ∷ []) (changes (3 ∷ 2 ∷ []) (0 ∷ 0 ∷ [])) (from 6 28)
    ∷ ternary (net (2 ∷ 4 ∷ 2 ∷ 0 ∷ 1 ∷ 1 ∷ []) (1 ∷ 2 ∷ 2 ∷ 1 ∷ 2 ∷ []) (0 ∷ 2 ∷ 2 ∷ 1 ∷ 5 ∷ []) (0 ∷ 5 ∷ 5 ∷ 2 ∷ 0 ∷ []) (2 ∷ 0 ∷ 5 ∷ 3 ∷ 1 ∷ [])) (2 ∷ 1 ∷ 1 ∷ 0 ∷ 1 ∷ 2 ∷ []) (changes (0 ∷ 1 ∷ 2 ∷ []) (0 ∷ 2 ∷ 1 ∷ [])) (from 7 35)
    ∷ ternary (net (0 ∷ 3 ∷ 4 ∷ 1 ∷ 1 ∷ 3 ∷ []) (3 ∷ 3 ∷ []) (2 ∷ 4 ∷ []) (0 ∷ []) (0 ∷ 2 ∷ [])) (2 ∷ 0 ∷ 1 ∷ 1 ∷ 1 ∷ 0 ∷ []) (changes (1 ∷ 5 ∷ []) (2 ∷ 0 ∷ [])) (from 5 29)
    ∷ ternary (net (1 ∷ 4 ∷ 0 ∷ 1 ∷ []) (0 ∷ 0 ∷ 0 ∷ 0 ∷ 0 ∷ []) (0 ∷ 2 ∷ 1 ∷ 3 ∷ 2 ∷ []) (1 ∷ 1 ∷ 0 ∷ 3 ∷ 1 ∷ []) (0 ∷ 1 ∷ 1 ∷ 0 ∷ 0 ∷ [])) (2 ∷ 2 ∷ 1 ∷ 2 ∷ []) (changes (1 ∷ []) (1 ∷ [])) (from 2 26)
    ∷ ternary (net (2 ∷ 0 ∷ 4 ∷ []) (1 ∷ 0 ∷ 0 ∷ 1 ∷ 0 ∷ 1 ∷ []) (0 ∷ 2 ∷ 0 ∷ 1 ∷ 0 ∷ 1 ∷ []) (0 ∷ 1 ∷ 1 ∷ 2 ∷ 0 ∷ 0 ∷ []) (0 ∷ 0 ∷ 0 ∷ 2 ∷ 0 ∷ 0 ∷ [])) (2 ∷ 0 ∷ 1 ∷ []) (changes (0 ∷ 2 ∷ []) (0 ∷ 0 ∷ [])) (from 8 26)
    ∷ ternary (net [] (2 ∷ 2 ∷ 0 ∷ 0 ∷ 0 ∷ 1 ∷ []) (4 ∷ 5 ∷ 1 ∷ 4 ∷ 0 ∷ 2 ∷ []) (4 ∷ 3 ∷ 5 ∷ 5 ∷ 0 ∷ 4 ∷ []) (3 ∷ 4 ∷ 2 ∷ 3 ∷ 3 ∷ 1 ∷ [])) [] (changes (2 ∷ []) (2 ∷ [])) (from 7 37)
    ∷ ternary (net (2 ∷ 0 ∷ []) (0 ∷ 0 ∷ 2 ∷ 0 ∷ []) (1 ∷ 0 ∷ 0 ∷ 0 ∷ []) (1 ∷ 1 ∷ 1 ∷ 0 ∷ []) (1 ∷ 0 ∷ 1 ∷ 1 ∷ [])) (0 ∷ 1 ∷ []) (changes (0 ∷ []) (2 ∷ [])) (from 1 16)
    ∷ ternary (net (2 ∷ 0 ∷ 0 ∷ 0 ∷ 1 ∷ []) [] [] [] []) (1 ∷ 0 ∷ 0 ∷ 1 ∷ 2 ∷ []) (changes (0 ∷ []) (0 ∷ [])) (from 9 19)
    ∷ ternary (net (4 ∷ 2 ∷ 1 ∷ 0 ∷ 3 ∷ []) (1 ∷ 0 ∷ 2 ∷ 0 ∷ 2 ∷ []) (3 ∷ 3 ∷ 4 ∷ 4 ∷ 4 ∷ []) (2 ∷ 4 ∷ 3 ∷ 4 ∷ 2 ∷ []) (3 ∷ 0 ∷ 1 ∷ 0 ∷ 2 ∷ [])) (2 ∷ 2 ∷ 2 ∷ 2 ∷ 1 ∷ []) (changes (1 ∷ []) (0 ∷ [])) (from 6 30)
    ∷ ternary (net (0 ∷ 2 ∷ 2 ∷ []) (0 ∷ 0 ∷ 0 ∷ []) (2 ∷ 1 ∷ 0 ∷ []) (0 ∷ 2 ∷ 0 ∷ []) (2 ∷ 0 ∷ 0 ∷ [])) (2 ∷ 2 ∷ 0 ∷ []) (changes (1 ∷ 2 ∷ []) (0 ∷ 1 ∷ [])) (from 5 19)
    ∷ ternary (net (1 ∷ 2 ∷ 255 ∷ 0 ∷ 3 ∷ 5 ∷ []) [] [] [] []) (1 ∷ 0 ∷ 2 ∷ 0 ∷ 0 ∷ 1 ∷ []) (changes (4 ∷ []) (1 ∷ [])) (from 2 24)
    ∷ ternary (net (0 ∷ 0 ∷ 2 ∷ 1 ∷ []) (2 ∷ 0 ∷ 2 ∷ 0 ∷ []) (3 ∷ 1 ∷ 2 ∷ 3 ∷ []) (0 ∷ 1 ∷ 2 ∷ 0 ∷ []) (0 ∷ 2 ∷ 3 ∷ 1 ∷ [])) (0 ∷ 2 ∷ 0 ∷ 0 ∷ []) (changes (2 ∷ []) (1 ∷ [])) (from 7 25)
    ∷ ternary (net (0 ∷ 4 ∷ 0 ∷ []) (0 ∷ 0 ∷ 2 ∷ 0 ∷ []) (1 ∷ 1 ∷ 0 ∷ 2 ∷ []) (0 ∷ 2 ∷ 2 ∷ 0 ∷ []) (1 ∷ 2 ∷ 1 ∷ 2 ∷ [])) (0 ∷ 2 ∷ 1 ∷ []) (changes (1 ∷ []) (1 ∷ [])) (from 5 20)
    ∷ ternary (net (0 ∷ 0 ∷ 0 ∷ []) (1 ∷ 2 ∷ 3 ∷ []) (1 ∷ 0 ∷ 1 ∷ []) (1 ∷ 0 ∷ 0 ∷ []) (1 ∷ 2 ∷ 0 ∷ [])) (0 ∷ 2 ∷ 2 ∷ []) (changes [] []) (from 4 20)
    ∷ ternary (net (0 ∷ 0 ∷ 0 ∷ 1 ∷ 2 ∷ 1 ∷ []) (1 ∷ 0 ∷ 0 ∷ 0 ∷ 0 ∷ []) (1 ∷ 5 ∷ 5 ∷ 2 ∷ 0 ∷ []) (4 ∷ 5 ∷ 0 ∷ 4 ∷ 3 ∷ []) (3 ∷ 4 ∷ 1 ∷ 3 ∷ 4 ∷ [])) (0 ∷ 0 ∷ 1 ∷ 2 ∷ 2 ∷ 2 ∷ []) (changes (4 ∷ []) (0 ∷ [])) (from 1 36)
    ∷ ternary (net (0 ∷ 4 ∷ 1 ∷ 0 ∷ []) (2 ∷ 0 ∷ []) (2 ∷ 0 ∷ []) (0 ∷ 0 ∷ []) (1 ∷ 1 ∷ [])) (0 ∷ 0 ∷ 1 ∷ 0 ∷ []) (changes (1 ∷ []) (1 ∷ [])) (from 1 22)
    ∷ ternary (net (0 ∷ 2 ∷ 4 ∷ 0 ∷ 1 ∷ []) (0 ∷ 1 ∷ []) (3 ∷ 3 ∷ []) (3 ∷ 2 ∷ []) (4 ∷ 65535 ∷ [])) (0 ∷ 0 ∷ 1 ∷ 1 ∷ 1 ∷ []) (changes (1 ∷ 2 ∷ []) (1 ∷ 1 ∷ [])) (from 1 23)
    ∷ ternary (net (0 ∷ 4 ∷ 2 ∷ 0 ∷ 1 ∷ 0 ∷ []) (1 ∷ 0 ∷ 0 ∷ []) (2 ∷ 1 ∷ 0 ∷ []) (3 ∷ 5 ∷ 5 ∷ []) (2 ∷ 5 ∷ 5 ∷ [])) (1 ∷ 0 ∷ 0 ∷ 0 ∷ 1 ∷ 1 ∷ []) (changes (2 ∷ 1 ∷ []) (2 ∷ 2 ∷ [])) (from 9 31)
    ∷ ternary (net (1 ∷ 2 ∷ 1 ∷ 4 ∷ []) (2 ∷ 0 ∷ 2 ∷ 0 ∷ []) (0 ∷ 3 ∷ 1 ∷ 1 ∷ []) (1 ∷ 2 ∷ 3 ∷ 1 ∷ []) (2 ∷ 3 ∷ 3 ∷ 1 ∷ [])) (2 ∷ 1 ∷ 3 ∷ 1 ∷ []) (changes (3 ∷ []) (0 ∷ [])) (from 3 26)
    ∷ ternary (net (1 ∷ 0 ∷ 3 ∷ 1 ∷ 0 ∷ 1 ∷ []) (0 ∷ 2 ∷ 2 ∷ 0 ∷ []) (3 ∷ 3 ∷ 3 ∷ 4 ∷ []) (2 ∷ 2 ∷ 3 ∷ 3 ∷ []) (0 ∷ 3 ∷ 3 ∷ 2 ∷ [])) (2 ∷ 2 ∷ 2 ∷ 2 ∷ 1 ∷ 1 ∷ []) (changes (2 ∷ []) (0 ∷ [])) (from 3 34)
    ∷ ternary (net (4 ∷ []) (0 ∷ 2 ∷ 2 ∷ 2 ∷ 0 ∷ []) (0 ∷ 0 ∷ 0 ∷ 0 ∷ 0 ∷ []) (0 ∷ 0 ∷ 0 ∷ 0 ∷ 0 ∷ []) (0 ∷ 0 ∷ 0 ∷ 0 ∷ 0 ∷ [])) (1 ∷ []) (changes (65535 ∷ []) (0 ∷ [])) (from 9 14)
    ∷ ternary (net (2 ∷ 4 ∷ 3 ∷ 0 ∷ 1 ∷ []) (1 ∷ 0 ∷ []) (1 ∷ 3 ∷ []) (2 ∷ 3 ∷ []) (1 ∷ 1 ∷ [])) (1 ∷ 0 ∷ 2 ∷ 2 ∷ 2 ∷ []) (changes (0 ∷ 1 ∷ []) (3 ∷ 255 ∷ [])) (from 5 24)
    ∷ ternary (net (0 ∷ 3 ∷ 1 ∷ 2 ∷ 3 ∷ []) (1 ∷ 0 ∷ 0 ∷ 0 ∷ 0 ∷ 0 ∷ []) (2 ∷ 4 ∷ 1 ∷ 4 ∷ 0 ∷ 0 ∷ []) (2 ∷ 0 ∷ 4 ∷ 2 ∷ 3 ∷ 1 ∷ []) (3 ∷ 3 ∷ 0 ∷ 2 ∷ 3 ∷ 1 ∷ [])) (1 ∷ 1 ∷ 1 ∷ 0 ∷ 2 ∷ []) (changes (4 ∷ []) (2 ∷ [])) (from 9 33)
    ∷ ternary (net (2 ∷ []) (1 ∷ 2 ∷ 0 ∷ 2 ∷ 0 ∷ []) (0 ∷ 0 ∷ 0 ∷ 0 ∷ 0 ∷ []) (0 ∷ 0 ∷ 0 ∷ 0 ∷ 0 ∷ []) (0 ∷ 0 ∷ 0 ∷ 0 ∷ 0 ∷ [])) (2 ∷ []) (changes (0 ∷ 0 ∷ []) (0 ∷ 0 ∷ [])) (from 8 14)
    ∷ ternary (net (3 ∷ 2 ∷ 2 ∷ 0 ∷ []) (1 ∷ 2 ∷ 0 ∷ 0 ∷ 0 ∷ 2 ∷ []) (3 ∷ 3 ∷ 2 ∷ 1 ∷ 2 ∷ 2 ∷ []) (0 ∷ 2 ∷ 1 ∷ 1 ∷ 1 ∷ 1 ∷ []) (0 ∷ 1 ∷ 0 ∷ 2 ∷ 3 ∷ 2 ∷ [])) (1 ∷ 0 ∷ 1 ∷ 0 ∷ []) (changes (0 ∷ 1 ∷ []) (1 ∷ 1 ∷ [])) (from 7 28)
    ∷ []

abbrev found : List (List (List ℕ))
found =
    -- check
    left (1 ∷ 0 ∷ 0 ∷ 0 ∷ []) [] []
    ∷ left (0 ∷ 0 ∷ 0 ∷ 0 ∷ []) [] []
    ∷ left (1 ∷ 0 ∷ 0 ∷ 0 ∷ []) [] []
    ∷ left (3 ∷ 0 ∷ 0 ∷ 0 ∷ []) [] []
    ∷ left (0 ∷ 0 ∷ 0 ∷ 0 ∷ []) [] []
    ∷ left (4 ∷ 2 ∷ 0 ∷ 0 ∷ []) [] []
    ∷ left (4 ∷ 0 ∷ 0 ∷ 0 ∷ []) [] []
    ∷ left (0 ∷ 0 ∷ 0 ∷ 0 ∷ []) [] []
    ∷ left (1 ∷ 0 ∷ 0 ∷ 0 ∷ []) [] []
    -- reset
    ∷ left (1 ∷ 0 ∷ 0 ∷ 0 ∷ []) (2 ∷ 0 ∷ []) []
    ∷ left (1 ∷ 0 ∷ 0 ∷ 0 ∷ []) [] []
    ∷ left (0 ∷ 0 ∷ 0 ∷ 0 ∷ []) (2 ∷ 0 ∷ 2 ∷ 2 ∷ 2 ∷ []) []
    ∷ left (3 ∷ 3 ∷ 0 ∷ 0 ∷ []) (1 ∷ 0 ∷ 1 ∷ 1 ∷ []) []
    ∷ left (0 ∷ 0 ∷ 0 ∷ 0 ∷ []) (1 ∷ 2 ∷ 2 ∷ 2 ∷ 0 ∷ []) []
    ∷ left (0 ∷ 0 ∷ 0 ∷ 0 ∷ []) (2 ∷ 2 ∷ 2 ∷ 1 ∷ 2 ∷ 1 ∷ []) []
    ∷ left (0 ∷ 0 ∷ 0 ∷ 0 ∷ []) (2 ∷ 2 ∷ 1 ∷ 2 ∷ 2 ∷ 0 ∷ []) []
    ∷ left (1 ∷ 0 ∷ 0 ∷ 0 ∷ []) (1 ∷ 0 ∷ []) []
    -- one step
    ∷ left (0 ∷ 1 ∷ 3 ∷ 0 ∷ []) (1 ∷ 1 ∷ 0 ∷ 0 ∷ 1 ∷ 1 ∷ []) (zeros 36 ++ from 38 2)
    ∷ left (1 ∷ 0 ∷ 0 ∷ 0 ∷ []) (1 ∷ 0 ∷ []) (from 2 10)
    ∷ left (1 ∷ 0 ∷ 0 ∷ 0 ∷ []) [] (from 8 18)
    ∷ left (0 ∷ 1 ∷ 2 ∷ 0 ∷ []) (0 ∷ 1 ∷ 1 ∷ 2 ∷ 2 ∷ 0 ∷ []) (zeros 28)
    ∷ left (1 ∷ 0 ∷ 0 ∷ 0 ∷ []) (1 ∷ 0 ∷ 2 ∷ 2 ∷ 2 ∷ []) (from 2 21)
    ∷ left (0 ∷ 3 ∷ 2 ∷ 0 ∷ []) (2 ∷ 0 ∷ 1 ∷ 1 ∷ 2 ∷ 2 ∷ []) (zeros 32 ++ from 34 2)
    ∷ left (3 ∷ 0 ∷ 0 ∷ 0 ∷ []) (1 ∷ 2 ∷ 0 ∷ 1 ∷ 0 ∷ []) (from 8 21)
    ∷ left (4 ∷ 3 ∷ 0 ∷ 0 ∷ []) (0 ∷ []) (from 4 12)
    ∷ left (0 ∷ 2 ∷ 3 ∷ 0 ∷ []) (2 ∷ 2 ∷ 2 ∷ 2 ∷ 2 ∷ 2 ∷ []) (zeros 36 ++ from 37 2)
    ∷ left (4 ∷ 1 ∷ 0 ∷ 0 ∷ []) (0 ∷ 0 ∷ 2 ∷ []) (from 8 24)
    ∷ left (0 ∷ 1 ∷ 3 ∷ 0 ∷ []) (2 ∷ 0 ∷ 0 ∷ 1 ∷ 2 ∷ 0 ∷ []) (zeros 34 ++ from 39 2)
    ∷ left (5 ∷ 0 ∷ 0 ∷ 0 ∷ []) (255 ∷ []) (from 5 9)
    ∷ left (0 ∷ 0 ∷ 3 ∷ 0 ∷ []) (2 ∷ 2 ∷ 2 ∷ 1 ∷ []) (zeros 28 ++ from 34 2)
    -- unit runs
    ∷ left (0 ∷ 0 ∷ 2 ∷ 0 ∷ []) (2 ∷ 0 ∷ 2 ∷ 0 ∷ 2 ∷ []) (zeros 28 ++ from 35 2)
    ∷ left (1 ∷ 0 ∷ 0 ∷ 0 ∷ []) (2 ∷ 2 ∷ []) (from 7 12)
    ∷ left (8 ∷ 5 ∷ 3 ∷ 0 ∷ []) (0 ∷ 2 ∷ 2 ∷ 0 ∷ 2 ∷ 0 ∷ []) (zeros 30)
    ∷ left (0 ∷ 0 ∷ 2 ∷ 0 ∷ []) (2 ∷ 2 ∷ 0 ∷ 1 ∷ 1 ∷ 2 ∷ []) (zeros 36 ++ from 39 2)
    ∷ left (1 ∷ 0 ∷ 0 ∷ 0 ∷ []) [] (from 7 8)
    ∷ left (0 ∷ 0 ∷ 2 ∷ 0 ∷ []) (0 ∷ 2 ∷ 0 ∷ 0 ∷ []) (zeros 22 ++ from 26 2)
    ∷ left (1 ∷ 0 ∷ 0 ∷ 0 ∷ []) (0 ∷ 2 ∷ 2 ∷ 2 ∷ []) []
    ∷ left (2 ∷ 0 ∷ 0 ∷ 0 ∷ []) (1 ∷ 1 ∷ 2 ∷ 2 ∷ []) (from 2 18)
    ∷ left (0 ∷ 0 ∷ 2 ∷ 0 ∷ []) (1 ∷ 1 ∷ 0 ∷ 1 ∷ 2 ∷ 1 ∷ []) (zeros 34 ++ from 40 1)
    ∷ left (8 ∷ 1 ∷ 3 ∷ 0 ∷ []) (2 ∷ 0 ∷ 0 ∷ []) (zeros 22)
    ∷ left (3 ∷ 0 ∷ 0 ∷ 0 ∷ []) (2 ∷ []) (from 2 8)
    ∷ left (0 ∷ 0 ∷ 1 ∷ 0 ∷ []) (1 ∷ 2 ∷ 2 ∷ 2 ∷ 2 ∷ []) (zeros 28 ++ from 32 1)
    ∷ left (4 ∷ 0 ∷ 0 ∷ 0 ∷ []) (2 ∷ []) (from 3 18)
    ∷ left (0 ∷ 0 ∷ 1 ∷ 0 ∷ []) (1 ∷ 2 ∷ 1 ∷ 1 ∷ []) (zeros 24 ++ from 31 2)
    ∷ left (4 ∷ 5 ∷ 0 ∷ 0 ∷ []) (0 ∷ 2 ∷ []) (from 7 20)
    ∷ left (0 ∷ 0 ∷ 1 ∷ 0 ∷ []) (2 ∷ 1 ∷ 1 ∷ 1 ∷ 1 ∷ []) (zeros 30 ++ from 36 1)
    ∷ left (5 ∷ 1 ∷ 0 ∷ 0 ∷ []) (2 ∷ 3 ∷ 0 ∷ 2 ∷ 3 ∷ []) (from 5 28)
    ∷ left (8 ∷ 1 ∷ 3 ∷ 0 ∷ []) (2 ∷ 1 ∷ 0 ∷ 2 ∷ 2 ∷ []) (zeros 32 ++ from 41 1)
    ∷ left (6 ∷ 0 ∷ 0 ∷ 0 ∷ []) (0 ∷ 1 ∷ 2 ∷ 1 ∷ []) (from 8 20)
    ∷ left (0 ∷ 0 ∷ 2 ∷ 0 ∷ []) (1 ∷ 1 ∷ 2 ∷ 0 ∷ 2 ∷ 1 ∷ []) (zeros 28 ++ from 35 2)
    ∷ left (4 ∷ 0 ∷ 0 ∷ 0 ∷ []) (2 ∷ 0 ∷ []) (from 5 19)
    ∷ left (6 ∷ 1 ∷ 0 ∷ 0 ∷ []) (1 ∷ 0 ∷ 2 ∷ []) (from 1 17)
    ∷ left (0 ∷ 0 ∷ 1 ∷ 0 ∷ []) (1 ∷ 2 ∷ []) (zeros 14 ++ from 15 2)
    -- ternary runs
    ∷ left (0 ∷ 0 ∷ 1 ∷ 0 ∷ []) (2 ∷ 2 ∷ 0 ∷ 0 ∷ []) (zeros 28)
    ∷ left (0 ∷ 0 ∷ 1 ∷ 1 ∷ []) (0 ∷ 2 ∷ 1 ∷ 2 ∷ 1 ∷ 0 ∷ []) (zeros 34 ++ from 41 1)
    ∷ left (1 ∷ 0 ∷ 0 ∷ 0 ∷ []) (2 ∷ 0 ∷ 1 ∷ 1 ∷ 1 ∷ 0 ∷ []) (from 5 29)
    ∷ left (0 ∷ 0 ∷ 0 ∷ 1 ∷ []) (1 ∷ 1 ∷ 1 ∷ 1 ∷ []) (zeros 26)
    ∷ left (7 ∷ 0 ∷ 0 ∷ 0 ∷ []) (2 ∷ 0 ∷ 1 ∷ []) (zeros 24 ++ from 32 2)
    ∷ left (1 ∷ 0 ∷ 0 ∷ 0 ∷ []) [] (from 7 37)
    ∷ left (0 ∷ 0 ∷ 1 ∷ 0 ∷ []) (2 ∷ 2 ∷ []) (zeros 16)
    ∷ left (1 ∷ 0 ∷ 0 ∷ 0 ∷ []) (1 ∷ 0 ∷ 0 ∷ 1 ∷ 2 ∷ []) (from 9 19)
    ∷ left (0 ∷ 0 ∷ 0 ∷ 2 ∷ []) (2 ∷ 0 ∷ 0 ∷ 0 ∷ 1 ∷ []) (zeros 30)
    ∷ left (0 ∷ 0 ∷ 0 ∷ 1 ∷ []) (1 ∷ 0 ∷ 1 ∷ []) (zeros 18 ++ from 23 1)
    ∷ left (3 ∷ 2 ∷ 0 ∷ 0 ∷ []) (1 ∷ 0 ∷ 2 ∷ 0 ∷ 0 ∷ 1 ∷ []) (from 2 24)
    ∷ left (0 ∷ 0 ∷ 2 ∷ 1 ∷ []) (2 ∷ 2 ∷ 1 ∷ 1 ∷ []) (zeros 24 ++ from 31 1)
    ∷ left (7 ∷ 0 ∷ 0 ∷ 0 ∷ []) (0 ∷ 2 ∷ 1 ∷ []) (zeros 20)
    ∷ left (4 ∷ 2 ∷ 0 ∷ 0 ∷ []) (0 ∷ 2 ∷ 2 ∷ []) (from 4 20)
    ∷ left (0 ∷ 0 ∷ 0 ∷ 1 ∷ []) (0 ∷ 0 ∷ 1 ∷ 0 ∷ 0 ∷ 2 ∷ []) (zeros 34 ++ from 35 2)
    ∷ left (0 ∷ 0 ∷ 1 ∷ 1 ∷ []) (1 ∷ 1 ∷ 1 ∷ 0 ∷ []) (zeros 20 ++ from 21 2)
    ∷ left (1 ∷ 0 ∷ 0 ∷ 0 ∷ []) (0 ∷ 0 ∷ 1 ∷ 1 ∷ 1 ∷ []) (from 1 23)
    ∷ left (0 ∷ 0 ∷ 1 ∷ 0 ∷ []) (1 ∷ 2 ∷ 2 ∷ 2 ∷ 1 ∷ 1 ∷ []) (zeros 30 ++ from 39 1)
    ∷ left (5 ∷ 2 ∷ 0 ∷ 0 ∷ []) (2 ∷ 1 ∷ 3 ∷ 1 ∷ []) (from 3 26)
    ∷ left (0 ∷ 0 ∷ 0 ∷ 2 ∷ []) (1 ∷ 2 ∷ 0 ∷ 0 ∷ 1 ∷ 1 ∷ []) (zeros 32 ++ from 35 2)
    ∷ left (6 ∷ 0 ∷ 0 ∷ 0 ∷ []) (1 ∷ []) (from 9 14)
    ∷ left (6 ∷ 0 ∷ 0 ∷ 0 ∷ []) (1 ∷ 0 ∷ 2 ∷ 2 ∷ 2 ∷ []) (from 5 24)
    ∷ left (7 ∷ 0 ∷ 0 ∷ 0 ∷ []) (1 ∷ 1 ∷ 1 ∷ 0 ∷ 2 ∷ []) (zeros 32 ++ from 41 1)
    ∷ left (6 ∷ 1 ∷ 0 ∷ 0 ∷ []) (2 ∷ []) (from 8 14)
    ∷ left (0 ∷ 0 ∷ 1 ∷ 1 ∷ []) (1 ∷ 1 ∷ 1 ∷ 1 ∷ []) (zeros 28)
    ∷ []

pub samples : ran ≡ found
unfolding stands linked spread joined strength set_state new step raised lowered unit_steps first_half second_half wire_tests change_tests check_sizes check_rules reset_sizes reset_rules step_sizes step_rules run_sizes run_rules unit_rules ternary_rules altered first_changed reset_states cleared check_answer reset_outcome step_outcome unit_outcome ternary_outcome
samples = refl

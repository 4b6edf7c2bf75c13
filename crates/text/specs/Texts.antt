-- Small texts through the definitions: every kind of line, both sides of the bounds, the pullup rule and what comes near to it. Assumes nothing.
use Rattle.std.specs.Prelude.{ℕ, ◌≡◌, refl, List, [], ◌∷◌, ◌++◌, replicate}
use Rattle.model.specs.Answer.{row}
use Rattle.model.specs.Net.{net_of}
use Rattle.model.specs.Rules.{check_sizes}
use Rattle.text.specs.Bytes.{bytes, part, next}
use Rattle.text.specs.Lines.{starts_from, line_starts, field, opening, names_from, line_by, line_of}
use Rattle.text.specs.Netlist.{number_of, kind_of, named, pulls, joined, device, added, offends, read_on, reading}
use Rattle.text.specs.Reading.{Read, over, read_into, read_sizes, read_outcome, full_reading, name_part, Listed, list_into, names_outcome}
use Rattle.text.specs.declared.Span.{Span}

-- reading into tables of n nodes and t transistors, filled with 7, 8, 9, 10 and 11: the answer, and what is left in each
abbrev told : Read → List (List ℕ)
told r = row r.answer ∷ r.tables.kinds ∷ r.tables.types ∷ r.tables.gates ∷ r.tables.sources ∷ r.tables.drains ∷ []

abbrev read : ℕ → ℕ → List ℕ → List (List ℕ)
read n t text = told (read_outcome text (net_of (replicate n 7) (replicate t 8) (replicate t 9) (replicate t 10) (replicate t 11)))

-- the names into tables of n entries, filled with 12 and 13; the name of node k as a part
abbrev shown : Listed → List (List ℕ)
shown l = row l.answer ∷ l.starts ∷ l.sizes ∷ []

abbrev names : ℕ → List ℕ → List (List ℕ)
names n text = shown (names_outcome text (replicate n 12) (replicate n 13))

abbrev span_of : Span → List (List ℕ)
span_of s = (s.start ∷ s.size ∷ []) ∷ []

abbrev name : ℕ → List ℕ → List (List ℕ)
name k text = span_of (name_part text k)

-- what a refusal leaves
abbrev kept : ℕ → ℕ → List ℕ → List (List ℕ)
kept n t answer = answer ∷ replicate n 7 ∷ replicate t 8 ∷ replicate t 9 ∷ replicate t 10 ∷ replicate t 11 ∷ []

-- an inverter among lines to skip, with tabs, blanks before and behind, a comment right behind its sign, fields that go unread, and a load
abbrev INV : List ℕ
INV = bytes "|nmos\n\n \t\nN in 1\ne  in\tGnd out 2\n d out out Vdd \nC a b 3\nR a\nA\n"

abbrev LONG : List ℕ
LONG = bytes "123456789a123456789b123456789c123456789d123456789e123456789f123"

abbrev found : List (List (List ℕ))
found =
    read 5 2 INV
    ∷ names 4 INV
    ∷ names 3 INV
    ∷ name 3 INV
    ∷ name 4 INV
    -- without a line feed at its end; a first field that is none, or a type in a capital; a line of two names at the end of the text
    ∷ read 3 1 (bytes "n a b c")
    ∷ read 3 2 (bytes "p a b c\nNN a b c\n")
    ∷ read 3 2 (bytes "E a b c\n")
    ∷ read 3 2 (bytes "| x\n\ne a b c\ne a b")
    ∷ name 0 (bytes "e a b c\nbad")
    -- a carriage return is part of a name, and makes another of it
    ∷ read 4 2 (bytes "e a b c" ++ 13 ∷ bytes "\ne a b c\n")
    -- a name of 63 bytes, and one of 64
    ∷ read 3 1 (bytes "e a b " ++ LONG)
    ∷ read 3 1 (bytes "e a b " ++ LONG ++ bytes "4\n")
    -- tables just full, one node short, one transistor short, and with no room for nodes at all
    ∷ read 3 1 (bytes "e a b c\n")
    ∷ read 2 1 (bytes "e a b c\n")
    ∷ read 3 0 (bytes "e a b c\n")
    ∷ read 0 0 (bytes "x")
    -- no device
    ∷ read 1 0 []
    ∷ names 0 (bytes "| nothing")
    -- the first appearance counts, in the order gate, source, drain
    ∷ read 4 3 (bytes "e c b a\np a c b\nd b a d\n")
    ∷ names 4 (bytes "e c b a\np a c b\nd b a d\n")
    -- a load in both orders of its ends; of a node that was normal; and once more
    ∷ read 4 1 (bytes "d a a Vdd\nd b Vdd b\ne a b Gnd\n")
    ∷ read 3 1 (bytes "n b a b\nd a Vdd a\nd a a Vdd\n")
    -- no loads: the gate at Vdd, both ends at Vdd, the end at Gnd, the gate elsewhere, no end at Vdd, not a d device, vdd
    ∷ read 4 5 (bytes "d Vdd Vdd a\nd a Vdd Vdd\nd Gnd Gnd Vdd\nd b a Vdd\nd a a b\n")
    ∷ read 3 3 (bytes "e a a Vdd\np a Vdd a\nd a a vdd\n")
    ∷ []

abbrev wanted : List (List (List ℕ))
wanted =
    ((0 ∷ 0 ∷ 4 ∷ 1 ∷ []) ∷ (0 ∷ 3 ∷ 1 ∷ 4 ∷ 7 ∷ []) ∷ (0 ∷ 8 ∷ []) ∷ (0 ∷ 9 ∷ []) ∷ (1 ∷ 10 ∷ []) ∷ (2 ∷ 11 ∷ []) ∷ [])
    ∷ ((0 ∷ 0 ∷ 4 ∷ 1 ∷ []) ∷ (20 ∷ 23 ∷ 27 ∷ 44 ∷ []) ∷ (2 ∷ 3 ∷ 3 ∷ 3 ∷ []) ∷ [])
    ∷ ((1 ∷ 0 ∷ 0 ∷ 0 ∷ []) ∷ (12 ∷ 12 ∷ 12 ∷ []) ∷ (13 ∷ 13 ∷ 13 ∷ []) ∷ [])
    ∷ ((44 ∷ 3 ∷ []) ∷ [])
    ∷ ((0 ∷ 0 ∷ []) ∷ [])
    ∷ ((0 ∷ 0 ∷ 3 ∷ 1 ∷ []) ∷ (0 ∷ 0 ∷ 0 ∷ []) ∷ (0 ∷ []) ∷ (0 ∷ []) ∷ (1 ∷ []) ∷ (2 ∷ []) ∷ [])
    ∷ kept 3 2 (9 ∷ 1 ∷ 0 ∷ 0 ∷ [])
    ∷ kept 3 2 (9 ∷ 0 ∷ 0 ∷ 0 ∷ [])
    ∷ kept 3 2 (9 ∷ 3 ∷ 0 ∷ 0 ∷ [])
    ∷ ((0 ∷ 0 ∷ []) ∷ [])
    ∷ ((0 ∷ 0 ∷ 4 ∷ 2 ∷ []) ∷ (0 ∷ 0 ∷ 0 ∷ 0 ∷ []) ∷ (0 ∷ 0 ∷ []) ∷ (0 ∷ 0 ∷ []) ∷ (1 ∷ 1 ∷ []) ∷ (2 ∷ 3 ∷ []) ∷ [])
    ∷ ((0 ∷ 0 ∷ 3 ∷ 1 ∷ []) ∷ (0 ∷ 0 ∷ 0 ∷ []) ∷ (0 ∷ []) ∷ (0 ∷ []) ∷ (1 ∷ []) ∷ (2 ∷ []) ∷ [])
    ∷ kept 3 1 (9 ∷ 0 ∷ 0 ∷ 0 ∷ [])
    ∷ ((0 ∷ 0 ∷ 3 ∷ 1 ∷ []) ∷ (0 ∷ 0 ∷ 0 ∷ []) ∷ (0 ∷ []) ∷ (0 ∷ []) ∷ (1 ∷ []) ∷ (2 ∷ []) ∷ [])
    ∷ kept 2 1 (9 ∷ 0 ∷ 0 ∷ 0 ∷ [])
    ∷ kept 3 0 (9 ∷ 0 ∷ 0 ∷ 0 ∷ [])
    ∷ kept 0 0 (1 ∷ 0 ∷ 0 ∷ 0 ∷ [])
    ∷ kept 1 0 (0 ∷ 0 ∷ 0 ∷ 0 ∷ [])
    ∷ ((0 ∷ 0 ∷ 0 ∷ 0 ∷ []) ∷ [] ∷ [] ∷ [])
    ∷ ((0 ∷ 0 ∷ 4 ∷ 3 ∷ []) ∷ (0 ∷ 0 ∷ 0 ∷ 0 ∷ []) ∷ (0 ∷ 1 ∷ 2 ∷ []) ∷ (0 ∷ 2 ∷ 1 ∷ []) ∷ (1 ∷ 0 ∷ 2 ∷ []) ∷ (2 ∷ 1 ∷ 3 ∷ []) ∷ [])
    ∷ ((0 ∷ 0 ∷ 4 ∷ 3 ∷ []) ∷ (2 ∷ 4 ∷ 6 ∷ 22 ∷ []) ∷ (1 ∷ 1 ∷ 1 ∷ 1 ∷ []) ∷ [])
    ∷ ((0 ∷ 0 ∷ 4 ∷ 1 ∷ []) ∷ (1 ∷ 4 ∷ 1 ∷ 3 ∷ []) ∷ (0 ∷ []) ∷ (0 ∷ []) ∷ (2 ∷ []) ∷ (3 ∷ []) ∷ [])
    ∷ ((0 ∷ 0 ∷ 3 ∷ 1 ∷ []) ∷ (0 ∷ 1 ∷ 4 ∷ []) ∷ (0 ∷ []) ∷ (0 ∷ []) ∷ (1 ∷ []) ∷ (0 ∷ []) ∷ [])
    ∷ ((0 ∷ 0 ∷ 4 ∷ 5 ∷ []) ∷ (4 ∷ 0 ∷ 3 ∷ 0 ∷ []) ∷ (2 ∷ 2 ∷ 2 ∷ 2 ∷ 2 ∷ []) ∷ (0 ∷ 1 ∷ 2 ∷ 3 ∷ 1 ∷ []) ∷ (0 ∷ 0 ∷ 2 ∷ 1 ∷ 1 ∷ []) ∷ (1 ∷ 0 ∷ 0 ∷ 0 ∷ 3 ∷ []) ∷ [])
    ∷ ((0 ∷ 0 ∷ 3 ∷ 3 ∷ []) ∷ (0 ∷ 4 ∷ 0 ∷ []) ∷ (0 ∷ 1 ∷ 2 ∷ []) ∷ (0 ∷ 0 ∷ 0 ∷ []) ∷ (0 ∷ 1 ∷ 0 ∷ []) ∷ (1 ∷ 0 ∷ 2 ∷ []) ∷ [])
    ∷ []

pub texts : found ≡ wanted
unfolding part next starts_from line_starts field opening names_from line_by line_of number_of kind_of named pulls joined device added offends read_on reading over read_into check_sizes read_sizes read_outcome full_reading name_part list_into names_outcome
texts = refl

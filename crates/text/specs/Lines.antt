-- Lines and fields of a text, and what a line is: a device, a line to skip, or a bad one. All of them are parts of the text. Assumes nothing.
use Rattle.std.specs.Prelude.{ℕ, zero, suc, ◌+◌, ◌-◌, Bool, cond, not, ◌&&◌, ◌||◌, List, [], ◌∷◌, length, eqb, leb, ltb}
use Rattle.model.specs.Bounds.{most_name}
use Rattle.model.specs.Places.{at, same}
use Rattle.text.specs.Bytes.{bytes, span, past, part, next}
use Rattle.text.specs.declared.DeviceType.TheVariants.{N, P, D}
use Rattle.text.specs.declared.Span.{Span}
use Rattle.text.specs.declared.Names.{Names}
use Rattle.text.specs.declared.Opening.{Opening}
use Rattle.text.specs.declared.Opening.TheVariants.{Of, Skipped, Other}
use Rattle.text.specs.declared.Line.{Line}
use Rattle.text.specs.declared.Line.TheVariants.{Device, Skip, Bad}

-- lines end in a line feed, byte 10; fields are parted by spaces, byte 32, and tabs, byte 9
abbrev pub feed : ℕ → Bool
feed b = eqb b 10

abbrev pub blank : ℕ → Bool
blank b = eqb b 32 || eqb b 9

-- the line that starts at i ends before its line feed, or with the text
abbrev pub line_end : List ℕ → ℕ → ℕ
line_end text i = next feed text i (length text)

-- where the lines from i on start, at most so many; a text has no more lines than bytes
unfoldable pub starts_from : List ℕ → ℕ → ℕ → List ℕ
starts_from text zero i = []
starts_from text (suc most) i = cond (ltb i (length text)) (i ∷ starts_from text most (line_end text i + 1)) []

unfoldable pub line_starts : List ℕ → List ℕ
line_starts text = starts_from text (length text) 0

-- the first field from i on and below e; it is of size 0 where there is none
unfoldable pub field : List ℕ → ℕ → ℕ → Span
field text i e = let a = next (λ b. not (blank b)) text i e in span a (next blank text a e - a)

-- what a first field says: a type, or that the line is skipped. One of no bytes is none
unfoldable pub opening : List ℕ → Opening
opening word =
    cond (same word (bytes "e") || same word (bytes "n")) (Of N)
    (cond (same word (bytes "p")) (Of P)
    (cond (same word (bytes "d")) (Of D)
    (cond (same word (bytes "") || (eqb (at word 0) 124 || (same word (bytes "N") || (same word (bytes "C") || (same word (bytes "R") || same word (bytes "A")))))) Skipped
    Other)))

-- the three fields from i on and below e
unfoldable pub names_from : List ℕ → ℕ → ℕ → Names
names_from text i e =
    let g = field text i e in
    let s = field text (past g) e in
    record { gate = g; source = s; drain = field text (past s) e }

-- a name is there, and is not too long
abbrev pub fit : Span → Bool
fit s = leb 1 s.size && leb s.size most_name

abbrev pub all_fit : Names → Bool
all_fit ns = fit ns.gate && (fit ns.source && fit ns.drain)

-- a line by what its first field says and by the three fields after it
unfoldable pub line_by : Opening → Names → Line
line_by (Of t) ns = cond (all_fit ns) (Device t ns) Bad
line_by Skipped ns = Skip
line_by Other ns = Bad

-- the line from i on and below e
unfoldable pub line_of : List ℕ → ℕ → ℕ → Line
line_of text i e = let f = field text i e in line_by (opening (part text f)) (names_from text (past f) e)

-- the line that starts at i
abbrev pub line_at : List ℕ → ℕ → Line
line_at text i = line_of text i (line_end text i)

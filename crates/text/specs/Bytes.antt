-- A quoted text as its bytes, and parts of a text. Assumes nothing.
use Rattle.std.specs.Prelude.{ℕ, ◌+◌, ◌-◌, Bool, List, [], ◌∷◌, get_or, take, drop}
use Prim.Native.Char as C
use Prim.Native.String.{String, [] as none, ◌∷◌ as ◌then◌}
use Rattle.model.specs.Places.{first, at}
use Rattle.text.specs.declared.Span.{Span}

-- the bytes of a quoted text
abbrev pub bytes : String → List ℕ
bytes none = []
bytes (c then cs) = C.code c ∷ bytes cs

abbrev pub span : ℕ → ℕ → Span
span start size = record { start = start; size = size }

abbrev pub empty_part : Span
empty_part = span 0 0

-- the place after a part
abbrev pub past : Span → ℕ
past s = s.start + s.size

-- the bytes of a part of the text
unfoldable pub part : List ℕ → Span → List ℕ
part text s = take s.size (drop s.start text)

-- the part at k of a list of parts, and the empty part past its end
abbrev pub span_at : List Span → ℕ → Span
span_at spans k = get_or spans k empty_part

-- the first place from i on and below e whose byte passes the test, and e where there is none
unfoldable pub next : (ℕ → Bool) → List ℕ → ℕ → ℕ → ℕ
next test text i e = i + first (e - i) (λ k. test (at text (i + k)))

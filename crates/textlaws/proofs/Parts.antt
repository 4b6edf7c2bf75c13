-- The bytes of a part of the text, one at a time. Assumes nothing.
use Prim.Native.Nat.{ℕ, suc, ◌-◌, ◌≤◌, ◌<◌}
use native.Mathlib.Omega.{arith}
use mathlib.Core.Path.{◌≡◌}
use mathlib.Core.List.{List, [], ◌∷◌}
use lib.ListN.{length, drop, length-drop}
use lib.Seq.{drop-cons, length-take-le}
use Rattle.model.specs.Places.{at}
use Rattle.text.specs.Bytes.{span, past, part}
use Rattle.text.specs.declared.Span.{Span}

pub part_none : (text : List ℕ) (s : Span) → s.size ≡ 0 → part text s ≡ []
unfolding part
part_none text s e = rw e

pub part-next : (text : List ℕ) (s : Span) (n : ℕ) → s.size ≡ suc n → s.start < length text → part text s ≡ at text s.start ∷ part text (span (suc s.start) n)
unfolding part
part-next text s n e l = rw (e, drop-cons text s.start 0 l)

pub part_length : (text : List ℕ) (s : Span) → past s ≤ length text → length (part text s) ≡ s.size
unfolding part
part_length text s l = length-take-le s.size (drop s.start text) (room (length-drop s.start text))
  where
    room : length (drop s.start text) ≡ length text - s.start → s.size ≤ length (drop s.start text)
    room e = omega (arith, l)

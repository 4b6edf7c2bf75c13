-- A node's name is a part of the text. Assumes nothing.
use Prim.Native.Nat.{ℕ, ◌+◌, ◌≤◌}
use native.Mathlib.Omega.{arith}
use native.Mathlib.Decide.{dec_lt}
use mathlib.Core.Path.{◌≡◌, refl, sym, subst}
use mathlib.Core.Bool.{Bool, true, false, cond}
use mathlib.Core.List.{List}
use borrow.Author.Tests.{ltb-false}
use lib.ListN.{length, get_or-eq_default}
use lib.Dec.{ltb}
use Rattle.model.specs.Bounds.{most_bytes, most_nodes, most_transistors}
use Rattle.text.specs.Bytes.{empty_part, past}
use Rattle.text.specs.Netlist.{Reading, taken, refused, reading}
use Rattle.text.specs.Reading.{full_reading, name_in, name_part}
use Rattle.text.specs.declared.Span.{Span}
use Rattle.textlaws.proofs.Promises.{taken_promised}

name_in-past : (text : List ℕ) (k : ℕ) (r : Reading) → reading text most_nodes most_transistors ≡ r → past (name_in r k) ≤ length text
name_in-past text k (taken m) e =
    elim (dec_lt k (length m.names)) [
      | yes l ↦ ((taken_promised text most_nodes most_transistors m e).name_fits k l).inside
      | no l ↦ subst (λ (s : Span). past s ≤ length text) (sym (get_or-eq_default m.names empty_part (omega arith))) (omega arith)
    ]
name_in-past text k (refused line) e = omega arith

pub name_inside : (text : List ℕ) (k : ℕ) → past (name_part text k) ≤ length text
unfolding name_part full_reading
name_inside text k = go (ltb most_bytes (length text))
  where
    go : (b : Bool) → past (cond b empty_part (name_in (reading text most_nodes most_transistors) k)) ≤ length text
    go true = omega arith
    go false = name_in-past text k (reading text most_nodes most_transistors) refl

-- and not far into it, since a longer text has no names
name_small : (text : List ℕ) (k : ℕ) → past (name_part text k) ≤ most_bytes
unfolding name_part full_reading
name_small text k = go (ltb most_bytes (length text)) refl
  where
    go : (b : Bool) → ltb most_bytes (length text) ≡ b → past (cond b empty_part (name_in (reading text most_nodes most_transistors) k)) ≤ most_bytes
    go true e = omega arith
    go false e = omega (arith, ltb-false most_bytes (length text) e, name_in-past text k (reading text most_nodes most_transistors) refl)

module _ (text : List ℕ) (k : ℕ) (s : Span) (e : s ≡ name_part text k) where
  pub part_small : past s ≤ most_bytes
  part_small = subst (λ (p : Span). past p ≤ most_bytes) (sym e) (name_small text k)

  pub part_inside : s.start + s.size ≤ length text
  part_inside = subst (λ (p : Span). past p ≤ length text) (sym e) (name_inside text k)

-- A text read line by line: what is left to read, with what was read, is the whole reading. Assumes nothing.
use Prim.Native.Nat.{ℕ, zero, suc, ◌+◌, ◌-◌, ◌≤◌, ◌<◌}
use native.Mathlib.Omega.{arith}
use mathlib.Core.Path.{◌≡◌, refl, sym, ap, ap₂, ◌∙◌}
use mathlib.Core.Bool.{Bool, true, false}
use mathlib.Core.List.{List, ◌∷◌}
use borrow.Author.Tests.{lt-ltb, le-ltb}
use lib.ListN.{length}
use Rattle.model.specs.Net.{transistors}
use Rattle.text.specs.Lines.{line_end, starts_from, line_starts, line_at}
use Rattle.text.specs.Netlist.{Netlist, nothing, added, offends, taken, refused, read_on, reading}
use Rattle.text.specs.declared.Line.{Line}
use Rattle.textlaws.proofs.Readings.{Roomy, stops, on_stops, on_goes, offends-not}

-- with m read of the lines before line k, which starts at i
pub record Midway (text : List ℕ) (n t i k : ℕ) (m : Netlist) : Type 0 where
  pub few : k ≤ i
  pub nodes_fit : length m.names ≤ n
  pub transistors_fit : transistors m.net ≤ t
  pub rest : read_on text n t k m (starts_from text (length text - k) i) ≡ reading text n t

module _ (text : List ℕ) (n t : ℕ) where
  pub midway_start : Midway text n t 0 0 nothing
  unfolding line_starts reading
  midway_start =
      record {
        few = omega arith;
        nodes_fit = omega arith;
        transistors_fit = omega arith;
        rest = ap (λ (j : ℕ). read_on text n t 0 nothing (starts_from text j 0)) (whole (length text));
      }
    where
      whole : (k : ℕ) → k - 0 ≡ k
      whole k = omega arith

  module _ (i k : ℕ) (m : Netlist) (w : Midway text n t i k m) where
    -- no line is left
    pub midway_ends : length text ≤ i → taken m ≡ reading text n t
    unfolding starts_from read_on
    midway_ends l = at_end (length text - k) ∙ w.rest
      where
        at_end : (f : ℕ) → taken m ≡ read_on text n t k m (starts_from text f i)
        at_end zero = refl
        at_end (suc f) = rw (le-ltb i (length text) l)

    -- one more line, which starts at i
    module _ (l : i < length text) (line : Line) (e : line ≡ line_at text i) (now : Netlist) (adds : now ≡ added text line m) (r : Bool) (test : r ≡ offends n t line now) where
      rest : List ℕ
      rest = starts_from text (length text - (k + 1)) (line_end text i + 1)

      next_start : starts_from text (length text - k) i ≡ i ∷ rest
      unfolding starts_from rest
      next_start = ap (λ (f : ℕ). starts_from text f i) one_less ∙ rw (lt-ltb i (length text) l)
        where
          one_less : length text - k ≡ suc (length text - (k + 1))
          one_less = omega (arith, w.few)

      so_far : read_on text n t k m (i ∷ rest) ≡ reading text n t
      so_far = ap (read_on text n t k m) (sym next_start) ∙ w.rest

      added_so : now ≡ added text (line_at text i) m
      added_so = adds ∙ ap (λ (x : Line). added text x m) e

      offence : stops text n t i m ≡ r
      offence = ap₂ (offends n t) (sym e) (sym added_so) ∙ sym test

      pub midway_stops : r ≡ true → refused k ≡ reading text n t
      midway_stops h = sym (on_stops text n t k m i rest (offence ∙ h)) ∙ so_far

      pub midway_goes : r ≡ false → (j : ℕ) → j ≡ line_end text i → i ≤ j → Midway text n t (j + 1) (k + 1) now
      unfolding rest
      midway_goes h j ej after =
          let room : Roomy n t line now = offends-not n t line now (sym test ∙ h) in
          record {
            few = omega (arith, w.few);
            nodes_fit = room.nodes_fit;
            transistors_fit = room.transistors_fit;
            rest =
                ap₂ (λ (x : ℕ) (y : ℕ). read_on text n t x now (starts_from text (length text - (k + 1)) (y + 1))) next-line ej
                ∙ (ap (λ (x : Netlist). read_on text n t (suc k) x rest) added_so ∙ (sym (on_goes text n t k m i rest (offence ∙ h)) ∙ so_far));
          }
        where
          next-line : k + 1 ≡ suc k
          next-line = omega arith

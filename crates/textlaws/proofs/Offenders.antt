-- Where a text is refused: at its first line that offends, and it is taken exactly where none does. Assumes nothing.
use Prim.Native.Nat.{ℕ, zero, suc, ◌+◌, ◌<◌}
use native.Mathlib.Omega.{arith}
use native.Mathlib.Nat.{not-suc-le-zero, le_of_suc-le-suc}
use mathlib.Core.Path.{◌≡◌, refl, sym, ap, subst, ◌∙◌}
use mathlib.Core.Logic.{◌⊎◌, inl, inr}
use mathlib.Core.Bool.{Bool, true, false, true≢false}
use mathlib.Core.List.{List, [], ◌∷◌}
use lib.ListN.{length, take}
use Rattle.model.specs.Places.{at}
use Rattle.laws.proofs.Judged.{first_one}
use Rattle.text.specs.Lines.{line_starts}
use Rattle.text.specs.Netlist.{Netlist, nothing, Reading, taken, refused, read_on, reading}
use Rattle.textlaws.proofs.Readings.{after, stops, refused_taken, on_taken, on_refused}

-- what the lines that start at these places add up to, with m before them
abbrev pub sum : List ℕ → List ℕ → Netlist → Netlist
sum text [] m = m
sum text (i ∷ starts) m = sum text starts (after text i m)

-- whether the line at p of these offends, with those before it added up
abbrev pub offender : List ℕ → ℕ → ℕ → Netlist → List ℕ → ℕ → Bool
offender text n t m starts p = stops text n t (at starts p) (sum text (take p starts) m)

-- the first of these lines that offends is that at p
pub record Offends (text : List ℕ) (n t : ℕ) (m : Netlist) (starts : List ℕ) (p : ℕ) : Type 0 where
  pub there : p < length starts
  pub here : offender text n t m starts p ≡ true
  pub earlier : (q : ℕ) → q < p → offender text n t m starts q ≡ false

module _ (text : List ℕ) (n t : ℕ) where
  -- a line that does not offend, and what holds of those after it
  past_one : (m : Netlist) (i : ℕ) (starts : List ℕ) (p : ℕ) → stops text n t i m ≡ false → ((q : ℕ) → q < p → offender text n t (after text i m) starts q ≡ false)
      → (q : ℕ) → q < suc p → offender text n t m (i ∷ starts) q ≡ false
  past_one m i starts p h f zero l = h
  past_one m i starts p h f (suc q) l = f q (le_of_suc-le-suc l)

  refused_on : (k : ℕ) (m : Netlist) (starts : List ℕ) (j : ℕ) → read_on text n t k m starts ≡ refused j → (p : ℕ) × (j ≡ k + p) × Offends text n t m starts p
  unfolding read_on
  refused_on k m [] j e = absurd (refused_taken j m (sym e))
  refused_on k m (i ∷ starts) j e = go (on_refused text n t k m i starts j e) (λ f. refused_on (suc k) (after text i m) starts j f)
    where
      rest : Reading
      rest = read_on text n t (suc k) (after text i m) starts

      go : ((stops text n t i m ≡ true) × (k ≡ j)) ⊎ ((stops text n t i m ≡ false) × (rest ≡ refused j))
          → (rest ≡ refused j → (p : ℕ) × (j ≡ suc k + p) × Offends text n t (after text i m) starts p) → (p : ℕ) × (j ≡ k + p) × Offends text n t m (i ∷ starts) p
      go (inl h) f = (0, omega (arith, h.1), record { there = omega arith; here = h.0; earlier = λ q l. absurd (not-suc-le-zero l) })
      go (inr h) f =
          let r = f h.1 in
          (suc r.0, omega (arith, r.1), record { there = omega (arith, r.2.there); here = r.2.here; earlier = past_one m i starts r.0 h.0 r.2.earlier })

  taken_on : (k : ℕ) (m : Netlist) (starts : List ℕ) (r : Netlist) → read_on text n t k m starts ≡ taken r
      → (r ≡ sum text starts m) × ((q : ℕ) → q < length starts → offender text n t m starts q ≡ false)
  unfolding read_on
  taken_on k m [] r e = (cc, λ q l. absurd (not-suc-le-zero l))
  taken_on k m (i ∷ starts) r e =
      let h = on_taken text n t k m i starts r e in
      let s = taken_on (suc k) (after text i m) starts r h.1 in
      (s.0, past_one m i starts (length starts) h.0 s.1)

  -- the place that TEXT names is that of the first line of the text that offends
  pub first-line : (k : ℕ) → reading text n t ≡ refused k → Offends text n t nothing (line_starts text) k
  unfolding reading
  first-line k e = let r = refused_on 0 nothing (line_starts text) k e in subst (Offends text n t nothing (line_starts text)) (omega (arith, r.1)) r.2

  -- of a text that is taken no line offends, and what is read is what all its lines add up to
  pub no_line : (m : Netlist) → reading text n t ≡ taken m
      → (m ≡ sum text (line_starts text) nothing) × ((q : ℕ) → q < length (line_starts text) → offender text n t nothing (line_starts text) q ≡ false)
  unfolding reading
  no_line m e = taken_on 0 nothing (line_starts text) m e

  -- so a text of which a line offends is refused, at the first that does
  pub refused_there : (k : ℕ) → Offends text n t nothing (line_starts text) k → reading text n t ≡ refused k
  refused_there k o = go (reading text n t) refl
    where
      go : (r : Reading) → reading text n t ≡ r → reading text n t ≡ refused k
      go (taken m) e = absurd (true≢false (sym o.here ∙ (no_line m e).1 k o.there))
      go (refused j) e =
          let f = first-line j e in
          e ∙ ap refused (first_one (offender text n t nothing (line_starts text)) j k f.here o.here f.earlier o.earlier)

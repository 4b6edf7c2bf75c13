-- Where fields and lines end. Assumes nothing.
use Prim.Native.Nat.{ℕ, ◌-◌, ◌≤◌}
use native.Mathlib.Omega.{arith}
use mathlib.Core.Path.{◌≡◌, refl, sym, ap, subst, ◌∙◌}
use mathlib.Core.Bool.{not, ◌||◌}
use mathlib.Core.List.{List}
use lib.ListN.{length}
use Rattle.text.specs.Bytes.{span, past, part, next}
use Rattle.text.specs.Lines.{blank, feed, line_end, field, opening, names_from, line_by, line_of, line_at}
use Rattle.text.specs.declared.DeviceType.{DeviceType}
use Rattle.text.specs.declared.Span.{Span}
use Rattle.text.specs.declared.Names.{Names}
use Rattle.text.specs.declared.Opening.{Opening}
use Rattle.text.specs.declared.Opening.TheVariants.{Of, Skipped, Other}
use Rattle.text.specs.declared.Line.{Line}
use Rattle.text.specs.declared.Line.TheVariants.{Device, Skip, Bad}
use Rattle.textlaws.proofs.Scanning.{end_says, end_kept}
use Rattle.textlaws.proofs.Lines.{field-from, field_within, field_here, LineAfter, line_after}

-- the field that two scans find
module _ (text : List ℕ) (i : ℕ) (l : i ≤ length text) (a b : ℕ) (starts : a ≡ next (λ b. not (blank b)) text i (length text)) (ends : b ≡ next (λ b. blank b || feed b) text a (length text)) where
  pub field_found : span a (b - a) ≡ field text i (line_end text i)
  field_found = field_here text i l (λ b. blank b || feed b) (λ b. refl) a b starts ends

-- a field of the line that goes on at i is followed by the rest of that line
module _ (text : List ℕ) (i : ℕ) (l : i ≤ length text) (f : Span) (e : f ≡ field text i (line_end text i)) where
  pub field_ends : (i ≤ past f) × (past f ≤ line_end text i)
  field_ends =
      let n = end_says text i l in
      subst (λ (s : Span). (i ≤ past s) × (past s ≤ line_end text i)) (sym e)
      (omega (arith, field-from text i (line_end text i) n.from), field_within text i (line_end text i) n.from)

  pub field_inside : past f ≤ length text
  field_inside = omega (arith, field_ends.1, (end_says text i l).below)

  pub same_end : line_end text (past f) ≡ line_end text i
  same_end = end_kept text i l (past f) field_ends.0 field_ends.1

-- three fields in turn, each from behind the one before
pub names_found : (text : List ℕ) (i p q : ℕ) → i ≤ length text → (g s d : Span) → g ≡ field text i (line_end text i) → p ≡ past g → s ≡ field text p (line_end text p) → q ≡ past s → d ≡ field text q (line_end text q)
    → ◌≡◌ {A = Names} (record { gate = g; source = s; drain = d }) (names_from text i (line_end text i))
unfolding names_from
names_found text i p q l g s d eg ep es eq ed =
    let fs = rw ep at es in
    let fd = rw eq at ed in
    let h = same_end text i l g eg in
    let k = same_end text (past g) (field_inside text i l g eg) s fs in
    rw (fd, k, h, fs, h, eg)

-- a line by its first field
module _ (text : List ℕ) (i : ℕ) (l : i ≤ length text) (f : Span) (ef : f ≡ field text i (line_end text i)) (word : List ℕ) (ew : word ≡ part text f) (o : Opening) (eo : o ≡ opening word) where
  by_opening : (p : Opening) → o ≡ p → line_by p (names_from text (past f) (line_end text i)) ≡ line_at text i
  unfolding line_of
  by_opening p h = rw (sym h, eo, ew, ef)

  pub line_device : (t : DeviceType) (p : ℕ) (ns : Names) (r : Line) → o ≡ Of t → p ≡ past f → ns ≡ names_from text p (line_end text p) → r ≡ line_by (Of t) ns → r ≡ line_at text i
  line_device t p ns r h ep en er =
      let e = rw ep at en in
      er ∙ (ap (line_by (Of t)) (e ∙ ap (names_from text (past f)) (same_end text i l f ef)) ∙ by_opening (Of t) h)

  pub line_skipped : o ≡ Skipped → Skip ≡ line_at text i
  unfolding line_by
  line_skipped h = by_opening Skipped h

  pub line_other : o ≡ Other → Bad ≡ line_at text i
  unfolding line_by
  line_other h = by_opening Other h

-- what is left of a device's line has the same end
module _ (text : List ℕ) (i : ℕ) (l : i ≤ length text) (line : Line) (e : line ≡ line_at text i) (t : DeviceType) (ns : Names) (h : line ≡ Device t ns) where
  pub drain_ends : (i ≤ past ns.drain) × (past ns.drain ≤ line_end text i)
  unfolding LineAfter
  drain_ends = subst (LineAfter i (line_end text i)) (sym e ∙ h) (line_after text i (line_end text i) (end_says text i l).from)

  pub drain_inside : (i ≤ past ns.drain) × (past ns.drain ≤ length text)
  drain_inside = (drain_ends.0, omega (arith, drain_ends.1, (end_says text i l).below))

  pub drain_end : line_end text (past ns.drain) ≡ line_end text i
  drain_end = end_kept text i l (past ns.drain) drain_ends.0 drain_ends.1

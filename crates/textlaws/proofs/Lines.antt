-- Fields lie within their line, and a device's names are fit. Assumes nothing.
use Prim.Native.Nat.{ℕ, ◌-◌, ◌≤◌}
use native.Mathlib.Omega.{arith}
use mathlib.Core.Path.{◌≡◌, refl, sym, ap, ap₂, subst, ◌∙◌}
use mathlib.Core.Bool.{Bool, true, false, cond, not, ◌||◌, and-eq-true_iff}
use mathlib.Core.List.{List}
use borrow.Author.Tests.{leb-true}
use lib.ListN.{length}
use Rattle.model.specs.Bounds.{most_name}
use Rattle.text.specs.Bytes.{span, past, part, next}
use Rattle.text.specs.Lines.{feed, blank, line_end, field, opening, names_from, fit, all_fit, line_by, line_of, line_at}
use Rattle.text.specs.Promised.{Fits}
use Rattle.text.specs.declared.Span.{Span}
use Rattle.text.specs.declared.Names.{Names}
use Rattle.text.specs.declared.Opening.{Opening}
use Rattle.text.specs.declared.Opening.TheVariants.{Of, Skipped, Other}
use Rattle.text.specs.declared.Line.{Line}
use Rattle.text.specs.declared.Line.TheVariants.{Device, Skip, Bad}
use Rattle.textlaws.proofs.Scanning.{Next, next_says, end_says, end_kept, in_line, word_stops}

-- a field from i on
module _ (text : List ℕ) (i e : ℕ) (l : i ≤ e) where
  pub field-from : i ≤ (field text i e).start
  unfolding field
  field-from = (next_says (λ b. not (blank b)) text i e l).from

  pub field_within : past (field text i e) ≤ e
  unfolding field
  field_within =
      let a = next_says (λ b. not (blank b)) text i e l in
      let b = next_says blank text (next (λ b. not (blank b)) text i e) e a.below in
      omega (arith, b.from, b.below)

-- the field that two scans find that stop at a line feed too
module _ (text : List ℕ) (i : ℕ) (l : i ≤ length text) (gap : ℕ → Bool) (g : (b : ℕ) → gap b ≡ (blank b || feed b)) (a b : ℕ)
    (starts : a ≡ next (λ b. not (blank b)) text i (length text)) (ends : b ≡ next gap text a (length text)) where
  begins : a ≡ next (λ b. not (blank b)) text i (line_end text i)
  begins = starts ∙ in_line text i l (λ b. not (blank b)) (λ b. not (blank b)) word_stops

  says : Next (λ b. not (blank b)) text i (line_end text i) a
  says = subst (Next (λ b. not (blank b)) text i (line_end text i)) (sym begins) (next_says (λ b. not (blank b)) text i (line_end text i) (end_says text i l).from)

  stops : b ≡ next blank text a (line_end text i)
  stops =
      ends
      ∙ (in_line text a (omega (arith, says.below, (end_says text i l).below)) blank gap g
      ∙ ap (next blank text a) (end_kept text i l a says.from says.below))

  pub field_here : span a (b - a) ≡ field text i (line_end text i)
  unfolding field
  field_here = ap₂ (λ (x y : ℕ). span x (y - x)) begins stops ∙ ap (λ (x : ℕ). span (next (λ b. not (blank b)) text i (line_end text i)) (next blank text x (line_end text i) - next (λ b. not (blank b)) text i (line_end text i))) begins

-- all three names of a device
pub record AllFit (e : ℕ) (ns : Names) : Type 0 where
  pub gate : Fits e ns.gate
  pub source : Fits e ns.source
  pub drain : Fits e ns.drain

fits_of : (e : ℕ) (s : Span) → past s ≤ e → fit s ≡ true → Fits e s
fits_of e s l h =
    let k = (and-eq-true_iff _ _).0 h in
    record { inside = l; some_bytes = leb-true 1 s.size k.0; few_bytes = leb-true s.size most_name k.1 }

-- what a line is has names that are fit
unfoldable pub LineFits : ℕ → Line → Type 0
LineFits e (Device t ns) = AllFit e ns
LineFits e Skip = Unit {0}
LineFits e Bad = Unit {0}

pub names_within : (text : List ℕ) (i e : ℕ) → i ≤ e → (past (names_from text i e).gate ≤ e) × (past (names_from text i e).source ≤ e) × (past (names_from text i e).drain ≤ e)
unfolding names_from
names_within text i e l =
    let g = field_within text i e l in
    let s = field_within text (past (field text i e)) e g in
    (g, s, field_within text (past (field text (past (field text i e)) e)) e s)

line_by_fits : (e : ℕ) (o : Opening) (ns : Names) → past ns.gate ≤ e → past ns.source ≤ e → past ns.drain ≤ e → LineFits e (line_by o ns)
unfolding LineFits line_by
line_by_fits e (Of t) ns a b c = go (all_fit ns) refl
  where
    go : (x : Bool) → all_fit ns ≡ x → LineFits e (cond x (Device t ns) Bad)
    go true h =
        let k = (and-eq-true_iff _ _).0 h in
        let m = (and-eq-true_iff _ _).0 k.1 in
        record { gate = fits_of e ns.gate a k.0; source = fits_of e ns.source b m.0; drain = fits_of e ns.drain c m.1 }
    go false h = tt
line_by_fits e Skipped ns a b c = tt
line_by_fits e Other ns a b c = tt

pub line_fits : (text : List ℕ) (i e : ℕ) → i ≤ e → LineFits e (line_of text i e)
unfolding line_of
line_fits text i e l =
    let w = names_within text (past (field text i e)) e (field_within text i e l) in
    line_by_fits e (opening (part text (field text i e))) (names_from text (past (field text i e)) e) w.0 w.1 w.2

-- a device's names come after the line's start and before its end
unfoldable pub LineAfter : ℕ → ℕ → Line → Type 0
LineAfter i e (Device t ns) = (i ≤ past ns.drain) × (past ns.drain ≤ e)
LineAfter i e Skip = Unit {0}
LineAfter i e Bad = Unit {0}

line_by_after : (i e : ℕ) (o : Opening) (ns : Names) → (i ≤ past ns.drain) × (past ns.drain ≤ e) → LineAfter i e (line_by o ns)
unfolding LineAfter line_by
line_by_after i e (Of t) ns h = go (all_fit ns)
  where
    go : (x : Bool) → LineAfter i e (cond x (Device t ns) Bad)
    go true = h
    go false = tt
line_by_after i e Skipped ns h = tt
line_by_after i e Other ns h = tt

pub line_after : (text : List ℕ) (i e : ℕ) → i ≤ e → LineAfter i e (line_of text i e)
unfolding line_of names_from
line_after text i e l =
    let f = field_within text i e l in
    let g = field_within text (past (field text i e)) e f in
    let s = field_within text (past (field text (past (field text i e)) e)) e g in
    line_by_after i e (opening (part text (field text i e))) (names_from text (past (field text i e)) e) (
      omega (arith, field-from text i e l, field-from text (past (field text i e)) e f, field-from text (past (field text (past (field text i e)) e)) e g, field-from text (past (field text (past (field text (past (field text i e)) e)) e)) e s),
      field_within text (past (field text (past (field text (past (field text i e)) e)) e)) e s,
    )

-- and those of a text lie in it
fits_more : (d e : ℕ) (s : Span) → d ≤ e → Fits d s → Fits e s
fits_more d e s l f = record { inside = omega (arith, f.inside); some_bytes = f.some_bytes; few_bytes = f.few_bytes }

pub line_fits_more : (d e : ℕ) → d ≤ e → (l : Line) → LineFits d l → LineFits e l
unfolding LineFits
line_fits_more d e h (Device t ns) f =
    record { gate = fits_more d e ns.gate h f.gate; source = fits_more d e ns.source h f.source; drain = fits_more d e ns.drain h f.drain }
line_fits_more d e h Skip f = tt
line_fits_more d e h Bad f = tt

pub text_fits : (text : List ℕ) (i : ℕ) → i ≤ length text → LineFits (length text) (line_at text i)
text_fits text i l =
    let n = end_says text i l in
    line_fits_more (line_end text i) (length text) n.below (line_at text i) (line_fits text i (line_end text i) n.from)

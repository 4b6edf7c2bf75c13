-- One transistor after the other: what the look at each leaves. Assumes nothing.
use Prim.Native.Nat.{ℕ, ◌+◌, ◌*◌, ◌≤◌, ◌<◌}
use native.Mathlib.Omega.{arith}
use native.Mathlib.Nat.{zero-add}
use mathlib.Core.Path.{◌≡◌, refl, sym, ◌∙◌, subst}
use mathlib.Core.Logic.{◌⊎◌, inl, inr}
use mathlib.Core.Bool.{Bool, true, false, not, true≢false}
use mathlib.Core.List.{List}
use lib.ListN.{length}
use Rattle.model.specs.Places.{at}
use Rattle.model.specs.Net.{Net, nodes, transistors, is_input, stand, stand_at}
use Rattle.model.specs.Rules.{cells}
use Rattle.model.specs.Ways.{choose}
use Rattle.basis.specs.Sound.{Checked}
use Rattle.basis.specs.Cells.{Written}
use Rattle.branches.specs.Branch.{Linked}
use Rattle.branches.specs.Code.{telling, mark_of}
use Rattle.layout.specs.Layout.{wires, LaidOut}
use Rattle.layout.specs.declared.Stand.{Stand}
use Rattle.layout.specs.declared.Stand.TheVariants.{Open, Closed, Unknown}
use Rattle.layout.specs.Look.{source_at, meant, unsure, brought, pushed, LaidOne, apart, down, up, inner, LaidNext, off, on}
use Rattle.layout.proofs.Lists.{linked_none, pushed_else}
use Rattle.layout.proofs.Links.{linked_off, linked_on}
use Rattle.layout.proofs.Gifts.{offers_none, sources_alone}
use Rattle.layout.proofs.Gave.{gave_else}
use Rattle.layout.proofs.Begun.{source_input, source_else}
use Rattle.layout.proofs.Told.{Told, told, told_same, told_gift, ends_none, ends_down, ends_up, stand_unsure}

module _ (net : Net) (s : List ℕ) (t : ℕ) (w₀ w : List ℕ) (C : Checked net s (length w)) (tl : t < transistors net) (z : LaidOut net s t w₀ w) where
  abbrev a : ℕ
  a = at net.sources t

  abbrev b : ℕ
  b = at net.drains t

  room : 2 * nodes net ≤ length w
  room = omega (arith, C.fits)

  laid_by : {w' : List ℕ} → Told net s (t + 1) w' → ((c : List ℕ) → Linked (wires net s c) (2 * (t + 1)) w') → ((j : ℕ) → cells net ≤ j → at w' j ≡ at w j)
      → LaidOut net s (t + 1) w₀ w'
  laid_by T L f = record { sources = T.sources; offers = T.offers; inputs = T.inputs; linked = L; after = λ j l. f j l ∙ z.after j l }

  -- the cells past the nodes' own stay when an input gives
  brought_else : (unsure : Bool) (v x j : ℕ) → v < nodes net → 2 * nodes net ≤ j → at (brought unsure (nodes net) v x w) j ≡ at w j
  brought_else true v x j l h = gave_else v (telling 3 (mark_of x)) w j (omega arith)
  brought_else false v x j l h = gave_else (nodes net + v) (telling 3 (mark_of x)) w j (omega arith)

  laid_off : choose (stand_at net s t) true ≡ false → LaidOut net s (t + 1) w₀ w
  laid_off e =
      laid_by (told_same net s t (λ v i x j p o. true≢false (sym o ∙ e)) (λ j l. refl) (told z)) (λ c. linked_off net s t c (inl e) (λ j l. refl) (z.linked c)) (λ j l. refl)

  -- one that is not open, by what its ends are
  module _ (unsure : Bool) (o : choose (stand_at net s t) true ≡ true) (e : unsure ≡ not (choose (stand_at net s t) false)) where
    laid_apart : is_input net a ≡ true → is_input net b ≡ true → LaidOut net s (t + 1) w₀ w
    laid_apart p q =
        laid_by (told_same net s t (λ v i x j k h. ends_none net s t (p ∙ sym q) v x i j k) (λ j l. refl) (told z))
        (λ c. linked_off net s t c (inr (inl p)) (λ j l. refl) (z.linked c)) (λ j l. refl)

    laid_down : is_input net a ≡ true → is_input net b ≡ false → LaidOut net s (t + 1) w₀ (brought unsure (nodes net) b (at s a) w)
    laid_down p q =
        laid_by (told_gift net s t b a ((C.wired t tl).drain, q) (C.wired t tl).source (tl, inr (refl, refl)) p (ends_down net s t p) w room (told z) unsure o e)
        (λ c. linked_off net s t c (inr (inl p)) (λ j l. brought_else unsure b (at s a) j (C.wired t tl).drain (omega arith)) (z.linked c))
        (λ j l. brought_else unsure b (at s a) j (C.wired t tl).drain (omega arith))

    laid_up : is_input net a ≡ false → is_input net b ≡ true → LaidOut net s (t + 1) w₀ (brought unsure (nodes net) a (at s b) w)
    laid_up p q =
        laid_by (told_gift net s t a b ((C.wired t tl).source, p) (C.wired t tl).drain (tl, inl (refl, refl)) q (ends_up net s t q) w room (told z) unsure o e)
        (λ c. linked_off net s t c (inr (inr q)) (λ j l. brought_else unsure a (at s b) j (C.wired t tl).source (omega arith)) (z.linked c))
        (λ j l. brought_else unsure a (at s b) j (C.wired t tl).source (omega arith))

    abbrev w₁ : List ℕ
    w₁ = pushed (nodes net) a (2 * t) unsure w

    abbrev w₂ : List ℕ
    w₂ = pushed (nodes net) b (2 * t + 1) unsure w₁

    pushed_both : (j : ℕ) → (j < 3 * nodes net) ⊎ (cells net ≤ j) → at w₂ j ≡ at w j
    pushed_both j (inl l) =
        pushed_else (nodes net) b (2 * t + 1) j unsure w₁ (omega arith) (omega arith) ∙ pushed_else (nodes net) a (2 * t) j unsure w (omega arith) (omega arith)
    pushed_both j (inr l) =
        pushed_else (nodes net) b (2 * t + 1) j unsure w₁ (omega arith) (omega (arith, (C.wired t tl).drain))
        ∙ pushed_else (nodes net) a (2 * t) j unsure w (omega arith) (omega (arith, (C.wired t tl).source))

    laid_inner : is_input net a ≡ false → is_input net b ≡ false → LaidOut net s (t + 1) w₀ w₂
    laid_inner p q =
        laid_by (told_same net s t (λ v i x j k h. ends_none net s t (p ∙ sym q) v x i j k) (λ j l. pushed_both j (inl (omega arith))) (told z))
        (λ c. linked_on net s t c unsure w C tl (rw (o, p, q) refl) (stand_unsure (stand_at net s t) unsure o e) (z.linked c))
        (λ j l. pushed_both j (inr l))

    laid_one : {w' : List ℕ} → LaidOne net.kinds s a b t unsure w w' → LaidOut net s (t + 1) w₀ w'
    laid_one (apart p q r) = subst (LaidOut net s (t + 1) w₀) (sym r) (laid_apart p q)
    laid_one (down p q r) = subst (LaidOut net s (t + 1) w₀) (sym r) (laid_down p q)
    laid_one (up p q r) = subst (LaidOut net s (t + 1) w₀) (sym r) (laid_up p q)
    laid_one (inner p q r) = subst (LaidOut net s (t + 1) w₀) (sym r) (laid_inner p q)

  pub laid_next : {w' : List ℕ} → LaidNext net s t w w' → LaidOut net s (t + 1) w₀ w'
  laid_next (off o e) = subst (LaidOut net s (t + 1) w₀) (sym e) (laid_off o)
  laid_next (on unsure o e y) = laid_one unsure o e y

-- by how it stands, as the code has it
pub next_on : {net : Net} {s w w' : List ℕ} {t g : ℕ} (x : Stand) → g ≡ at net.gates t → meant x ≡ stand (at net.types t) (at s g) → (x ≡ Open → ⊥)
    → LaidOne net.kinds s (at net.sources t) (at net.drains t) t (unsure x) w w' → LaidNext net s t w w'
next_on {net} {s} {w} {w'} {t} x f e d y = go x (rw f at e) d y
  where
    go : (x : Stand) → meant x ≡ stand_at net s t → (x ≡ Open → ⊥) → LaidOne net.kinds s (at net.sources t) (at net.drains t) t (unsure x) w w' → LaidNext net s t w w'
    go Open e d y = absurd (d refl)
    go Closed e d y = on false (rw (sym e) refl) (rw (sym e) refl) y
    go Unknown e d y = on true (rw (sym e) refl) (rw (sym e) refl) y

-- before any transistor
pub laid_none : {net : Net} {s w w₁ w₂ w₃ : List ℕ} → Written (λ k. 0) w 0 (nodes net) w₁ → Written (source_at net.kinds s) w₁ (nodes net) (nodes net) w₂
    → Written (λ k. 0) w₂ (3 * nodes net) (nodes net) w₃ → LaidOut net s 0 w w₃
laid_none {net} {s} {w} {w₁} {w₂} {w₃} x y z = record {
  sources = λ v i. rw (cell v i.0 ∙ sym (source_else net.kinds s v i.1)) (sources_alone net s v i.1);
  offers = λ v i. offers_none net s v (front v i.0);
  inputs = λ v l p. (cell v l ∙ sym (source_input (at net.kinds v) (at s v) p), front v l);
  linked = λ c. linked_none (λ v l. z.inside v l);
  after = λ j l. z.after j (omega arith) ∙ y.after j (omega arith) ∙ x.after j (omega arith);
}
  where
    front : (v : ℕ) → v < nodes net → at w₃ v ≡ 0
    front v l = z.before v (omega arith) ∙ y.before v l ∙ rw zero-add at (x.inside v l)

    cell : (v : ℕ) → v < nodes net → at w₃ (nodes net + v) ≡ source_at net.kinds s v
    cell v l = z.before (nodes net + v) (omega arith) ∙ y.inside v l

-- all of them
pub laid_end : {net : Net} {s w u : List ℕ} {t : ℕ} → transistors net ≤ t → t ≤ transistors net → LaidOut net s t w u → LaidOut net s (transistors net) w u
laid_end {net} {s} {w} {u} {t} l h z =
    let e : t ≡ transistors net = omega arith in
    subst (λ (t : ℕ). LaidOut net s t w u) e z

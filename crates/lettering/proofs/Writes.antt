-- Texts written one after the other are one text written. Assumes nothing.
use Prim.Native.Nat.{ℕ, suc, ◌+◌}
use native.Mathlib.Nat.{add-zero}
use native.Mathlib.Omega.{arith}
use native.Mathlib.Numerals.{add-one}
use mathlib.Core.Path.{◌≡◌, refl, ap, ◌∙◌, sym}
use mathlib.Core.List.{List, [], ◌∷◌, ◌++◌, append_assoc}
use lib.ListN.{length, take, drop, set, length-append}
use lib.Seq.{sets, sets-eq}
use borrow.Rule.Slice.PartMut.{put_mid}
use Rattle.std.proofs.lemmas.Slice.{put_mid-paste}
use Rattle.std.proofs.lemmas.List.Edits.{paste_all}
use Rattle.waves.specs.Dump.{each}
use Rattle.wavelaws.proofs.Rows.{each_last}
use Rattle.lettering.specs.Writing.{Fits, Wrote, Writes}
use Rattle.lettering.specs.declared.Writer.{Writer}

sets_then : (out : List ℕ) (p : ℕ) (xs ys : List ℕ) → sets (sets out p xs) (p + length xs) ys ≡ sets out p (xs ++ ys)
sets_then out p [] ys = ap (λ (q : ℕ). sets out q ys) (add-zero p)
sets_then out p (x ∷ xs) ys =
    let e : p + suc (length xs) ≡ suc p + length xs = omega arith in
    ap (λ (q : ℕ). sets (sets (set out p x) (suc p) xs) q ys) e ∙ sets_then (set out p x) (suc p) xs ys

wrote_then : {out out' out'' : List ℕ} {p q r : ℕ} {xs ys : List ℕ} → Wrote out p xs q out' → Wrote out' q ys r out'' → Wrote out p (xs ++ ys) r out''
wrote_then {out} {out'} {out''} {p} {q} {r} {xs} {ys} v w = record {
  goes_on = omega (arith, v.goes_on, w.goes_on, length-append xs ys);
  stored = w.stored ∙ ap (λ (x : List ℕ). sets x q ys) v.stored ∙ ap (λ (n : ℕ). sets (sets out p xs) n ys) v.goes_on ∙ sets_then out p xs ys;
}

-- a part of the output that became a text
pub part_written : (out : List ℕ) (p k : ℕ) (part text : List ℕ) → part ≡ text → length text ≡ k → Fits out p text → put_mid p k out part ≡ sets out p text
part_written out p k part text e l fits =
    put_mid-paste p k out part text (length text) e l refl
    ∙ paste_all out p text (length text) refl
    ∙ sym (append_assoc (take p out) text (drop (p + length text) out))
    ∙ sym (sets-eq text out p fits)

-- texts that a writer has written
pub writes_as : {w w' : Writer} {xs ys : List ℕ} → xs ≡ ys → Writes w xs w' → Writes w ys w'
writes_as e r = rw e at r

pub writes_then : {w w' w'' : Writer} {xs ys : List ℕ} → Writes w xs w' → Writes w' ys w'' → Writes w (xs ++ ys) w''
writes_then q r = record { same_output = r.same_output ∙ q.same_output; long = r.long ∙ q.long; wrote = wrote_then q.wrote r.wrote }

-- one text more of a row, and the whole row
pub writes_next : {w w' w'' : Writer} (f : ℕ → List ℕ) (i : ℕ) → Writes w (each i f) w' → Writes w' (f i) w'' → Writes w (each (i + 1) f) w''
writes_next f i q r = writes_as (sym (each_last i f) ∙ ap (λ (n : ℕ). each n f) (sym (add-one i))) (writes_then q r)

pub writes_all : {w w' : Writer} (f : ℕ → List ℕ) (i n : ℕ) → i ≡ n → Writes w (each i f) w' → Writes w (each n f) w'
writes_all f i n e r = writes_as (ap (λ (k : ℕ). each k f) e) r

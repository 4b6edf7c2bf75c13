-- Changes entered and raised one by one, and the second half of a ternary run: entering once more is lowering. Assumes nothing.
use Prim.Native.Nat.{ℕ, ◌+◌, ◌≤◌, ◌<◌}
use native.Mathlib.Omega.{arith}
use native.Mathlib.Numerals.{add-one}
use native.Mathlib.Nat.{le_of_lt}
use mathlib.Core.Path.{◌≡◌, refl, sym, ap, ◌∙◌, subst}
use mathlib.Core.Bool.{Bool, true, false, not, cond, true≢false}
use mathlib.Core.List.{List, [], ◌∷◌, ◌++◌}
use lib.ListN.{length, set, take, length-set}
use lib.Seq.{ext_get_or, take-suc, take_all, get_or-take, get_or-set_same, get_or-set_other, length-take-le}
use lib.Dec.{eqb}
use borrow.Author.Tests.{eqb-true, eq-eqb, not-false}
use Rattle.model.specs.Places.{tab, some, at}
use Rattle.model.specs.Run.{put, changed, raised, lowered, changes_of}
use Rattle.laws.proofs.Places.{length-tab, get_or-tab, some_at, some_of}
use Rattle.laws.proofs.Changes.{length-put, put_unnamed, put-named}
use Rattle.basis.specs.Sound.{Named, Once}
use Rattle.basis.proofs.Cells.{Stored, here, else, stored}

put_last : (s ps vs : List ℕ) (p v : ℕ) → length vs ≡ length ps → put s (ps ++ (p ∷ [])) (vs ++ (v ∷ [])) ≡ set (put s ps vs) p v
put_last s [] [] p v e = refl
put_last s [] (x ∷ vs) p v e = absurd (omega arith)
put_last s (q ∷ ps) [] p v e = absurd (omega arith)
put_last s (q ∷ ps) (x ∷ vs) p v e = put_last (set s q x) ps vs p v (omega arith)

-- the first e changes entered, one more, and all
abbrev pub entering : List ℕ → List ℕ → List ℕ → ℕ → List ℕ
entering s ps vs e = put s (take e ps) (take e vs)

pub entering_more : (s ps vs : List ℕ) → length vs ≡ length ps → (e : ℕ) → e < length ps → {u : List ℕ} → u ≡ entering s ps vs e → set u (at ps e) (at vs e) ≡ entering s ps vs (e + 1)
entering_more s ps vs q e l i =
    let m : e < length vs = omega arith in
    rw (i, add-one, take-suc ps e 0, take-suc vs e 0)
    (sym (put_last s (take e ps) (take e vs) (at ps e) (at vs e) (length-take-le e vs (le_of_lt m) ∙ sym (length-take-le e ps (le_of_lt l)))))

pub entering_all : (s ps vs : List ℕ) → length vs ≡ length ps → (e : ℕ) → length ps ≤ e → entering s ps vs e ≡ put s ps vs
entering_all s ps vs q e l =
    let m : length vs ≤ e = omega arith in
    rw (take_all e ps l, take_all e vs m)

raised_at : (s to : List ℕ) (v : ℕ) → v < length s → at (raised s to) v ≡ cond (changed s to v) 2 (at s v)
unfolding raised
raised_at s to v l = get_or-tab (length s) _ 0 v l

raised-length : (s to : List ℕ) → length (raised s to) ≡ length s
unfolding raised
raised-length s to = length-tab (length s) _

not-changed : (s to : List ℕ) (v : ℕ) → at to v ≡ at s v → changed s to v ≡ false
not-changed s to v e = ap not (eq-eqb (at s v) (at to v) (sym e))

-- nothing entered, nothing raised
pub raised_none : (s : List ℕ) → raised s s ≡ s
raised_none s =
    ext_get_or 0 (raised s s) s (raised-length s s)
    (λ v l. let h = raised-length s s in raised_at s s v (omega arith) ∙ ap (λ (b : Bool). cond b 2 (at s v)) (not-changed s s v refl))

-- one more node named, at which nothing was entered: it takes X where its new state differs
module _ (s to : List ℕ) (p y : ℕ) (long : length to ≡ length s) (below : p < length s) (fresh : at to p ≡ at s p) where
  raised_still : at (raised s to) p ≡ at s p
  raised_still = raised_at s to p below ∙ ap (λ (b : Bool). cond b 2 (at s p)) (not-changed s to p fresh)

  raised-set : {x : ℕ} → x ≡ cond (eqb (at (raised s to) p) y) (at (raised s to) p) 2 → set (raised s to) p x ≡ raised s (set to p y)
  raised-set {x} e =
      ext_get_or 0 (set (raised s to) p x) (raised s (set to p y)) (length-set (raised s to) p x ∙ raised-length s to ∙ sym (raised-length s (set to p y)))
      (λ v l. let h = raised-length s to in let m = length-set (raised s to) p x in go v (omega arith) (stored (raised s to) p x v (omega arith)) ∙ sym (raised_at s (set to p y) v (omega arith)))
    where
      new : (b : Bool) → cond b (at s p) 2 ≡ cond (not b) 2 (at s p)
      new true = refl
      new false = refl

      go : (v : ℕ) → v < length s → {z : ℕ} → Stored (raised s to) p x v z → z ≡ cond (changed s (set to p y) v) 2 (at s v)
      go v l (here q f) = f ∙ e ∙ rw (raised_still, q, get_or-set_same to p y 0 (omega arith)) (new (eqb (at s p) y))
      go v l (else q f) = f ∙ raised_at s to v l ∙ rw (get_or-set_other to p v y 0 q)

pub raising_more : (s ps vs : List ℕ) → Named (changes_of ps vs) (length s) → Once (changes_of ps vs) → (e : ℕ) → e < length ps → {u : List ℕ} {x : ℕ}
    → u ≡ raised s (entering s ps vs e) → x ≡ cond (eqb (at u (at ps e)) (at vs e)) (at u (at ps e)) 2 → set u (at ps e) x ≡ raised s (entering s ps vs (e + 1))
raising_more s ps vs N once e l i q =
    rw i
    (raised-set s (entering s ps vs e) (at ps e) (at vs e) (length-put s (take e ps) (take e vs)) (N.below e l)
    (put_unnamed s (take e ps) (take e vs) (at ps e) (λ k m r. unnamed k (omega (arith, length-take-le e ps (le_of_lt l))) r)) (rw i at q))
    ∙ ap (raised s) (entering_more s ps vs N.lengths e l refl)
  where
    unnamed : (k : ℕ) → k < e → at (take e ps) k ≡ at ps e → ⊥
    unnamed k m r = once k e m l (sym (get_or-take e ps k 0 m) ∙ r)

-- the first half ended in a, where named inputs that are not changed still have their states: entering once more is lowering
module _ (s a ps vs : List ℕ) (N : Named (changes_of ps vs) (length s)) (once : Once (changes_of ps vs)) (long : length a ≡ length s)
    (held : (e : ℕ) → e < length ps → at a (at ps e) ≡ at (raised s (put s ps vs)) (at ps e)) where
  abbrev to : List ℕ
  to = put s ps vs

  lowered-named : (e : ℕ) → e < length ps → at (put a ps vs) (at ps e) ≡ cond (changed s to (at ps e)) (at to (at ps e)) (at a (at ps e))
  lowered-named e l = put-named a ps vs N.lengths once e l (omega (arith, N.below e l)) ∙ sym (put-named s ps vs N.lengths once e l (N.below e l)) ∙ go (changed s to (at ps e)) refl
    where
      go : (b : Bool) → changed s to (at ps e) ≡ b → at to (at ps e) ≡ cond b (at to (at ps e)) (at a (at ps e))
      go true h = refl
      go false h =
          sym (eqb-true (at s (at ps e)) (at to (at ps e)) (not-false _ h))
          ∙ sym (held e l ∙ raised_at s to (at ps e) (N.below e l) ∙ ap (λ (b : Bool). cond b 2 (at s (at ps e))) h)

  lowered-at : (v : ℕ) → at (put a ps vs) v ≡ cond (changed s to v) (at to v) (at a v)
  lowered-at v = go (some (length ps) (λ e. eqb (at ps e) v)) refl
    where
      go : (b : Bool) → some (length ps) (λ e. eqb (at ps e) v) ≡ b → at (put a ps vs) v ≡ cond (changed s to v) (at to v) (at a v)
      go true h = let r = some_at (length ps) (λ e. eqb (at ps e) v) h in subst (λ (x : ℕ). at (put a ps vs) x ≡ cond (changed s to x) (at to x) (at a x)) (eqb-true (at ps r.0) v r.2) (lowered-named r.0 r.1)
      go false h =
          let un : (e : ℕ) → e < length ps → at ps e ≡ v → ⊥ = λ e l q. true≢false (sym (some_of (length ps) (λ e. eqb (at ps e) v) e l (eq-eqb _ _ q)) ∙ h) in
          put_unnamed a ps vs v un ∙ sym (ap (λ (b : Bool). cond b (at to v) (at a v)) (not-changed s to v (put_unnamed s ps vs v un)))

  pub lowering : put a ps vs ≡ lowered s to a
  unfolding lowered
  lowering =
      ext_get_or 0 (put a ps vs) (tab (length s) _) (length-put a ps vs ∙ long ∙ sym (length-tab (length s) _))
      (λ v l. lowered-at v ∙ sym (get_or-tab (length s) _ 0 v (omega (arith, length-put a ps vs))))

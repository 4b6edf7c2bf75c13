-- What entering a change list does: the named nodes take their new states, the others keep theirs, and the order of the list shows nowhere.
-- Assumes nothing.
use Prim.Native.Nat.{ℕ, zero, suc, ◌<◌}
use native.Mathlib.Nat.{not-suc-le-zero, le_of_suc-le-suc}
use native.Mathlib.Omega.{arith}
use mathlib.Core.Path.{◌≡◌, refl, ap, ◌∙◌, sym}
use mathlib.Core.Logic.{inl, inr}
use mathlib.Core.Bool.{Bool, true, false, true≢false, false≢true}
use mathlib.Core.List.{List, [], ◌∷◌}
use lib.ListN.{length, set, length-set}
use lib.Seq.{ext_get_or, get_or-set_same}
use lib.Dec.{eqb}
use borrow.Author.Tests.{eqb-true, ltb-true, ltb-false, not-false, eq-eqb}
use Rattle.model.specs.Places.{at, some, any}
use Rattle.model.specs.Net.{Net, nodes, is_input}
use Rattle.model.specs.Run.{Changes, put, entered}
use Rattle.model.specs.Rules.{change_tests}
use Rattle.model.specs.Alike.{Listed}
use Rattle.model.specs.Demands.{Enterable}
use Rattle.laws.proofs.Places.{some_of, some_at}
use Rattle.laws.proofs.Judged.{any_none}
use Rattle.laws.proofs.Cover.{set_at}

pub length-put : (s ps vs : List ℕ) → length (put s ps vs) ≡ length s
length-put s [] vs = refl
length-put s (p ∷ ps) [] = refl
length-put s (p ∷ ps) (v ∷ vs) = length-put (set s p v) ps vs ∙ length-set s p v

-- a node that is not named keeps its state
pub put_unnamed : (s ps vs : List ℕ) (v : ℕ) → ((e : ℕ) → e < length ps → at ps e ≡ v → ⊥) → at (put s ps vs) v ≡ at s v
put_unnamed s [] vs v h = refl
put_unnamed s (p ∷ ps) [] v h = refl
put_unnamed s (p ∷ ps) (x ∷ vs) v h =
    put_unnamed (set s p x) ps vs v (λ e l. h (suc e) (omega arith))
    ∙ (elim (set_at s p x v) [ inl e ↦ e | inr r ↦ absurd (h zero (omega arith) (sym r.0)) ])

-- a node that is named, once, takes its new state
pub put-named : (s ps vs : List ℕ) → length vs ≡ length ps → ((k e : ℕ) → k < e → e < length ps → at ps k ≡ at ps e → ⊥)
    → (e : ℕ) → e < length ps → at ps e < length s → at (put s ps vs) (at ps e) ≡ at vs e
put-named s [] vs q once e l b = absurd (not-suc-le-zero l)
put-named s (p ∷ ps) [] q once e l b = absurd (omega arith)
put-named s (p ∷ ps) (x ∷ vs) q once zero l b =
    put_unnamed (set s p x) ps vs p (λ e m h. once zero (suc e) (omega arith) (omega arith) (sym h)) ∙ get_or-set_same s p x 0 b
put-named s (p ∷ ps) (x ∷ vs) q once (suc e) l b =
    put-named (set s p x) ps vs (omega arith) (λ k j a c. once (suc k) (suc j) (omega arith) (omega arith)) e (le_of_suc-le-suc l) (omega (arith, length-set s p x, b))

-- a change list that is not refused
pub clean_changes : (net : Net) (ch : Changes) → ((e : ℕ) → e < length ch.places → any (change_tests net ch e) ≡ false) → Enterable (nodes net) (is_input net) ch
unfolding change_tests
clean_changes net ch h =
    record {
      below = λ e l. ltb-true _ _ (not-false _ (any_none (change_tests net ch e) (h e l) 0));
      inputs = λ e l. not-false _ (any_none (change_tests net ch e) (h e l) 1);
      known = λ e l. ltb-false _ _ (any_none (change_tests net ch e) (h e l) 2);
      once = λ k e m l q. false≢true (sym (any_none (change_tests net ch e) (h e l) 3) ∙ some_of e (λ j. eqb (at ch.places j) (at ch.places e)) k m (eq-eqb _ _ q));
    }

module _ (n : ℕ) (input : ℕ → Bool) (s : List ℕ) (sized : length s ≡ n) where
  -- the changes reach inputs alone
  pub entered_others : (ch : Changes) → Enterable n input ch → (v : ℕ) → input v ≡ false → at (entered s ch) v ≡ at s v
  entered_others ch E v i = put_unnamed s ch.places ch.values v (λ e l q. true≢false (sym (E.inputs e l) ∙ (ap input q ∙ i)))

  -- two lists of the same changes enter the same
  pub entered-listed : (ch other : Changes) → length ch.values ≡ length ch.places → length other.values ≡ length other.places
      → Enterable n input ch → Enterable n input other → Listed ch other → Listed other ch → entered s ch ≡ entered s other
  entered-listed ch other a b E O there back =
      ext_get_or 0 (entered s ch) (entered s other) (length-put s ch.places ch.values ∙ sym (length-put s other.places other.values))
      (λ v l. go v (some (length ch.places) (λ e. eqb (at ch.places e) v)) refl)
    where
      go : (v : ℕ) (c : Bool) → some (length ch.places) (λ e. eqb (at ch.places e) v) ≡ c → at (entered s ch) v ≡ at (entered s other) v
      go v true h =
          let r = some_at (length ch.places) (λ e. eqb (at ch.places e) v) h in
          let q : at ch.places r.0 ≡ v = eqb-true _ _ r.2 in
          let t = there r.0 r.1 in
          ap (at (entered s ch)) (sym q) ∙ put-named s ch.places ch.values a E.once r.0 r.1 (omega (arith, E.below r.0 r.1))
          ∙ sym t.3
          ∙ sym (put-named s other.places other.values b O.once t.0 t.1 (omega (arith, O.below t.0 t.1)))
          ∙ ap (at (entered s other)) (t.2 ∙ q)
      go v false h =
          put_unnamed s ch.places ch.values v (λ e l q. false≢true (sym h ∙ some_of (length ch.places) (λ j. eqb (at ch.places j) v) e l (eq-eqb _ _ q)))
          ∙ sym
          (put_unnamed s other.places other.values v
          (λ e l q. let t = back e l in false≢true (sym h ∙ some_of (length ch.places) (λ j. eqb (at ch.places j) v) t.0 t.1 (eq-eqb _ _ (t.2 ∙ q)))))

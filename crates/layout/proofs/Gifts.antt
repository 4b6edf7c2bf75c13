-- What the inputs behind one transistor bring to the nodes at its other end. Assumes nothing.
use Prim.Native.Nat.{ℕ, ◌+◌, ◌≤◌, ◌<◌}
use native.Mathlib.Omega.{arith}
use native.Mathlib.Decide.{ℕ_discrete}
use mathlib.Core.Path.{◌≡◌, refl, sym, ap, ◌∙◌, subst}
use mathlib.Core.Logic.{◌⊎◌, inl, inr}
use mathlib.Core.Bool.{Bool, true, false, cond}
use mathlib.Core.List.{List}
use borrow.Author.Tests.{ne_eqb, ltb-true}
use Rattle.model.specs.Places.{at}
use Rattle.model.specs.Net.{Net, nodes, is_input, is_pullup, source_state}
use Rattle.model.specs.Ways.{Joins}
use Rattle.model.specs.RuleOne.{own_strength, frame}
use Rattle.branches.specs.Code.{telling, mark_of, together}
use Rattle.layout.specs.Layout.{shut, doubtful, Behind, behind, Source, itself, given, Tells, Offered, nothing, something}
use Rattle.layout.proofs.Telling.{tells_same, tells_alone, tells_more, together_none}

module _ (net : Net) (s : List ℕ) where
  -- an input's state as a source is its own
  input_state : (u : ℕ) → is_input net u ≡ true → at s u ≡ source_state net s u
  input_state u e = rw (ne_eqb (at net.kinds u) 1 (λ q. absurd (omega (arith, ltb-true 1 (at net.kinds u) e)))) refl

  behind_more : {ok : ℕ → Bool} {t v x : ℕ} → Behind net s ok t v x → Behind net s ok (t + 1) v x
  behind_more (behind i w l j b p o e) = behind i w (omega arith) j b p o e

  -- behind an earlier transistor, or behind the last
  behind_case : {A : Type 0} {ok : ℕ → Bool} {t v x : ℕ} → Behind net s ok (t + 1) v x → (Behind net s ok t v x → A)
      → ((w : ℕ) → Joins (frame net) t v w → is_input net w ≡ true → ok t ≡ true → x ≡ source_state net s w → A) → A
  behind_case {A} {ok} {t} {v} (behind i w l j b p o e) old new = go (ℕ_discrete i t)
    where
      go : Dec (i ≡ t) → A
      go (yes q) = new w (subst (λ (i : ℕ). Joins (frame net) i v w) q j) p (sym (ap ok q) ∙ o) e
      go (no q) = old (behind i w (omega arith) j b p o e)

  -- transistor t brings nothing to v, over the transistors that `ok` marks
  abbrev pub Quiet : (ℕ → Bool) → ℕ → ℕ → Type 0
  Quiet ok t v = (w : ℕ) → Joins (frame net) t v w → is_input net w ≡ true → ok t ≡ true → ⊥

  -- it brings v what the input u has, and no more
  pub record Brings (ok : ℕ → Bool) (t v u : ℕ) : Type 0 where
    pub joins : Joins (frame net) t v u
    pub inside : u < nodes net
    pub input : is_input net u ≡ true
    pub passes : ok t ≡ true
    pub only : (w : ℕ) → Joins (frame net) t v w → is_input net w ≡ true → w ≡ u

  behind_quiet : {ok : ℕ → Bool} {t v x : ℕ} → Quiet ok t v → Behind net s ok (t + 1) v x → Behind net s ok t v x
  behind_quiet q b = behind_case b (λ b. b) (λ w j p o e. absurd (q w j p o))

  behind_new : {ok : ℕ → Bool} {t v u : ℕ} → Brings ok t v u → Behind net s ok (t + 1) v (at s u)
  behind_new {t = t} {u = u} z = behind t u (omega arith) z.joins z.inside z.input z.passes (input_state u z.input)

  behind_either : {ok : ℕ → Bool} {t v u x : ℕ} → Brings ok t v u → Behind net s ok (t + 1) v x → Behind net s ok t v x ⊎ (x ≡ at s u)
  behind_either {u = u} z b = behind_case b (λ b. inl b) (λ w j p o e. inr (e ∙ ap (source_state net s) (z.only w j p) ∙ sym (input_state u z.input)))

  source_more : {t v : ℕ} (k x : ℕ) → Source net s t v k x → Source net s (t + 1) v k x
  source_more k x (itself p q) = itself p q
  source_more k x (given p b) = given p (behind_more b)

  module _ {t v c : ℕ} where
    pub sources_same : Quiet (shut net s) t v → Tells (Source net s t v) c → Tells (Source net s (t + 1) v) c
    sources_same q z = tells_same source_more back z
      where
        back : (k x : ℕ) → Source net s (t + 1) v k x → Source net s t v k x
        back k x (itself p r) = itself p r
        back k x (given p b) = given p (behind_quiet q b)

    pub sources_more : {u : ℕ} → Brings (shut net s) t v u → Tells (Source net s t v) c → Tells (Source net s (t + 1) v) (together c (telling 3 (mark_of (at s u))))
    sources_more {u} z y = tells_more (at s u) source_more (given refl (behind_new z)) (λ k x o. only k x o) y
      where
        only_go : (k x : ℕ) → k ≡ 3 → Behind net s (shut net s) t v x ⊎ (x ≡ at s u) → Source net s t v k x ⊎ ((k ≡ 3) × (x ≡ at s u))
        only_go k x p (inl b) = inl (given p b)
        only_go k x p (inr e) = inr (p, e)

        only : (k x : ℕ) → Source net s (t + 1) v k x → Source net s t v k x ⊎ ((k ≡ 3) × (x ≡ at s u))
        only k x (itself p q) = inl (itself p q)
        only k x (given p b) = only_go k x p (behind_either z b)

    pub offers_same : Quiet (doubtful net s) t v → Offered net s t v c → Offered net s (t + 1) v c
    offers_same q (nothing e f) = nothing e (λ x b. f x (behind_quiet q b))
    offers_same q (something z) = something (tells_same (λ k x o. (o.0, behind_more o.1)) (λ k x o. (o.0, behind_quiet q o.1)) z)

    pub offers_more : {u : ℕ} → Brings (doubtful net s) t v u → Offered net s t v c → Offered net s (t + 1) v (together c (telling 3 (mark_of (at s u))))
    offers_more {u} z (nothing e f) =
        something
        (subst (Tells _) (together_none c (at s u) e)
        (tells_alone _ 3 (at s u) (omega arith) (omega arith) (refl, behind_new z) (λ k x o. (o.0, only x (behind_either z o.1)))))
      where
        only : (x : ℕ) → Behind net s (doubtful net s) t v x ⊎ (x ≡ at s u) → x ≡ at s u
        only x (inl b) = absurd (f x b)
        only x (inr e) = e
    offers_more {u} z (something y) =
        something (tells_more (at s u) (λ k x o. (o.0, behind_more o.1)) (refl, behind_new z) (λ k x o. only k x o.0 (behind_either z o.1)) y)
      where
        only : (k x : ℕ) → k ≡ 3 → Behind net s (doubtful net s) t v x ⊎ (x ≡ at s u) → ((k ≡ 3) × Behind net s (doubtful net s) t v x) ⊎ ((k ≡ 3) × (x ≡ at s u))
        only k x p (inl b) = inl (p, b)
        only k x p (inr e) = inr (p, e)

  -- before any transistor
  behind_none : {ok : ℕ → Bool} {v x : ℕ} → Behind net s ok 0 v x → ⊥
  behind_none (behind i w l j b p o e) = absurd (omega arith)

  pub offers_none : (v : ℕ) → {u : ℕ} → u ≡ 0 → Offered net s 0 v u
  offers_none v e = nothing e (λ x b. behind_none b)

  pub sources_alone : (v : ℕ) → is_input net v ≡ false → Tells (Source net s 0 v) (telling (own_strength net v) (mark_of (source_state net s v)))
  sources_alone v e = tells_alone (Source net s 0 v) (own_strength net v) (source_state net s v) (own_few (is_pullup net v)).0 (own_few (is_pullup net v)).1 (itself (sym own_is) refl) only
    where
      own_is : (frame net).own v ≡ own_strength net v
      own_is = rw e refl

      own_few : (b : Bool) → (1 ≤ cond b 2 1) × (cond b 2 1 ≤ 3)
      own_few true = (omega arith, omega arith)
      own_few false = (omega arith, omega arith)

      only : (k x : ℕ) → Source net s 0 v k x → (k ≡ own_strength net v) × (x ≡ source_state net s v)
      only k x (itself p q) = (p ∙ own_is, q)
      only k x (given p b) = absurd (behind_none b)

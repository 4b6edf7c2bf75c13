-- The branches of rule one: those of the transistors that let pass, with no input at either end. Assumes nothing.
use Prim.Native.Nat.{ℕ, ◌+◌, ◌*◌, ◌/◌, ◌%◌, ◌<◌}
use native.Mathlib.Omega.{arith}
use native.Mathlib.Decide.{ℕ_discrete}
use mathlib.Core.Path.{◌≡◌, refl, sym, ◌∙◌}
use mathlib.Core.Logic.{◌⊎◌, inl, inr}
use mathlib.Core.Bool.{Bool, true, false, not, ◌&&◌, ◌||◌, and-eq-true_iff}
use mathlib.Core.List.{List, []}
use borrow.Author.Tests.{not-true}
use Rattle.model.specs.Places.{at}
use Rattle.model.specs.Net.{Net, nodes, transistors, inputs, is_input, Stand, opened, closed, unknown, stand_at}
use Rattle.model.specs.Ways.{Frame, Inside, Joins, choose}
use Rattle.model.specs.RuleOne.{frame}
use Rattle.basis.specs.Sound.{Checked}
use Rattle.branches.specs.Branch.{Wires, end_of, near, far, branches, followed, ceiling_of}
use Rattle.branches.proofs.Ends.{half_even, half_odd, end_at, end_else, end_even, end_odd, end_all}
use Rattle.layout.specs.Layout.{wires}
use Rattle.strengths.proofs.Least.{Draws}

-- the two ends of a transistor may be told in either order
pub joins_back : (F : Frame) {t v w : ℕ} → Joins F t v w → Joins F t w v
joins_back F (l, inl (a, b)) = (l, inr (b, a))
joins_back F (l, inr (a, b)) = (l, inl (b, a))

-- a branch is followed where its transistor lets pass and neither end is an input
by_stand : (x : Stand) (all free : Bool) → ((choose x true && free) && (all || not (choose x true && not (choose x false)))) ≡ (choose x all && free)
by_stand opened all free = refl
by_stand closed true true = refl
by_stand closed true false = refl
by_stand closed false true = refl
by_stand closed false false = refl
by_stand unknown true true = refl
by_stand unknown true false = refl
by_stand unknown false true = refl
by_stand unknown false false = refl

no_ceiling : (t : ℕ) → ceiling_of [] t ≡ 3
unfolding ceiling_of
no_ceiling t = refl

module _ (net : Net) (s : List ℕ) {room : ℕ} (C : Checked net s room) (all : Bool) where
  abbrev G : Wires
  G = wires net s []

  abbrev ok : ℕ → Bool
  ok t = choose (stand_at net s t) all

  abbrev plain : ℕ → Bool
  plain h = ok (h / 2) && (not (inputs net.kinds (near G h)) && not (inputs net.kinds (far G h)))

  followed_is : (h : ℕ) → followed G all h ≡ plain h
  followed_is h = by_stand (stand_at net s (h / 2)) all (not (inputs net.kinds (near G h)) && not (inputs net.kinds (far G h)))

  followed_says : (h : ℕ) → followed G all h ≡ true → (ok (h / 2) ≡ true) × (is_input net (near G h) ≡ false) × (is_input net (far G h) ≡ false)
  followed_says h o =
      let p = (and-eq-true_iff _ _).0 (sym (followed_is h) ∙ o) in
      let q = (and-eq-true_iff _ _).0 p.1 in
      (p.0, not-true (is_input net (near G h)) q.0, not-true (is_input net (far G h)) q.1)

  link : (h : ℕ) → h < branches G → h / 2 < transistors net
  link h l = omega (arith, C.sources)

  below : (A B : List ℕ) → ((t : ℕ) → t < transistors net → at A t < nodes net) → ((t : ℕ) → t < transistors net → at B t < nodes net) → (h : ℕ) → h < branches G → end_of A B h < nodes net
  below A B a b h l = end_all (λ v. v < nodes net) A B h (a (h / 2) (link h l)) (b (h / 2) (link h l))

  -- a branch that is followed starts at a node that is no input
  pub near_inside : (h : ℕ) → h < branches G → followed G all h ≡ true → Inside (frame net) (near G h)
  near_inside h l o =
      (below net.sources net.drains (λ t i. (C.wired t i).source) (λ t i. (C.wired t i).drain) h l, (followed_says h o).1)

  pub draws : Draws (frame net) ok G all
  draws = record {
    size = refl;
    inside = λ h l o.
        (below net.drains net.sources (λ t i. (C.wired t i).drain) (λ t i. (C.wired t i).source) h l, (followed_says h o).2);
    joins = λ h l o. (link h l, ends h (ℕ_discrete (h % 2) 0));
    passes = λ h l o. (followed_says h o).0;
    ceilings = λ h l. no_ceiling (h / 2);
    every = λ P p t v w i k j o. each P p t v w i k j.0 j.1 o;
  }
    where
      ends : (h : ℕ) → Dec (h % 2 ≡ 0) → ((at net.sources (h / 2) ≡ far G h) × (at net.drains (h / 2) ≡ near G h)) ⊎ ((at net.drains (h / 2) ≡ far G h) × (at net.sources (h / 2) ≡ near G h))
      ends h (yes q) = inr (sym (end_at net.drains net.sources h q), sym (end_at net.sources net.drains h q))
      ends h (no q) = inl (sym (end_else net.drains net.sources h q), sym (end_else net.sources net.drains h q))

      follow : (h t v w : ℕ) → h / 2 ≡ t → far G h ≡ v → near G h ≡ w → ok t ≡ true → is_input net v ≡ false → is_input net w ≡ false → followed G all h ≡ true
      follow h t v w q f g o i k = followed_is h ∙ rw (q, f, g, o, i, k) refl

      each : (P : ℕ → ℕ → ℕ → Type 0) → ((h : ℕ) → h < branches G → followed G all h ≡ true → P (h / 2) (far G h) (near G h)) → (t v w : ℕ) → Inside (frame net) v → Inside (frame net) w → t < transistors net
          → ((at net.sources t ≡ v) × (at net.drains t ≡ w)) ⊎ ((at net.drains t ≡ v) × (at net.sources t ≡ w)) → ok t ≡ true → P t v w
      each P p t v w i k l (inl q) o =
          let f : far G (2 * t + 1) ≡ v = end_odd net.drains net.sources t ∙ q.0 in
          let n : near G (2 * t + 1) ≡ w = end_odd net.sources net.drains t ∙ q.1 in
          rw (half_odd t, f, n) at (p (2 * t + 1) (omega (arith, C.sources)) (follow (2 * t + 1) t v w (half_odd t) f n o i.1 k.1))
      each P p t v w i k l (inr q) o =
          let f : far G (2 * t) ≡ v = end_even net.drains net.sources t ∙ q.0 in
          let n : near G (2 * t) ≡ w = end_even net.sources net.drains t ∙ q.1 in
          rw (half_even t, f, n) at (p (2 * t) (omega (arith, C.sources)) (follow (2 * t) t v w (half_even t) f n o i.1 k.1))

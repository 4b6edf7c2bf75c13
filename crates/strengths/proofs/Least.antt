-- From cells in which strengths have spread to the least table that no transistor can lift: of any frame. Assumes nothing.
use Prim.Native.Nat.{ℕ, zero, suc, min, ◌+◌, ◌*◌, ◌-◌, ◌/◌, ◌≤◌, ◌<◌}
use native.Mathlib.Omega.{arith}
use native.Mathlib.Decide.{ℕ_discrete}
use mathlib.Core.Path.{◌≡◌, refl, sym, ap, ◌∙◌, subst}
use mathlib.Core.Bool.{Bool, true, false, true≢false}
use Rattle.model.specs.Ways.{Frame, Inside, Joins}
use Rattle.model.specs.Tables.{Came, began, over, Least}
use Rattle.branches.specs.Branch.{Wires, near, far, branches, followed, amount, ceiling_of}
use Rattle.strengths.specs.Spread as spread
use Rattle.strengths.specs.Spread.{Rose}
use Rattle.branches.specs.Code.{strength_of}
use Rattle.branches.proofs.Codes.{Coded, bare, real, coded, strength-bare, strength_real}

-- the branches that are followed are those of the frame's transistors that let pass and have no input
pub record Draws (F : Frame) (ok : ℕ → Bool) (G : Wires) (all : Bool) : Type 1 where
  pub size : G.size ≡ F.size
  pub inside : (h : ℕ) → h < branches G → followed G all h ≡ true → Inside F (far G h)
  pub joins : (h : ℕ) → h < branches G → followed G all h ≡ true → Joins F (h / 2) (far G h) (near G h)
  pub passes : (h : ℕ) → h < branches G → followed G all h ≡ true → ok (h / 2) ≡ true
  pub ceilings : (h : ℕ) → h < branches G → ceiling_of G.ceilings (h / 2) ≡ F.ceiling (h / 2)
  pub every : (P : ℕ → ℕ → ℕ → Type 0) → ((h : ℕ) → h < branches G → followed G all h ≡ true → P (h / 2) (far G h) (near G h)) → (t v w : ℕ) → Inside F v → Inside F w → Joins F t v w → ok t ≡ true → P t v w

-- cells that say what a table begins with, over a floor, and hold what inputs bring: no strength up to `last` could raise one
pub record Begun (F : Frame) (ok : ℕ → Bool) (low start : ℕ → ℕ) (last : ℕ) (x : ℕ → ℕ) : Type 0 where
  pub came : (v k : ℕ) → v < F.size → x v ≡ 2 * k + 1 → Came F ok low start v k
  pub above : (v : ℕ) → v < F.size → start v ≤ strength_of (x v)
  pub floor : (v k : ℕ) → Inside F v → x v < 2 * k → low v ≤ k
  pub bar : (v j k : ℕ) → Inside F v → x v ≡ 2 * j → low v ≤ k → 1 ≤ k → j < k
  pub high : (v : ℕ) → Inside F v → 2 * last ≤ x v
  pub given : (t v w : ℕ) → Inside F v → w < F.size → F.input w ≡ true → Joins F t v w → ok t ≡ true → 2 * min (strength_of (x w)) (F.ceiling t) ≤ x v

module _ {F : Frame} {ok : ℕ → Bool} {G : Wires} {all : Bool} {low start x : ℕ → ℕ} {last : ℕ} (D : Draws F ok G all) (B : Begun F ok low start last x) where
  rose_came : {v c : ℕ} → Rose G all x v c → (k : ℕ) → c ≡ 2 * k + 1 → Came F ok low start v k
  rose_came (spread.began v l) k e = B.came v k (omega (arith, D.size)) e
  rose_came (spread.over i h r l o p) k e =
      let a : amount G i h ≡ min i (F.ceiling (h / 2)) = ap (min i) (D.ceilings h l) in
      let f : k ≡ amount G i h = omega arith in
      subst (λ (z : ℕ). Came F ok low start (far G h) z) (sym (f ∙ a))
      (over (rose_came r i refl) (h / 2) (far G h) (D.inside h l o) (D.joins h l o) (D.passes h l o) (subst (λ (z : ℕ). low (far G h) ≤ z) a (B.floor (far G h) (amount G i h) (D.inside h l o) p)))

  rose_bare : {v c : ℕ} → Rose G all x v c → (k : ℕ) → c ≡ 2 * k → x v ≡ c
  rose_bare (spread.began v l) k e = refl
  rose_bare (spread.over i h r l o p) k e = absurd (omega arith)

  -- nothing comes to an input
  rose_input : {v c : ℕ} → Rose G all x v c → F.input v ≡ true → x v ≡ c
  rose_input (spread.began v l) e = refl
  rose_input (spread.over i h r l o p) e = absurd (true≢false (sym e ∙ (D.inside h l o).1))

  module _ {y : ℕ → ℕ} (rose : (v : ℕ) → v < G.size → Rose G all x v (y v)) (grows : (v : ℕ) → v < G.size → x v ≤ y v)
      (shut : (k h : ℕ) → last < k → h < branches G → followed G all h ≡ true → y (near G h) ≡ 2 * k + 1 → 2 * amount G k h ≤ y (far G h)) where
    in_size : {v : ℕ} → v < F.size → v < G.size
    in_size l = omega (arith, D.size)

    above_go : (v : ℕ) → v < F.size → Coded (y v) → Coded (x v) → start v ≤ strength_of (y v)
    above_go v l (bare k e) d = subst (λ (z : ℕ). start v ≤ strength_of z) (rose_bare (rose v (in_size l)) k e) (B.above v l)
    above_go v l (real k e) (bare j f) = omega (arith, B.above v l, strength-bare (x v) j f)
    above_go v l (real k e) (real j f) = omega (arith, B.above v l, strength_real (x v) j f, strength_real (y v) k e, grows v (in_size l))

    -- a strength a that can't raise y v, and that the floor lets in
    held : (v a : ℕ) → Inside F v → 2 * a ≤ y v → low v ≤ a → Coded (y v) → a ≤ strength_of (y v)
    held v a i p q (real k e) = omega (arith, strength_real (y v) k e)
    held v zero i p q (bare k e) = omega arith
    held v (suc a) i p q (bare k e) = absurd (omega (arith, B.bar v k (suc a) i (rose_bare (rose v (in_size i.0)) k e ∙ e) q (omega arith)))

    closed_go : (h : ℕ) → h < branches G → followed G all h ≡ true → Coded (y (near G h)) → low (far G h) ≤ min (strength_of (y (near G h))) (F.ceiling (h / 2)) → min (strength_of (y (near G h))) (F.ceiling (h / 2)) ≤ strength_of (y (far G h))
    closed_go h l o (bare k e) q = let z : strength_of (y (near G h)) ≡ 0 = strength-bare (y (near G h)) k e in omega (arith, z)
    closed_go h l o (real k e) q =
        let z : strength_of (y (near G h)) ≡ k = strength_real (y (near G h)) k e in
        let a : amount G k h ≡ min (strength_of (y (near G h))) (F.ceiling (h / 2)) = ap (min k) (D.ceilings h l) ∙ ap (λ (i : ℕ). min i (F.ceiling (h / 2))) (sym z) in
        subst (λ (i : ℕ). i ≤ strength_of (y (far G h))) a (held (far G h) (amount G k h) (D.inside h l o) (cannot (ℕ_discrete (k - last) 0)) (subst (λ (i : ℕ). low (far G h) ≤ i) (sym a) q) (coded (y (far G h))))
      where
        cannot : Dec (k - last ≡ 0) → 2 * amount G k h ≤ y (far G h)
        cannot (yes f) = omega (arith, B.high (far G h) (D.inside h l o), grows (far G h) (in_size (D.inside h l o).0))
        cannot (no f) = shut k h (omega arith) l o e

    -- what an input brings
    given_go : (t v w : ℕ) → Inside F v → w < F.size → F.input w ≡ true → Joins F t v w → ok t ≡ true → low v ≤ min (strength_of (y w)) (F.ceiling t) → min (strength_of (y w)) (F.ceiling t) ≤ strength_of (y v)
    given_go t v w i l e j o q =
        let z : x w ≡ y w = rose_input (rose w (in_size l)) e in
        let b : 2 * min (strength_of (y w)) (F.ceiling t) ≤ x v = subst (λ (c : ℕ). 2 * min (strength_of c) (F.ceiling t) ≤ x v) z (B.given t v w i l e j o) in
        held v (min (strength_of (y w)) (F.ceiling t)) i (omega (arith, b, grows v (in_size i.0))) q (coded (y v))

    closed_all : (t v w : ℕ) → Inside F v → w < F.size → Joins F t v w → ok t ≡ true → (b : Bool) → F.input w ≡ b → low v ≤ min (strength_of (y w)) (F.ceiling t) → min (strength_of (y w)) (F.ceiling t) ≤ strength_of (y v)
    closed_all t v w i l j o true e q = given_go t v w i l e j o q
    closed_all t v w i l j o false e q =
        D.every (λ t v w. low v ≤ min (strength_of (y w)) (F.ceiling t) → min (strength_of (y w)) (F.ceiling t) ≤ strength_of (y v)) (λ h a b. closed_go h a b (coded (y (near G h)))) t v w i (l, e) j o q

    comes_go : (v : ℕ) → v < F.size → Coded (y v) → Came F ok low start v (strength_of (y v))
    comes_go v l (real k e) = subst (λ (z : ℕ). Came F ok low start v z) (sym (strength_real (y v) k e)) (rose_came (rose v (in_size l)) k e)
    comes_go v l (bare k e) =
        let s : start v ≡ strength_of (y v) = omega (arith, B.above v l, ap strength_of (rose_bare (rose v (in_size l)) k e), strength-bare (y v) k e) in
        subst (λ (z : ℕ). Came F ok low start v z) s (began v l)

    pub least : Least F ok low start (λ v. strength_of (y v))
    least = record {
      above = λ v l. above_go v l (coded (y v)) (coded (x v));
      closed_under = λ t v w i l j o q. closed_all t v w i l j o (F.input w) refl q;
      comes = λ v l. comes_go v l (coded (y v));
    }

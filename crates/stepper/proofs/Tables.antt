-- One table of the step: the cells of a table that was filled are its least strengths. Assumes nothing.
use Prim.Native.Nat.{ℕ, min, ◌+◌, ◌*◌, ◌/◌, ◌%◌, ◌≤◌, ◌<◌}
use native.Mathlib.Omega.{arith}
use native.Mathlib.Decide.{ℕ_discrete}
use mathlib.Core.Path.{◌≡◌, refl, sym, ◌∙◌, subst}
use mathlib.Core.Bool.{Bool, true, false, cond}
use mathlib.Core.List.{List, []}
use lib.Dec.{eqb}
use borrow.Author.Tests.{eq-eqb, ne_eqb}
use Rattle.model.specs.Net.{Net, nodes, is_input, stand_at}
use Rattle.model.specs.Ways.{Frame, Inside, Joins, choose}
use Rattle.model.specs.Tables.{Came, began, Least}
use Rattle.model.specs.RuleOne.{frame}
use Rattle.basis.specs.Sound.{Checked}
use Rattle.branches.specs.Branch.{Wires, near, far, branches, followed, amount}
use Rattle.branches.specs.Code.{strength_of}
use Rattle.branches.proofs.Codes.{strength-bare, strength_real}
use Rattle.layout.specs.Layout.{wires}
use Rattle.strengths.specs.Spread as spread
use Rattle.strengths.specs.Spread.{Rose}
use Rattle.strengths.proofs.Least.{Begun, least}
use Rattle.stepper.specs.Step.{decided}
use Rattle.stepper.proofs.Drawn.{draws, near_inside}
use Rattle.stepper.proofs.Begins.{strongly, besides, start, start_input, Begins}

-- a table's cells, with those that inputs would have: 7, for the strength 3, where an input counts
module _ (net : Net) (s : List ℕ) (b : ℕ) where
  abbrev pub with_inputs : (ℕ → ℕ) → ℕ → ℕ
  with_inputs z v = cond (is_input net v) (cond (besides net s b v) 7 0) (z v)

  inner : (z : ℕ → ℕ) (v : ℕ) → is_input net v ≡ false → with_inputs z v ≡ z v
  inner z v e = rw e refl

  outer : (z : ℕ → ℕ) (v : ℕ) (a : Bool) → is_input net v ≡ true → besides net s b v ≡ a → with_inputs z v ≡ cond a 7 0
  outer z v a e f = rw (e, f) refl

-- one table
module _ (net : Net) (s : List ℕ) {room : ℕ} (C : Checked net s room) (b : ℕ) (x : ℕ → ℕ) (begins : (v : ℕ) → Inside (frame net) v → Begins net s b v (x v)) where
  abbrev F : Frame
  F = frame net

  abbrev G : Wires
  G = wires net s []

  begun : Begun F (λ t. choose (stand_at net s t) true) (strongly net s) (start net s b) 0 (with_inputs net s b x)
  begun = record {
    came = λ v k l e. came v k l e (is_input net v) refl (besides net s b v) refl;
    above = λ v l. above v l (is_input net v) refl (besides net s b v) refl;
    floor = λ v k i e. (begins v i).floor k (rw (inner net s b x v i.1) at e);
    bar = λ v j k i e. (begins v i).bar j k (sym (inner net s b x v i.1) ∙ e);
    high = λ v i. omega arith;
    given = λ t v u i l e j o. rw (inner net s b x v i.1) (given t v u i l e j o (besides net s b u) refl);
  }
    where
      came : (v k : ℕ) → v < F.size → with_inputs net s b x v ≡ 2 * k + 1 → (a : Bool) → is_input net v ≡ a → (d : Bool) → besides net s b v ≡ d → Came F (λ t. choose (stand_at net s t) true) (strongly net s) (start net s b) v k
      came v k l e false f d g = (begins v (l, f)).came k (sym (inner net s b x v f) ∙ e)
      came v k l e true f false g = absurd (omega (arith, sym (outer net s b x v false f g) ∙ e))
      came v k l e true f true g =
          let three : k ≡ 3 = omega (arith, sym (outer net s b x v true f g) ∙ e) in
          subst (λ (z : ℕ). Came F (λ t. choose (stand_at net s t) true) (strongly net s) (start net s b) v z) (start_input net s b v f g ∙ sym three) (began v l)

      above : (v : ℕ) → v < F.size → (a : Bool) → is_input net v ≡ a → (d : Bool) → besides net s b v ≡ d → start net s b v ≤ strength_of (with_inputs net s b x v)
      above v l false f d g = rw (inner net s b x v f) (begins v (l, f)).above
      above v l true f true g = rw (outer net s b x v true f g) (omega (arith, start_input net s b v f g, strength_real 7 3 refl))
      above v l true f false g = let z : start net s b v ≡ 0 = rw g refl in omega (arith, z)

      given : (t v u : ℕ) → Inside F v → u < F.size → is_input net u ≡ true → Joins F t v u → choose (stand_at net s t) true ≡ true → (d : Bool) → besides net s b u ≡ d → 2 * min (strength_of (with_inputs net s b x u)) 3 ≤ x v
      given t v u i l e j o true g = rw (outer net s b x u true e g) (omega (arith, strength_real 7 3 refl, (begins v i).given t u e l j o g))
      given t v u i l e j o false g = rw (outer net s b x u false e g) (omega (arith, strength-bare 0 0 refl))

  -- what rose at nodes that are no inputs rose so
  rose : {v c : ℕ} → Rose G true x v c → is_input net v ≡ false → Rose G true (with_inputs net s b x) v c
  rose (spread.began v l) e = subst (λ (z : ℕ). Rose G true (with_inputs net s b x) v z) (inner net s b x v e) (spread.began v l)
  rose (spread.over k h r l o p) e =
      spread.over k h (rose r (near_inside net s C true h l o).1) l o (subst (λ (z : ℕ). z < 2 * amount G k h) (sym (inner net s b x (far G h) e)) p)

  module _ (y : ℕ → ℕ) (sound : (v : ℕ) → v < nodes net → Rose G true x v (y v)) (grows : (v : ℕ) → v < nodes net → x v ≤ y v)
      (shut : (k h : ℕ) → 0 < k → h < branches G → followed G true h ≡ true → y (near G h) ≡ 2 * k + 1 → 2 * amount G k h ≤ y (far G h)) where
    pub table : Least F (λ t. choose (stand_at net s t) true) (strongly net s) (start net s b) (λ v. strength_of (with_inputs net s b y v))
    table = least (draws net s C true) begun (λ v l. sound_go v l (is_input net v) refl) (λ v l. grows_go v l (is_input net v) refl) shut_go
      where
        sound_go : (v : ℕ) → v < nodes net → (a : Bool) → is_input net v ≡ a → Rose G true (with_inputs net s b x) v (with_inputs net s b y v)
        sound_go v l false e = subst (λ (z : ℕ). Rose G true (with_inputs net s b x) v z) (sym (inner net s b y v e)) (rose (sound v l) e)
        sound_go v l true e = subst (λ (z : ℕ). Rose G true (with_inputs net s b x) v z) (same (besides net s b v) refl) (spread.began v l)
          where
            same : (d : Bool) → besides net s b v ≡ d → with_inputs net s b x v ≡ with_inputs net s b y v
            same d f = outer net s b x v d e f ∙ sym (outer net s b y v d e f)

        grows_go : (v : ℕ) → v < nodes net → (a : Bool) → is_input net v ≡ a → with_inputs net s b x v ≤ with_inputs net s b y v
        grows_go v l false e = rw (inner net s b x v e, inner net s b y v e) (grows v l)
        grows_go v l true e = rw (outer net s b x v (besides net s b v) e refl, outer net s b y v (besides net s b v) e refl) (omega arith)

        shut_go : (k h : ℕ) → 0 < k → h < branches G → followed G true h ≡ true → with_inputs net s b y (near G h) ≡ 2 * k + 1 → 2 * amount G k h ≤ with_inputs net s b y (far G h)
        shut_go k h p l o e =
            rw (inner net s b y (far G h) ((draws net s C true).inside h l o).1) (shut k h p l o (sym (inner net s b y (near G h) (near_inside net s C true h l o).1) ∙ e))

    -- a node has a strength there where its cell is odd
    odd : {v c : ℕ} → Inside F v → Rose G true x v c → c % 2 ≡ 1 → 3 ≤ c
    odd i (spread.began v l) o = (begins v i).odd o
    odd i (spread.over k h r l f p) o = omega arith

    pub none_even : (v : ℕ) → Inside F v → y v % 2 ≡ 0 → strength_of (with_inputs net s b y v) ≡ 0
    none_even v i e = rw (inner net s b y v i.1) (strength-bare (y v) (y v / 2) (omega arith))

    pub some_odd : (v : ℕ) → Inside F v → y v % 2 ≡ 1 → strength_of (with_inputs net s b y v) ≡ 0 → ⊥
    some_odd v i e z =
        absurd (omega (arith, odd i (sound v i.0) e, strength_real (y v) (y v / 2) (omega arith), subst (λ (q : ℕ). strength_of q ≡ 0) (inner net s b y v i.1) z))

-- what two tables say of a node, by whether its cells are odd
pub decided_by : (p q x y : ℕ) → (x % 2 ≡ 0 → p ≡ 0) → (x % 2 ≡ 1 → p ≡ 0 → ⊥) → (y % 2 ≡ 0 → q ≡ 0) → (y % 2 ≡ 1 → q ≡ 0 → ⊥) → decided x y ≡ cond (eqb p 0) 0 (cond (eqb q 0) 1 2)
decided_by p q x y a b c d = go (ℕ_discrete (x % 2) 0) (ℕ_discrete (y % 2) 0)
  where
    go : Dec (x % 2 ≡ 0) → Dec (y % 2 ≡ 0) → decided x y ≡ cond (eqb p 0) 0 (cond (eqb q 0) 1 2)
    go (yes e) f = rw (eq-eqb (x % 2) 0 e, eq-eqb p 0 (a e)) refl
    go (no e) (yes f) = rw (ne_eqb (x % 2) 0 e, ne_eqb p 0 (b (omega arith)), f, eq-eqb q 0 (c f)) refl
    go (no e) (no f) = let o : y % 2 ≡ 1 = omega arith in rw (ne_eqb (x % 2) 0 e, ne_eqb p 0 (b (omega arith)), o, ne_eqb q 0 (d o)) refl

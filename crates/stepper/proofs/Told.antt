-- What the cells of a joined set tell together: of all its sources. Assumes nothing.
use Prim.Native.Nat.{ℕ, ◌+◌, ◌/◌, ◌≤◌, ◌<◌}
use native.Mathlib.Omega.{arith}
use native.Mathlib.Decide.{ℕ_discrete, dec_lt}
use mathlib.Core.Path.{◌≡◌, refl, sym, ◌∙◌, subst}
use mathlib.Core.Logic.{inl, inr}
use mathlib.Core.Bool.{Bool, true, false, true≢false}
use mathlib.Core.List.{List, []}
use Rattle.model.specs.Places.{at}
use Rattle.model.specs.Net.{Net, nodes, transistors}
use Rattle.model.specs.Ways.{Inside}
use Rattle.model.specs.RuleOne.{frame}
use Rattle.basis.specs.Sound.{Checked}
use Rattle.branches.specs.Branch.{Wires}
use Rattle.branches.specs.Code.{telling, mark, together, unlike}
use Rattle.branches.proofs.Codes.{together-same, together-mixed, together_second, together-first}
use Rattle.layout.proofs.Telling.{unlike_either}
use Rattle.layout.specs.Layout.{wires, Source, Tells, LaidOut}
use Rattle.joined.specs.Sets.{Joined, here, on, Sum, one, both, SetOf}
use Rattle.stepper.proofs.Drawn.{draws}

-- of two marks one is unlike b, if they differ
one-unlike : (b m n : ℕ) → (1 ≤ m) × (m ≤ 3) → (1 ≤ n) × (n ≤ 3) → (m ≡ n → ⊥) → unlike b m ≡ false → unlike b n ≡ true
one-unlike b m n (m1, m3) (n1, n3) d e = elim (unlike_either b m n d m1 m3 n1 n3) [ inl u ↦ absurd (true≢false (sym u ∙ e)) | inr u ↦ u ]

-- whatever a cell tells is there
record Shown (P : ℕ → ℕ → Type 0) (c : ℕ) : Type 0 where
  k : ℕ
  m : ℕ
  is : c ≡ telling k m
  strength : (1 ≤ k) × (k ≤ 3)
  marked : (1 ≤ m) × (m ≤ 3)
  there : (b : ℕ) → b ≤ 1 → unlike b m ≡ true → (x : ℕ) × P k x × (x ≡ b → ⊥)

module _ {P : ℕ → ℕ → Type 0} {a b : ℕ} (A : Shown P a) (B : Shown P b) where
  shown_both : Shown P (together a b)
  shown_both = go (ℕ_discrete (a / 4) (b / 4)) (ℕ_discrete a b) (dec_lt a b)
    where
      go : Dec (a / 4 ≡ b / 4) → Dec (a ≡ b) → Dec (a < b) → Shown P (together a b)
      go (yes e) (yes f) l = subst (Shown P) (together-same a b e f) A
      go (no e) f (yes l) = subst (Shown P) (together_second a b e l) B
      go (no e) f (no l) = subst (Shown P) (together-first a b e (omega arith)) A
      go (yes e) (no f) l =
          subst (Shown P) (together-mixed a b e f) (record {
            k = A.k;
            m = 3;
            is = omega (arith, A.is, A.marked);
            strength = A.strength;
            marked = (omega arith, omega arith);
            there = λ z q u. from z q (unlike z A.m) refl;
          })
        where
          same : B.k ≡ A.k
          same = omega (arith, e, A.is, B.is, A.marked, B.marked)

          other : A.m ≡ B.m → ⊥
          other g = f (omega (arith, A.is, B.is, same, g))

          from : (z : ℕ) → z ≤ 1 → (x : Bool) → unlike z A.m ≡ x → (y : ℕ) × P A.k y × (y ≡ z → ⊥)
          from z q true u = A.there z q u
          from z q false u =
              let r = B.there z q (one-unlike z A.m B.m A.marked B.marked other u) in
              (r.0, subst (λ (i : ℕ). P i r.0) same r.1, r.2)

module _ (net : Net) (s : List ℕ) {room : ℕ} (C : Checked net s room) {w₀ w : List ℕ} (L : LaidOut net s (transistors net) w₀ w) {r : ℕ} (inside : Inside (frame net) r) where
  abbrev G : Wires
  G = wires net s []

  -- the sources of the set of r
  abbrev pub Ours : ℕ → ℕ → Type 0
  Ours k x = (u : ℕ) × Joined G r u × Inside (frame net) u × Source net s (transistors net) u k x

  pub joined_inside : {u : ℕ} → Joined G r u → Inside (frame net) u
  joined_inside here = inside
  joined_inside (on h j l o) = (draws net s C false).inside h l o

  shown : {c : ℕ} → Sum G w r c → Shown Ours c
  shown (one u j l) =
      let t = L.sources u (joined_inside j) in
      record {
        k = t.k;
        m = t.m;
        is = t.is;
        strength = t.strength;
        marked = t.marked;
        there = λ b q e. let f = t.there b q e in (f.0, (u, j, joined_inside j, f.1), f.2);
      }
  shown (both p q) = shown_both (shown p) (shown q)

  -- a joined set's cells tell of its sources
  pub told : {w' : List ℕ} (S : SetOf G w w' r) → Tells Ours S.c
  told S = record {
    k = z.k;
    m = z.m;
    is = z.is;
    strength = z.strength;
    marked = z.marked;
    most = λ j x p. let t = L.sources p.0 p.2 in omega (arith, t.most j x p.3, (S.whole p.0 p.1).lower, t.is, z.is, t.marked, z.marked);
    there = z.there;
    all = λ b x l p d. full b x l p d;
  }
    where
      z : Shown Ours S.c
      z = shown S.sum

      full : (b x : ℕ) → b ≤ 1 → Ours z.k x → (x ≡ b → ⊥) → unlike b z.m ≡ true
      full b x l (u, j, i, p) d =
          let t = L.sources u i in
          let e : t.k ≡ z.k = omega (arith, t.most z.k x p, (S.whole u j).lower, t.is, z.is, t.marked, z.marked) in
          let m : mark (at w (nodes net + u)) ≡ t.m = omega (arith, t.is, t.marked) in
          let n : mark S.c ≡ z.m = omega (arith, z.is, z.marked) in
          let f : unlike b t.m ≡ true = t.all b x l (subst (λ (k : ℕ). Source net s (transistors net) u k x) (sym e) p) d in
          subst (λ (y : ℕ). unlike b y ≡ true) n ((S.whole u j).kept b l (omega (arith, t.is, z.is, t.marked, z.marked, e)) (subst (λ (y : ℕ). unlike b y ≡ true) (sym m) f))

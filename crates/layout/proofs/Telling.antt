-- Marks of sources, and cells that tell of sources as these grow in number. Assumes nothing.
use Prim.Native.Nat.{ℕ, ◌+◌, ◌*◌, ◌/◌, ◌%◌, ◌≤◌, ◌<◌}
use native.Mathlib.Omega.{arith}
use native.Mathlib.Decide.{ℕ_discrete, dec_lt}
use mathlib.Core.Path.{◌≡◌, refl, sym, ◌∙◌, subst}
use mathlib.Core.Logic.{◌⊎◌, inl, inr}
use mathlib.Core.Bool.{true}
use borrow.Author.Tests.{eq-eqb, eqb-true, le-leb, leb-true}
use Rattle.branches.specs.Code.{telling, mark_of, together, unlike}
use Rattle.branches.proofs.Codes.{mark_x, mark_01, together-same, together-mixed, together_second, unlike_0, unlike_1}
use Rattle.layout.specs.Layout.{Tells}

pub mark_few : (x : ℕ) → (1 ≤ mark_of x) × (mark_of x ≤ 3)
mark_few x = go (dec_lt 1 x)
  where
    go : Dec (1 < x) → (1 ≤ mark_of x) × (mark_of x ≤ 3)
    go (yes l) = (omega (arith, mark_x x l), omega (arith, mark_x x l))
    go (no l) =
        let h : x ≤ 1 = omega arith in
        (omega (arith, mark_01 x h), omega (arith, mark_01 x h))

pub mark_limit : {m : ℕ} (x : ℕ) → m ≡ mark_of x → m ≤ 3
mark_limit {m} x e = omega (arith, (mark_few x).1)

-- what a mark is unlike, by numbers
pub unlike_case : {A : Type 0} (b m : ℕ) → unlike b m ≡ true → (b ≡ 0 → 2 ≤ m → A) → ((b ≡ 0 → ⊥) → m % 2 ≡ 1 → A) → A
unlike_case {A} b m e f g = go (ℕ_discrete b 0)
  where
    go : Dec (b ≡ 0) → A
    go (yes q) = f q (leb-true 2 m (unlike_0 b m q ∙ e))
    go (no q) = g q (eqb-true (m % 2) 1 (unlike_1 b m q ∙ e))

pub is_unlike : (b m : ℕ) → (b ≡ 0 → 2 ≤ m) → ((b ≡ 0 → ⊥) → m % 2 ≡ 1) → unlike b m ≡ true
is_unlike b m f g = go (ℕ_discrete b 0)
  where
    go : Dec (b ≡ 0) → unlike b m ≡ true
    go (yes q) = sym (unlike_0 b m q) ∙ le-leb 2 m (f q)
    go (no q) = sym (unlike_1 b m q) ∙ eq-eqb (m % 2) 1 (g q)

-- the mark of one source is unlike the states that the source is not at
pub mark-unlike : (b x : ℕ) → b ≤ 1 → unlike b (mark_of x) ≡ true → x ≡ b → ⊥
mark-unlike b x l u e =
    let f : x + 1 ≡ mark_of x = mark_01 x (omega arith) in
    unlike_case b (mark_of x) u (λ q h. absurd (omega arith)) (λ q h. absurd (omega arith))

pub unlike-mark : (b x : ℕ) → b ≤ 1 → (x ≡ b → ⊥) → unlike b (mark_of x) ≡ true
unlike-mark b x l n = go (dec_lt 1 x)
  where
    go : Dec (1 < x) → unlike b (mark_of x) ≡ true
    go (yes h) =
        let f : 3 ≡ mark_of x = mark_x x h in
        is_unlike b (mark_of x) (λ q. omega arith) (λ q. omega arith)
    go (no h) =
        let f : x + 1 ≡ mark_of x = mark_01 x (omega arith) in
        is_unlike b (mark_of x) (λ q. omega arith) (λ q. omega arith)

-- of two marks that differ, one is unlike b
pub unlike_either : (b m n : ℕ) → (m ≡ n → ⊥) → 1 ≤ m → m ≤ 3 → 1 ≤ n → n ≤ 3 → (unlike b m ≡ true) ⊎ (unlike b n ≡ true)
unlike_either b m n d m1 m3 n1 n3 = go (ℕ_discrete b 0) (ℕ_discrete m 1) (ℕ_discrete m 2)
  where
    go : Dec (b ≡ 0) → Dec (m ≡ 1) → Dec (m ≡ 2) → (unlike b m ≡ true) ⊎ (unlike b n ≡ true)
    go (yes q) (yes e) f = inr (is_unlike b n (λ q. omega arith) (λ r. absurd (r q)))
    go (yes q) (no e) f = inl (is_unlike b m (λ q. omega arith) (λ r. absurd (r q)))
    go (no q) e (yes f) = inr (is_unlike b n (λ r. absurd (q r)) (λ q. omega arith))
    go (no q) e (no f) = inl (is_unlike b m (λ r. absurd (q r)) (λ q. omega arith))

unlike-mixed : (b : ℕ) → unlike b 3 ≡ true
unlike-mixed b = is_unlike b 3 (λ q. omega arith) (λ q. omega arith)

-- the same sources
pub tells_same : {P Q : ℕ → ℕ → Type 0} {c : ℕ} → ((k x : ℕ) → P k x → Q k x) → ((k x : ℕ) → Q k x → P k x) → Tells P c → Tells Q c
tells_same {P} {Q} f g z = record {
  k = z.k;
  m = z.m;
  is = z.is;
  strength = z.strength;
  marked = z.marked;
  most = λ j x q. z.most j x (g j x q);
  there = λ b l u. ((z.there b l u).0, f z.k (z.there b l u).0 (z.there b l u).1, (z.there b l u).2);
  all = λ b x l q n. z.all b x l (g z.k x q) n;
}

-- one source
pub tells_alone : (P : ℕ → ℕ → Type 0) (k x : ℕ) → 1 ≤ k → k ≤ 3 → P k x → ((j y : ℕ) → P j y → (j ≡ k) × (y ≡ x)) → Tells P (telling k (mark_of x))
tells_alone P k x l h p only = record {
  k = k;
  m = mark_of x;
  is = refl;
  strength = (l, h);
  marked = mark_few x;
  most = λ j y q. omega (arith, (only j y q).0);
  there = λ b o u. (x, p, mark-unlike b x o u);
  all = λ b y o q n. unlike-mark b x o (λ e. n ((only k y q).1 ∙ e));
}

-- one source more, of the greatest strength
module _ {P Q : ℕ → ℕ → Type 0} (x : ℕ) (old : (j y : ℕ) → P j y → Q j y) (new : Q 3 x) (only : (j y : ℕ) → Q j y → P j y ⊎ ((j ≡ 3) × (y ≡ x)))
    {c : ℕ} (z : Tells P c) where
  few : (j y : ℕ) → P j y ⊎ ((j ≡ 3) × (y ≡ x)) → j ≤ 3
  few j y (inl p) = omega (arith, z.most j y p, z.strength.1)
  few j y (inr e) = omega (arith, e.0)

  -- weaker ones no longer count
  tells_stronger : z.k < 3 → Tells Q (telling 3 (mark_of x))
  tells_stronger l = record {
    k = 3;
    m = mark_of x;
    is = refl;
    strength = (omega arith, omega arith);
    marked = mark_few x;
    most = λ j y q. few j y (only j y q);
    there = λ b o u. (x, new, mark-unlike b x o u);
    all = λ b y o q n. all_go b y o n (only 3 y q);
  }
    where
      all_go : (b y : ℕ) → b ≤ 1 → (y ≡ b → ⊥) → P 3 y ⊎ (◌≡◌ {A = ℕ} 3 3 × (y ≡ x)) → unlike b (mark_of x) ≡ true
      all_go b y o n (inl p) = absurd (omega (arith, z.most 3 y p))
      all_go b y o n (inr e) = unlike-mark b x o (λ q. n (e.1 ∙ q))

  -- as strong ones at the same state stay
  tells_alike : z.k ≡ 3 → z.m ≡ mark_of x → Tells Q c
  tells_alike e f = record {
    k = z.k;
    m = z.m;
    is = z.is;
    strength = z.strength;
    marked = z.marked;
    most = λ j y q. omega (arith, few j y (only j y q));
    there = λ b o u. ((z.there b o u).0, old z.k (z.there b o u).0 (z.there b o u).1, (z.there b o u).2);
    all = λ b y o q n. all_go b y o n (only z.k y q);
  }
    where
      all_go : (b y : ℕ) → b ≤ 1 → (y ≡ b → ⊥) → P z.k y ⊎ ((z.k ≡ 3) × (y ≡ x)) → unlike b z.m ≡ true
      all_go b y o n (inl p) = z.all b y o p n
      all_go b y o n (inr e) = subst (λ (m : ℕ). unlike b m ≡ true) (sym f) (unlike-mark b x o (λ q. n (e.1 ∙ q)))

  -- as strong ones at other states mix
  tells_mixed : z.k ≡ 3 → (z.m ≡ mark_of x → ⊥) → Tells Q (telling 3 3)
  tells_mixed e f = record {
    k = 3;
    m = 3;
    is = refl;
    strength = (omega arith, omega arith);
    marked = (omega arith, omega arith);
    most = λ j y q. few j y (only j y q);
    there = λ b o u. there_go b o (unlike_either b z.m (mark_of x) f z.marked.0 z.marked.1 (mark_few x).0 (mark_few x).1);
    all = λ b y o q n. unlike-mixed b;
  }
    where
      there_go : (b : ℕ) → b ≤ 1 → (unlike b z.m ≡ true) ⊎ (unlike b (mark_of x) ≡ true) → (y : ℕ) × Q 3 y × (y ≡ b → ⊥)
      there_go b o (inl u) = ((z.there b o u).0, subst (λ (k : ℕ). Q k (z.there b o u).0) e (old z.k (z.there b o u).0 (z.there b o u).1), (z.there b o u).2)
      there_go b o (inr u) = (x, new, mark-unlike b x o u)

  pub tells_more : Tells Q (together c (telling 3 (mark_of x)))
  tells_more = go (ℕ_discrete z.k 3) (ℕ_discrete z.m (mark_of x))
    where
      rank_old : c / 4 ≡ 16 + z.k
      rank_old = omega (arith, z.is, z.marked.1)

      rank-new : telling 3 (mark_of x) / 4 ≡ 19
      rank-new = omega (arith, (mark_few x).1)

      go : Dec (z.k ≡ 3) → Dec (z.m ≡ mark_of x) → Tells Q (together c (telling 3 (mark_of x)))
      go (yes e) (yes f) = subst (Tells Q) (together-same c (telling 3 (mark_of x)) (omega (arith, rank_old, rank-new)) (omega (arith, z.is))) (tells_alike e f)
      go (yes e) (no f) =
          let shape : telling 3 3 ≡ 4 * (c / 4) + 3 = omega (arith, rank_old) in
          subst (Tells Q) (shape ∙ together-mixed c (telling 3 (mark_of x)) (omega (arith, rank_old, rank-new)) (λ q. f (omega (arith, z.is)))) (tells_mixed e f)
      go (no e) f =
          let l : z.k < 3 = omega (arith, z.strength.1) in
          subst (Tells Q) (together_second c (telling 3 (mark_of x)) (λ q. e (omega (arith, rank_old, rank-new))) (omega (arith, z.is, z.marked.1))) (tells_stronger l)

-- nothing, and a source
pub together_none : (c x : ℕ) → c ≡ 0 → telling 3 (mark_of x) ≡ together c (telling 3 (mark_of x))
together_none c x e = together_second c (telling 3 (mark_of x)) (λ q. absurd (omega (arith, (mark_few x).1))) (omega arith)

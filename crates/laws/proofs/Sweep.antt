-- Going over the transistors until nothing rises ends at a table that is closed, holds what it began with, and nothing that did not pass.
-- Assumes nothing.
use Prim.Native.Nat.{ℕ, zero, suc, min, ◌+◌, ◌*◌, ◌-◌, ◌≤◌, ◌<◌}
use native.Mathlib.Nat.{le_of_suc-le-suc, not-suc-le-zero, mul-suc}
use native.Mathlib.Omega.{arith}
use mathlib.Core.Path.{◌≡◌, refl, ap, ◌∙◌, sym, subst}
use mathlib.Core.Logic.{◌⊎◌, inl, inr}
use mathlib.Core.Bool.{Bool, true, false, not, cond, ◌&&◌, ◌||◌, and-eq-true_iff}
use mathlib.Core.List.{List}
use lib.ListN.{length, set, length-set, get_or-eq_default}
use lib.Seq.{ext_get_or, get_or-set_same}
use lib.Dec.{ltb, leb}
use borrow.Author.Tests.{ltb-true, ltb-false, leb-true, lt-ltb, le-leb, not-true}
use Rattle.model.specs.Places.{tab, at, iter}
use Rattle.model.specs.Ways.{Frame, Lawful, Inside, Joins}
use Rattle.model.specs.Tables.{raises, raise, relax, sweep_to, sweep, strongest, starts, Came, began, over, Least}
use Rattle.laws.proofs.Descent.{equal_or_differ, iter_keeps, descent}
use Rattle.laws.proofs.Places.{length-tab, get_or-tab}
use Rattle.laws.proofs.Settle.{until-iter}
use Rattle.laws.proofs.Cover.{set_at}
use Rattle.laws.proofs.Joined.{still_end}

-- sums over places
abbrev pub sum : ℕ → (ℕ → ℕ) → ℕ
sum zero f = 0
sum (suc n) f = f zero + sum n (λ i. f (suc i))

sum_le : (n : ℕ) (f g : ℕ → ℕ) → ((i : ℕ) → i < n → f i ≤ g i) → sum n f ≤ sum n g
sum_le zero f g h = omega arith
sum_le (suc n) f g h = omega (arith, h zero (omega arith), sum_le n (λ i. f (suc i)) (λ i. g (suc i)) (λ i l. h (suc i) (omega arith)))

pub sum_lt : (n : ℕ) (f g : ℕ → ℕ) → ((i : ℕ) → i < n → f i ≤ g i) → (k : ℕ) → k < n → f k < g k → sum n f < sum n g
sum_lt zero f g h k l e = absurd (not-suc-le-zero l)
sum_lt (suc n) f g h zero l e = omega (arith, sum_le n (λ i. f (suc i)) (λ i. g (suc i)) (λ i m. h (suc i) (omega arith)))
sum_lt (suc n) f g h (suc k) l e = omega (arith, h zero (omega arith), sum_lt n (λ i. f (suc i)) (λ i. g (suc i)) (λ i m. h (suc i) (omega arith)) k (le_of_suc-le-suc l) e)

sum_top : (n k : ℕ) (f : ℕ → ℕ) → ((i : ℕ) → f i ≤ k) → sum n f ≤ k * n
sum_top zero k f h = omega arith
sum_top (suc n) k f h = omega (arith, h zero, sum_top n k (λ i. f (suc i)) (λ i. h (suc i)), mul-suc k n)

-- an entry that is not 0 is in the table
pub at_below : (x : List ℕ) (b : ℕ) → 0 < at x b → b < length x
at_below x b h = go _ refl
  where
    go : (t : Bool) → ltb b (length x) ≡ t → b < length x
    go true e = ltb-true b (length x) e
    go false e = absurd (omega (arith, get_or-eq_default x 0 (ltb-false b (length x) e)))

-- no entry falls
abbrev pub Grows : List ℕ → List ℕ → Type 0
Grows x y = (length y ≡ length x) × ((v : ℕ) → at x v ≤ at y v)

pub grows_refl : (x : List ℕ) → Grows x x
grows_refl x = (refl, λ v. omega arith)

pub grows_trans : (x y z : List ℕ) → Grows x y → Grows y z → Grows x z
grows_trans x y z g h = (h.0 ∙ g.0, λ v. omega (arith, g.1 v, h.1 v))

pub grows_antisym : (x y : List ℕ) → Grows x y → Grows y x → y ≡ x
grows_antisym x y g h = ext_get_or 0 y x g.0 (λ v l. omega (arith, g.1 v, h.1 v))

module _ (F : Frame) (low : List ℕ) where
  raises-at : (t a b : ℕ) (x : List ℕ) → raises F.input low (F.ceiling t) a b x ≡ true → (F.input a ≡ false) × (at x a < min (at x b) (F.ceiling t)) × (at low a ≤ min (at x b) (F.ceiling t))
  unfolding raises
  raises-at t a b x e =
      let p = (and-eq-true_iff (not (F.input a)) (ltb (at x a) (min (at x b) (F.ceiling t)) && leb (at low a) (min (at x b) (F.ceiling t)))).0 e in
      let q = (and-eq-true_iff (ltb (at x a) (min (at x b) (F.ceiling t))) (leb (at low a) (min (at x b) (F.ceiling t)))).0 p.1 in
      (not-true (F.input a) p.0, ltb-true (at x a) (min (at x b) (F.ceiling t)) q.0, leb-true (at low a) (min (at x b) (F.ceiling t)) q.1)

  raises_of : (t a b : ℕ) (x : List ℕ) → F.input a ≡ false → at x a < min (at x b) (F.ceiling t) → at low a ≤ min (at x b) (F.ceiling t) → raises F.input low (F.ceiling t) a b x ≡ true
  unfolding raises
  raises_of t a b x i l m = (and-eq-true_iff _ _).1 (ap not i, (and-eq-true_iff _ _).1 (lt-ltb _ _ l, le-leb _ _ m))

  raise_grows : (t a b : ℕ) (x : List ℕ) → Grows x (raise F.input low (F.ceiling t) a b x)
  unfolding raise
  raise_grows t a b x = go (raises F.input low (F.ceiling t) a b x) refl
    where
      go : (c : Bool) → raises F.input low (F.ceiling t) a b x ≡ c → Grows x (cond c (set x a (min (at x b) (F.ceiling t))) x)
      go false e = grows_refl x
      go true e =
          let r = raises-at t a b x e in
          (length-set x a (min (at x b) (F.ceiling t)), λ v. elim (set_at x a (min (at x b) (F.ceiling t)) v) [ inl p ↦ omega (arith, p) | inr p ↦ omega (arith, p.1, ap (at x) p.0, r.1) ])

  -- where nothing rises, the table is closed between a and b
  raise_still : (t a b : ℕ) (x : List ℕ) → a < length x → raise F.input low (F.ceiling t) a b x ≡ x → F.input a ≡ false → at low a ≤ min (at x b) (F.ceiling t) → min (at x b) (F.ceiling t) ≤ at x a
  unfolding raise
  raise_still t a b x la e i m = go _ refl e
    where
      go : (c : Bool) → ltb (at x a) (min (at x b) (F.ceiling t)) ≡ c → cond (raises F.input low (F.ceiling t) a b x) (set x a (min (at x b) (F.ceiling t))) x ≡ x → min (at x b) (F.ceiling t) ≤ at x a
      go false l e = ltb-false (at x a) (min (at x b) (F.ceiling t)) l
      go true l e =
          let k = raises_of t a b x i (ltb-true (at x a) (min (at x b) (F.ceiling t)) l) m in
          let f : set x a (min (at x b) (F.ceiling t)) ≡ x = rw k at e in
          omega (arith, ap (λ (y : List ℕ). at y a) f, get_or-set_same x a (min (at x b) (F.ceiling t)) 0 la)

  module _ (ok : ℕ → Bool) where
    pub relax_grows : (t : ℕ) (x : List ℕ) → Grows x (relax F ok low t x)
    unfolding relax
    relax_grows t x = go (ok t)
      where
        a : ℕ
        a = F.left t

        b : ℕ
        b = F.right t

        y : List ℕ
        y = raise F.input low (F.ceiling t) a b x

        go : (k : Bool) → Grows x (cond k (raise F.input low (F.ceiling t) b a y) x)
        go true = grows_trans x y (raise F.input low (F.ceiling t) b a y) (raise_grows t a b x) (raise_grows t b a y)
        go false = grows_refl x

    sweep_to_grows : (t : ℕ) (x : List ℕ) → Grows x (sweep_to F ok low t x)
    sweep_to_grows zero x = grows_refl x
    sweep_to_grows (suc t) x = grows_trans x (sweep_to F ok low t x) (relax F ok low t (sweep_to F ok low t x)) (sweep_to_grows t x) (relax_grows t (sweep_to F ok low t x))

    sweep_grows : (x : List ℕ) → Grows x (sweep F ok low x)
    unfolding sweep
    sweep_grows x = sweep_to_grows F.links x

    -- what grows and grows back is still
    between : (x y z : List ℕ) → Grows x y → Grows y z → z ≡ x → y ≡ x
    between x y z g k e = grows_antisym x y g (subst (Grows y) e k)

    sweep_to_still : (n : ℕ) (x : List ℕ) → sweep_to F ok low n x ≡ x → (t : ℕ) → t < n → relax F ok low t x ≡ x
    sweep_to_still zero x e t l = absurd (not-suc-le-zero l)
    sweep_to_still (suc n) x e t l = go (sweep_to_still n x) _ refl
      where
        y : List ℕ
        y = sweep_to F ok low n x

        same : y ≡ x
        same = between x y (relax F ok low n y) (sweep_to_grows n x) (relax_grows n y) e

        last : relax F ok low n x ≡ x
        last = subst (λ (z : List ℕ). relax F ok low n z ≡ x) same e

        go : (y ≡ x → (j : ℕ) → j < n → relax F ok low j x ≡ x) → (b : Bool) → ltb t n ≡ b → relax F ok low t x ≡ x
        go rest true k = rest same t (ltb-true t n k)
        go rest false k = let q : t ≡ n = omega (arith, ltb-false t n k) in subst (λ (j : ℕ). relax F ok low j x ≡ x) (sym q) last

    relax_still : (t : ℕ) (x : List ℕ) → ok t ≡ true → relax F ok low t x ≡ x
        → (raise F.input low (F.ceiling t) (F.left t) (F.right t) x ≡ x) × (raise F.input low (F.ceiling t) (F.right t) (F.left t) x ≡ x)
    unfolding relax
    relax_still t x k e = (same, subst (λ (z : List ℕ). raise F.input low (F.ceiling t) b a z ≡ x) same both)
      where
        a : ℕ
        a = F.left t

        b : ℕ
        b = F.right t

        both : raise F.input low (F.ceiling t) b a (raise F.input low (F.ceiling t) a b x) ≡ x
        both = rw k at e

        same : raise F.input low (F.ceiling t) a b x ≡ x
        same = between x (raise F.input low (F.ceiling t) a b x) (raise F.input low (F.ceiling t) b a (raise F.input low (F.ceiling t) a b x)) (raise_grows t a b x) (raise_grows t b a (raise F.input low (F.ceiling t) a b x)) both

    pub sweep_closed : (x : List ℕ) → length x ≡ F.size → sweep F ok low x ≡ x → (t v w : ℕ) → Inside F v → Joins F t v w → ok t ≡ true → at low v ≤ min (at x w) (F.ceiling t) → min (at x w) (F.ceiling t) ≤ at x v
    unfolding sweep
    sweep_closed x len e t v w iv bt k m = go bt.1 (relax_still t x k (sweep_to_still F.links x e t bt.0))
      where
        go : ((F.left t ≡ v) × (F.right t ≡ w)) ⊎ ((F.right t ≡ v) × (F.left t ≡ w))
            → (raise F.input low (F.ceiling t) (F.left t) (F.right t) x ≡ x) × (raise F.input low (F.ceiling t) (F.right t) (F.left t) x ≡ x)
            → min (at x w) (F.ceiling t) ≤ at x v
        go (inl p) r = raise_still t v w x (omega (arith, iv.0, len)) (rw (p.0, p.1) at r.0) iv.1 m
        go (inr p) r = raise_still t v w x (omega (arith, iv.0, len)) (rw (p.0, p.1) at r.1) iv.1 m

    -- what holds at the start and passes on holds at the end
    module _ (Q : ℕ → ℕ → Type 0) (pass : (t v w k : ℕ) → Inside F v → w < F.size → Joins F t v w → ok t ≡ true → at low v ≤ min k (F.ceiling t) → 1 ≤ k → Q w k → Q v (min k (F.ceiling t))) where
      abbrev pub All : List ℕ → Type 0
      All x = (length x ≡ F.size) × ((v : ℕ) → v < F.size → Q v (at x v))

      raise_all : (t a b : ℕ) → ok t ≡ true → Joins F t a b → (x : List ℕ) → All x → All (raise F.input low (F.ceiling t) a b x)
      unfolding raise
      raise_all t a b k bt x q = go (raises F.input low (F.ceiling t) a b x) refl
        where
          go : (c : Bool) → raises F.input low (F.ceiling t) a b x ≡ c → All (cond c (set x a (min (at x b) (F.ceiling t))) x)
          go false e = q
          go true e =
              let r = raises-at t a b x e in
              let lb : b < F.size = omega (arith, at_below x b (omega (arith, r.1)), q.0) in (
                length-set x a (min (at x b) (F.ceiling t)) ∙ q.0,
                λ v l.
                    elim (set_at x a (min (at x b) (F.ceiling t)) v) [
                      | inl p ↦ subst (Q v) (sym p) (q.1 v l)
                      | inr p ↦
                          subst (Q v) (sym p.1)
                          (subst (λ (u : ℕ). Q u (min (at x b) (F.ceiling t))) (sym p.0) (pass t a b (at x b) (omega (arith, l, p.0), r.0) lb bt k r.2 (omega (arith, r.1)) (q.1 b lb)))
                    ],
              )

      relax_all : (t : ℕ) → t < F.links → (x : List ℕ) → All x → All (relax F ok low t x)
      unfolding relax
      relax_all t l x q = go (ok t) refl
        where
          a : ℕ
          a = F.left t

          b : ℕ
          b = F.right t

          go : (k : Bool) → ok t ≡ k → All (cond k (raise F.input low (F.ceiling t) b a (raise F.input low (F.ceiling t) a b x)) x)
          go false e = q
          go true e = raise_all t b a e (l, inr (refl, refl)) (raise F.input low (F.ceiling t) a b x) (raise_all t a b e (l, inl (refl, refl)) x q)

      sweep_to_all : (n : ℕ) → n ≤ F.links → (x : List ℕ) → All x → All (sweep_to F ok low n x)
      sweep_to_all zero l x q = q
      sweep_to_all (suc n) l x q = relax_all n l (sweep_to F ok low n x) (sweep_to_all n (omega arith) x q)

      pub sweep_all : (x : List ℕ) → All x → All (sweep F ok low x)
      unfolding sweep
      sweep_all x q = sweep_to_all F.links (omega arith) x q

      pub iter_all : (k : ℕ) (x : List ℕ) → All x → All (iter k (sweep F ok low) x)
      iter_all k x q = iter_keeps (sweep F ok low) All sweep_all k x q

    -- a table of entries up to `top` is still after `top` rounds for each node
    abbrev pub Small : List ℕ → Type 0
    Small x = (length x ≡ F.size) × ((v : ℕ) → v < F.size → at x v ≤ F.top)

    small_sweep : (x : List ℕ) → Small x → Small (sweep F ok low x)
    small_sweep x q = sweep_all (λ v k. k ≤ F.top) (λ t v w k a b c d e f g. omega arith) x q

    room : List ℕ → ℕ
    room x = sum F.size (λ v. F.top - at x v)

    room_falls : (x : List ℕ) → Small x → (sweep F ok low x ≡ x) ⊎ (room (sweep F ok low x) < room x)
    unfolding room
    room_falls x q =
        elim (equal_or_differ F.size (sweep F ok low x) x (small_sweep x q).0 q.0) [
          | inl e ↦ inl e
          | inr d ↦
              inr
              (sum_lt F.size (λ v. F.top - at (sweep F ok low x) v) (λ v. F.top - at x v) (λ v l. omega (arith, (sweep_grows x).1 v)) d.0 d.1
              (omega (arith, (sweep_grows x).1 d.0, (small_sweep x q).1 d.0 d.1, d.2)))
        ]

    iter_still : (x : List ℕ) → Small x → sweep F ok low (iter (F.top * F.size) (sweep F ok low) x) ≡ iter (F.top * F.size) (sweep F ok low) x
    unfolding room
    iter_still x q =
        still_end (sweep F ok low) (F.top * F.size) x
        (descent (sweep F ok low) Small room small_sweep room_falls (F.top * F.size) x q (sum_top F.size F.top _ (λ v. omega arith)))

    iter_grows : (k : ℕ) (x : List ℕ) → Grows x (iter k (sweep F ok low) x)
    iter_grows k x = iter_keeps (sweep F ok low) (Grows x) (λ y g. grows_trans x y (sweep F ok low y) g (sweep_grows y)) k x (grows_refl x)

-- what is computed is the least table above its start that no transistor can lift
module _ (F : Frame) (L : Lawful F) (from ok : ℕ → Bool) (low : List ℕ) where
  abbrev begin : List ℕ
  begin = tab F.size (starts F from (at low))

  abbrev end : List ℕ
  end = iter (F.top * F.size) (sweep F ok low) begin

  begin-at : (v : ℕ) → v < F.size → at begin v ≡ starts F from (at low) v
  begin-at v l = get_or-tab F.size (starts F from (at low)) 0 v l

  begin_small : (v : ℕ) → v < F.size → at begin v ≤ F.top
  begin_small v l = go (from v && (F.input v || leb (at low v) (F.own v))) (begin-at v l)
    where
      go : (c : Bool) → at begin v ≡ cond c (F.own v) 0 → at begin v ≤ F.top
      go true e = omega (arith, L.own_top v)
      go false e = omega arith

  abbrev Arrived : ℕ → ℕ → Type 0
  Arrived v k = Came F ok (at low) (starts F from (at low)) v k

  arrived : All F low ok Arrived (λ t v w k i l j o m pos c. over c t v i j o m) end
  arrived =
      iter_all F low ok Arrived (λ t v w k i l j o m pos c. over c t v i j o m) (F.top * F.size) begin
      (length-tab F.size (starts F from (at low)), λ v l. subst (Arrived v) (sym (begin-at v l)) (began v l))

  end_least : Least F ok (at low) (starts F from (at low)) (at end)
  end_least =
      record {
        above = λ v l. omega (arith, begin-at v l, (iter_grows F low ok (F.top * F.size) begin).1 v);
        closed_under = λ t v w i lw j o m. sweep_closed F low ok end arrived.0 (iter_still F low ok begin (length-tab F.size (starts F from (at low)), begin_small)) t v w i j o m;
        comes = arrived.1;
      }

  pub strongest_least : Least F ok (at low) (starts F from (at low)) (at (strongest F from ok low))
  unfolding strongest
  strongest_least = subst (λ (x : List ℕ). Least F ok (at low) (starts F from (at low)) (at x)) (sym (until-iter (sweep F ok low) (F.top * F.size) begin)) end_least

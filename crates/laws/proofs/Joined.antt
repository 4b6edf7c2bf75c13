-- The joined set is what walks of closed transistors reach. Assumes nothing.
use Prim.Native.Nat.{ℕ, zero, suc, ◌+◌, ◌-◌, ◌<◌}
use native.Mathlib.Nat.{zero-add, suc-add}
use native.Mathlib.Omega.{arith}
use mathlib.Core.Path.{◌≡◌, refl, ap, ◌∙◌, sym, subst}
use mathlib.Core.Logic.{◌⊎◌, inl, inr}
use mathlib.Core.Bool.{Bool, true, false, not, ◌&&◌, ◌||◌, true≢false, false≢true, and-eq-true_iff}
use mathlib.Core.List.{List}
use lib.ListN.{length, get_or, get_or-eq_default}
use lib.Seq.{ext_get_or}
use lib.Dec.{eqb, ltb}
use borrow.Author.Tests.{eqb-true, eq-eqb, not-true, ltb-true, ltb-false}
use Rattle.model.specs.Places.{tab, iter, some, at, count}
use Rattle.model.specs.Net.{Net, nodes, transistors, is_input, linked, spread, joined}
use Rattle.laws.proofs.Places.{length-tab, get_or-tab, some_at, some_of, or_true_cases, or_left, or_right}
use Rattle.laws.proofs.Descent.{count_lt, count_all, iter_fixed, iter_keeps, Still, descent}

-- membership of a set, and of a choice
abbrev pub ◌∈◌ : ℕ → List Bool → Type 0
w ∈ m = get_or m w false ≡ true

infix 4 ◌∈◌
-- a member is below the length
pub member_below : (m : List Bool) (w : ℕ) → w ∈ m → w < length m
member_below m w e = go _ refl
  where
    go : (b : Bool) → ltb w (length m) ≡ b → w < length m
    go true h = ltb-true w (length m) h
    go false h = absurd (false≢true (sym (get_or-eq_default m false (ltb-false w (length m) h)) ∙ e))

-- a table of n truth values is no larger than another, and equal, or smaller at a place
pub grow : (n : ℕ) (l m : List Bool) → length l ≡ n → length m ≡ n → ((i : ℕ) → i ∈ l → i ∈ m) → (m ≡ l) ⊎ ((i : ℕ) × (i < n) × (get_or l i false ≡ false) × (i ∈ m))
grow n l m p q sub = go _ refl
  where
    test : ℕ → Bool
    test i = not (get_or l i false) && get_or m i false

    both : (a b : Bool) → (not a && b) ≡ false → (a ≡ true → b ≡ true) → b ≡ a
    both true b e h = h refl
    both false b e h = e

    fails : some n test ≡ false → (i : ℕ) → i < n → (b : Bool) → test i ≡ b → test i ≡ false
    fails e i h true t = absurd (true≢false (sym (some_of n test i h t) ∙ e))
    fails e i h false t = t

    go : (b : Bool) → some n test ≡ b → (m ≡ l) ⊎ ((i : ℕ) × (i < n) × (get_or l i false ≡ false) × (i ∈ m))
    go true e =
        let r = some_at n test e in
        let h = (and-eq-true_iff (not (get_or l r.0 false)) (get_or m r.0 false)).0 r.2 in
        inr (r.0, r.1, not-true (get_or l r.0 false) h.0, h.1)
    go false e = inl (ext_get_or false m l (q ∙ sym p) (λ i h. both (get_or l i false) (get_or m i false) (fails e i (omega arith) _ refl) (sub i)))

pub iter-add : {A : Type 0} (f : A → A) (j k : ℕ) (a : A) → iter (j + k) f a ≡ iter k f (iter j f a)
iter-add f zero k a = ap (λ (n : ℕ). iter n f a) (zero-add k)
iter-add f (suc j) k a = ap (λ (n : ℕ). iter n f a) (suc-add j k) ∙ iter-add f j k (f a)

-- what is still within n steps is still after n
pub still_end : {A : Type 0} (f : A → A) (n : ℕ) (a : A) → Still f n a → f (iter n f a) ≡ iter n f a
still_end f n a r =
    let k = r.0 in
    let d : n ≡ k + (n - k) = omega (arith, r.1) in
    let e : iter n f a ≡ iter k f a = ap (λ (m : ℕ). iter m f a) d ∙ (iter-add f k (n - k) a ∙ iter_fixed f (n - k) (iter k f a) r.2) in
    ap f e ∙ (r.2 ∙ sym e)

module _ (net : Net) where
  -- the transistor t has the ends w and x
  abbrev pub Ends : ℕ → ℕ → ℕ → Type 0
  Ends t w x = ((at net.sources t ≡ w) × (at net.drains t ≡ x)) ⊎ ((at net.drains t ≡ w) × (at net.sources t ≡ x))

  module _ (c : List Bool) where
    -- a closed transistor links w to x
    pub record Link (w x : ℕ) : Type 0 where
      pub wire : ℕ
      pub below : wire < transistors net
      pub shut : wire ∈ c
      pub ends : Ends wire w x

    pub linked-at : (m : List Bool) (w : ℕ) → linked net c m w ≡ true → (x : ℕ) × (x ∈ m) × Link w x
    unfolding linked
    linked-at m w e = go (some_at (transistors net) _ e)
      where
        go : (t : ℕ) × (t < transistors net)
            × ((get_or c t false && (eqb (at net.sources t) w && get_or m (at net.drains t) false || eqb (at net.drains t) w && get_or m (at net.sources t) false)) ≡ true)
            → (x : ℕ) × (x ∈ m) × Link w x
        go r =
            let t = r.0 in
            let h = (and-eq-true_iff (get_or c t false) _).0 r.2 in
            elim (or_true_cases (eqb (at net.sources t) w && get_or m (at net.drains t) false) (eqb (at net.drains t) w && get_or m (at net.sources t) false) h.1) [
              | inl k ↦
                  (let j = (and-eq-true_iff (eqb (at net.sources t) w) _).0 k in
                  (at net.drains t, j.1, record { wire = t; below = r.1; shut = h.0; ends = inl (eqb-true _ _ j.0, refl) }))
              | inr k ↦
                  (let j = (and-eq-true_iff (eqb (at net.drains t) w) _).0 k in
                  (at net.sources t, j.1, record { wire = t; below = r.1; shut = h.0; ends = inr (eqb-true _ _ j.0, refl) }))
            ]

    pub linked_of : (m : List Bool) (w x : ℕ) → x ∈ m → Link w x → linked net c m w ≡ true
    unfolding linked
    linked_of m w x h l = some_of (transistors net) _ l.wire l.below ((and-eq-true_iff _ _).1 (l.shut, go l.ends))
      where
        t : ℕ
        t = l.wire

        go : Ends t w x → (eqb (at net.sources t) w && get_or m (at net.drains t) false || eqb (at net.drains t) w && get_or m (at net.sources t) false) ≡ true
        go (inl e) = or_left (eqb (at net.sources t) w && get_or m (at net.drains t) false) _ ((and-eq-true_iff _ _).1 (eq-eqb _ _ e.0, ap (λ (y : ℕ). get_or m y false) e.1 ∙ h))
        go (inr e) = or_right (eqb (at net.sources t) w && get_or m (at net.drains t) false) _ ((and-eq-true_iff _ _).1 (eq-eqb _ _ e.0, ap (λ (y : ℕ). get_or m y false) e.1 ∙ h))

    -- a chain of closed transistors leads from v to w without passing through an input
    pub data Walk (v : ℕ) : ℕ → Type 0 where
      here : Walk v v
      more : {w x : ℕ} → Walk v w → x < nodes net → is_input net x ≡ false → Link x w → Walk v x

    -- what is in the set was reached by a walk
    Sound : ℕ → List Bool → Type 0
    Sound v m = (w : ℕ) → w ∈ m → Walk v w

    first-set : ℕ → List Bool
    first-set v = tab (nodes net) (λ w. eqb w v)

    spread_at : (m : List Bool) (w : ℕ) → w < nodes net → get_or (spread net c m) w false ≡ (get_or m w false || not (is_input net w) && linked net c m w)
    unfolding spread
    spread_at m w h = get_or-tab (nodes net) _ false w h

    spread-length : (m : List Bool) → length (spread net c m) ≡ nodes net
    unfolding spread
    spread-length m = length-tab (nodes net) _

    spread_sound : (v : ℕ) (m : List Bool) → Sound v m → Sound v (spread net c m)
    unfolding Sound
    spread_sound v m h w e =
        let l : w < nodes net = omega (arith, member_below (spread net c m) w e, spread-length m) in
        elim (or_true_cases (get_or m w false) (not (is_input net w) && linked net c m w) (sym (spread_at m w l) ∙ e)) [
          | inl k ↦ h w k
          | inr k ↦
              (let j = (and-eq-true_iff (not (is_input net w)) (linked net c m w)).0 k in
              let r = linked-at m w j.1 in
              more (h r.0 r.1) l (not-true (is_input net w) j.0) r.2)
        ]

    first_sound : (v : ℕ) → Sound v (first-set v)
    unfolding Sound first-set
    first_sound v w e =
        let l : w < nodes net = omega (arith, member_below (first-set v) w e, length-tab (nodes net) (λ x. eqb x v)) in
        subst (Walk v) (sym (eqb-true w v (sym (get_or-tab (nodes net) _ false w l) ∙ e))) here

    pub joined_walk : (v w : ℕ) → w ∈ joined net c v → Walk v w
    unfolding joined Sound first-set
    joined_walk v w e = iter_keeps (spread net c) (Sound v) (spread_sound v) (nodes net) (first-set v) (first_sound v) w e

    -- the set is closed under one more round
    Grows : List Bool → Type 0
    Grows m = length m ≡ nodes net

    spread_grows : (m : List Bool) → length m ≡ nodes net → (i : ℕ) → i ∈ m → i ∈ spread net c m
    spread_grows m p i e = let l : i < nodes net = omega (arith, member_below m i e) in spread_at m i l ∙ or_left _ _ e

    missing : List Bool → ℕ
    missing m = count (nodes net) (λ i. not (get_or m i false))

    spread_less : (m : List Bool) → length m ≡ nodes net → (spread net c m ≡ m) ⊎ (missing (spread net c m) < missing m)
    unfolding missing
    spread_less m p =
        elim (grow (nodes net) m (spread net c m) p (spread-length m) (spread_grows m p)) [
          | inl e ↦ inl e
          | inr r ↦ inr (count_lt (nodes net) _ _ (λ i l e. keep i (get_or m i false) refl e) r.0 r.1 (ap not r.3) (ap not r.2))
        ]
      where
        keep : (i : ℕ) (b : Bool) → get_or m i false ≡ b → not (get_or (spread net c m) i false) ≡ true → not b ≡ true
        keep i true e h = absurd (false≢true (sym (ap not (spread_grows m p i e)) ∙ h))
        keep i false e h = refl

    joined_still : (v : ℕ) → Still (spread net c) (nodes net) (first-set v)
    unfolding missing first-set
    joined_still v =
        descent (spread net c) (λ (m : List Bool). length m ≡ nodes net) missing (λ m p. spread-length m) spread_less (nodes net) (first-set v) (length-tab (nodes net) _)
        (count_all (nodes net) _)

    joined_closed : (v : ℕ) → spread net c (joined net c v) ≡ joined net c v
    unfolding joined first-set
    joined_closed v = still_end (spread net c) (nodes net) (first-set v) (joined_still v)

    -- and a walk's end is in the set
    joined-first : (v : ℕ) → v < nodes net → v ∈ joined net c v
    unfolding joined first-set
    joined-first v h =
        (iter_keeps (spread net c) (λ (m : List Bool). (length m ≡ nodes net) × (v ∈ m)) (λ m p. (spread-length m, spread_grows m p.0 v p.1)) (nodes net) (first-set v)
        (length-tab (nodes net) _, get_or-tab (nodes net) _ false v h ∙ eq-eqb v v refl)).1

    pub walk_joined : (v w : ℕ) → v < nodes net → Walk v w → w ∈ joined net c v
    walk_joined v w h here = joined-first v h
    walk_joined v w h (more {w = x} p l i k) =
        ap (λ (m : List Bool). get_or m w false) (sym (joined_closed v))
        ∙ (spread_at (joined net c v) w l ∙ or_right (get_or (joined net c v) w false) _ ((and-eq-true_iff (not (is_input net w)) _).1 (ap not i, linked_of (joined net c v) w x (walk_joined v x h p) k)))

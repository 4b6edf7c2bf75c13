-- Both tables begin at the nodes of a set, one after the other. Assumes nothing.
use Prim.Native.Nat.{ℕ, ◌+◌, ◌*◌, ◌≤◌, ◌<◌}
use native.Mathlib.Omega.{arith}
use native.Mathlib.Decide.{ℕ_discrete}
use mathlib.Core.Path.{◌≡◌, refl, sym, ap, ◌∙◌}
use mathlib.Core.List.{List}
use mathlib.Core.Logic.{◌≢◌}
use lib.ListN.{length, set, length-set}
use lib.Seq.{get_or-set_same, get_or-set_other}
use Rattle.model.specs.Places.{at}
use Rattle.branches.specs.Code.{begin}
use Rattle.joined.specs.Floods.{Begun, begun, BegunAll}
use Rattle.joined.specs.Kept.{Listed}

-- what the code stores
pub begun_by : {n a code x y : ℕ} {w : List ℕ} → x ≡ begin 1 code (at w a) → y ≡ begin 0 code (at w a) → Begun n a code w (set (set w a x) (n + a) y)
begun_by e f = rw (e, f) begun

pub begun_none : (n code from : ℕ) (w : List ℕ) → BegunAll n code from w from w
begun_none n code from w = record {
  against0 = λ j l i. absurd (omega arith);
  against1 = λ j l i. absurd (omega arith);
  others = λ u l d. (refl, refl);
  after = λ j l. refl;
  long = refl;
}

module _ {n code from to k : ℕ} {w u : List ℕ} (L : Listed n from to w) (z : BegunAll n code from w k u) (low : from ≤ k) (high : k < to) where
  -- the node that is next
  abbrev a : ℕ
  a = at w (2 * n + k)

  next_node : at u (2 * n + k) ≡ a
  next_node = z.after (2 * n + k) (omega arith)

  inside : a < n
  inside = L.nodes k low high

  pub node_inside : at u (2 * n + k) < n
  node_inside = rw next_node inside

  -- nothing was written there
  fresh : at u a ≡ at w a
  fresh = (z.others a inside (λ j l i e. L.once j k l i high e)).1

  room : 4 * n ≤ length u
  room = omega (arith, L.fits, z.long)

  abbrev x : List ℕ
  x = set (set u a (begin 1 code (at u a))) (n + a) (begin 0 code (at u a))

  elsewhere : (j : ℕ) → j ≢ a → j ≢ n + a → at x j ≡ at u j
  elsewhere j p q = get_or-set_other (set u a (begin 1 code (at u a))) (n + a) j (begin 0 code (at u a)) 0 q ∙ get_or-set_other u a j (begin 1 code (at u a)) 0 p

  next0 : at x (n + a) ≡ begin 0 code (at w a)
  next0 = get_or-set_same (set u a (begin 1 code (at u a))) (n + a) (begin 0 code (at u a)) 0 (simp length-set (omega (arith, room, inside))) ∙ ap (begin 0 code) fresh

  next1 : at x a ≡ begin 1 code (at w a)
  next1 =
      get_or-set_other (set u a (begin 1 code (at u a))) (n + a) a (begin 0 code (at u a)) 0 (omega (arith, inside))
      ∙ get_or-set_same u a (begin 1 code (at u a)) 0 (omega (arith, room, inside))
      ∙ ap (begin 1 code) fresh

  others_stay : (y : ℕ) → y < n → (y ≡ a → ⊥) → (at x (n + y) ≡ at u (n + y)) × (at x y ≡ at u y)
  others_stay y l d = (elsewhere (n + y) (omega (arith, inside)) (λ e. d (omega arith)), elsewhere y d (omega arith))

  begun_next : BegunAll n code from w (k + 1) x
  begun_next = record {
    against0 = λ j l i. go0 j l i (ℕ_discrete j k);
    against1 = λ j l i. go1 j l i (ℕ_discrete j k);
    others = λ y l d.
        let s = others_stay y l (λ e. d k low (omega arith) (sym e)) in
        let o = z.others y l (λ j p q. d j p (omega arith)) in (s.0 ∙ o.0, s.1 ∙ o.1);
    after = λ j l. elsewhere j (omega (arith, inside)) (omega (arith, inside)) ∙ z.after j l;
    long = simp length-set z.long;
  }
    where
      apart : (j : ℕ) → from ≤ j → j < k → at w (2 * n + j) ≡ a → ⊥
      apart j l i e = L.once j k l i high e

      go0 : (j : ℕ) → from ≤ j → j < k + 1 → Dec (j ≡ k) → at x (n + at w (2 * n + j)) ≡ begin 0 code (at w (at w (2 * n + j)))
      go0 j l i (yes e) = rw e next0
      go0 j l i (no e) = (others_stay (at w (2 * n + j)) (L.nodes j l (omega arith)) (apart j l (omega arith))).0 ∙ z.against0 j l (omega arith)

      go1 : (j : ℕ) → from ≤ j → j < k + 1 → Dec (j ≡ k) → at x (at w (2 * n + j)) ≡ begin 1 code (at w (at w (2 * n + j)))
      go1 j l i (yes e) = rw e next1
      go1 j l i (no e) = (others_stay (at w (2 * n + j)) (L.nodes j l (omega arith)) (apart j l (omega arith))).1 ∙ z.against1 j l (omega arith)

  pub begun_more : {y : List ℕ} → Begun n (at u (2 * n + k)) code u y → BegunAll n code from w (k + 1) y
  begun_more b = go (rw next_node at b)
    where
      go : {y : List ℕ} → Begun n a code u y → BegunAll n code from w (k + 1) y
      go begun = begun_next

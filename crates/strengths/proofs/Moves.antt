-- What visits keep, one after the other. Assumes nothing.
use Prim.Native.Nat.{ℕ, ◌+◌, ◌*◌, ◌≤◌, ◌<◌}
use native.Mathlib.Omega.{arith}
use native.Mathlib.Nat.{le_refl, le_trans}
use native.Mathlib.Decide.{dec_lt}
use mathlib.Core.Path.{◌≡◌, refl, sym, ◌∙◌}
use mathlib.Core.Logic.{◌⊎◌, inl, inr}
use mathlib.Core.Bool.{Bool}
use mathlib.Core.List.{List}
use Rattle.model.specs.Places.{at}
use Rattle.branches.specs.Branch.{Wires, far, branches}
use Rattle.branches.proofs.Degrees.{total_ones}
use Rattle.branches.proofs.Lists.{linked-same}
use Rattle.strengths.specs.Spread.{cell, Rose, began, over}
use Rattle.strengths.specs.Level.{Held, Done, Expanded, Moved}

-- what rose from where something rose, and no cell was lower there
pub rose_on : {G : Wires} {all : Bool} {x y : ℕ → ℕ} → ((v : ℕ) → v < G.size → Rose G all x v (y v)) → ((v : ℕ) → v < G.size → x v ≤ y v) → ((h : ℕ) → h < branches G → far G h < G.size)
    → {v c : ℕ} → Rose G all y v c → Rose G all x v c
rose_on a b f (began v l) = a v l
rose_on {G} a b f (over k h r l o p) = over k h (rose_on a b f r) l o (omega (arith, b (far G h) (f h l)))

module _ {G : Wires} {all : Bool} {mem : ℕ → ℕ} {m table queue s : ℕ} where
  pub moved_none : {w : List ℕ} {k : ℕ} → Moved G all mem m table queue s w k w k
  moved_none = record {
    long = refl;
    other = λ j a b. refl;
    apart = λ v i d. refl;
    above = λ v i. le_refl _;
    sound = λ v i. began v i;
    kept = λ v i l. refl;
    stays = λ v i e. e;
    more = le_refl _;
    old = λ j i. refl;
    sum = λ f e. e;
    fresh = λ j a b. absurd (omega arith);
    came = λ v i e. inl e;
  }

  pub moved_then : {w u x : List ℕ} {k t r : ℕ} → Held G mem m table queue s w k → Moved G all mem m table queue s w k u t → Moved G all mem m table queue s u t x r
      → Moved G all mem m table queue s w k x r
  moved_then {w} {u} {x} {k} {t} {r} H a b = record {
    long = b.long ∙ a.long;
    other = λ j o q. b.other j o q ∙ a.other j o q;
    apart = λ v i d. b.apart v i d ∙ a.apart v i d;
    above = λ v i. le_trans (a.above v i) (b.above v i);
    sound = λ v i. rose_on a.sound a.above H.laid.fars (b.sound v i);
    kept = λ v i l. let e = b.kept v i l in a.kept v i (omega arith) ∙ e;
    stays = λ v i e. b.stays v i (a.stays v i e);
    more = le_trans a.more b.more;
    old = λ j i. b.old j (omega (arith, a.more)) ∙ a.old j i;
    sum = λ f e. b.sum f (a.sum f e);
    fresh = λ j p q. fresh_go j p q (dec_lt j t);
    came = λ v i e. came_go v i (b.came v i e);
  }
    where
      fresh_go : (j : ℕ) → k ≤ j → j < r → Dec (j < t) → (i : ℕ) × (i < m) × (at x (queue + j) ≡ mem i) × (cell x table (mem i) ≡ 2 * s + 1)
      fresh_go j p q (yes l) = let z = a.fresh j p l in (z.0, z.1, b.old j l ∙ z.2, b.stays (mem z.0) (H.nodes z.0 z.1) z.3)
      fresh_go j p q (no l) = b.fresh j (omega arith) q

      on : (v : ℕ) → (cell w table v ≡ 2 * s + 1) ⊎ ((j : ℕ) × (k ≤ j) × (j < t) × (at u (queue + j) ≡ v))
          → (cell w table v ≡ 2 * s + 1) ⊎ ((j : ℕ) × (k ≤ j) × (j < r) × (at x (queue + j) ≡ v))
      on v (inl e) = inl e
      on v (inr z) = inr (z.0, z.1, omega (arith, z.2, b.more), b.old z.0 z.2 ∙ z.3)

      came_go : (v : ℕ) → v < G.size → (cell u table v ≡ 2 * s + 1) ⊎ ((j : ℕ) × (t ≤ j) × (j < r) × (at x (queue + j) ≡ v))
          → (cell w table v ≡ 2 * s + 1) ⊎ ((j : ℕ) × (k ≤ j) × (j < r) × (at x (queue + j) ≡ v))
      came_go v i (inl e) = on v (a.came v i e)
      came_go v i (inr z) = inr (z.0, omega (arith, z.1, a.more), z.2, z.3)

  -- lists and members stay
  pub held_moved : {w u : List ℕ} {k t : ℕ} → Held G mem m table queue s w k → Moved G all mem m table queue s w k u t → Held G mem m table queue s u t
  held_moved {w} {u} {k} {t} H M = record {
    laid = rw M.long H.laid;
    linked = linked-same (λ j l. M.other j (inr (omega (arith, H.place))) (inr (omega (arith, H.fits)))) H.linked;
    place = H.place;
    nodes = H.nodes;
    once = H.once;
    closed = H.closed;
    behind = H.behind;
    fits = H.fits;
    counted = sym (total_ones t) ∙ M.sum (λ v. 1) (total_ones k ∙ H.counted);
  }

  -- what has nothing to bring still has nothing
  pub done_moved : {w u : List ℕ} {k t h : ℕ} → Held G mem m table queue s w k → Moved G all mem m table queue s w k u t → h < branches G → Done G table s w h → Done G table s u h
  done_moved {h = h} H M l d = le_trans d (M.above (far G h) (H.laid.fars h l))

  pub expanded_moved : {w u : List ℕ} {k t a : ℕ} → Held G mem m table queue s w k → Moved G all mem m table queue s w k u t → Expanded G all table s w a → Expanded G all table s u a
  expanded_moved H M x = λ h l e o. done_moved H M l (x h l e o)

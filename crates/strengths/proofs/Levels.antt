-- One level: its nodes are gathered, and taken from the queue until none waits. Assumes nothing.
use Prim.Native.Nat.{ℕ, ◌+◌, ◌*◌, ◌≤◌, ◌<◌}
use native.Mathlib.Omega.{arith}
use native.Mathlib.Decide.{ℕ_discrete, dec_lt}
use mathlib.Core.Path.{◌≡◌, refl, sym, ap, ap₂, ◌∙◌, subst}
use mathlib.Core.Logic.{◌⊎◌, inl, inr}
use mathlib.Core.Bool.{Bool, true}
use mathlib.Core.List.{List}
use lib.ListN.{length, set, length-set}
use lib.Seq.{get_or-set_same, get_or-set_other}
use borrow.Author.Tests.{eq-eqb, ne_eqb}
use Rattle.std.specs.Prelude.{Option}
use Rattle.model.specs.Places.{at}
use Rattle.branches.specs.Branch.{prefix, Wires, near, branches, followed, degrees}
use Rattle.branches.proofs.Degrees.{total-zero, total-next, total_ones, total-same, total-part, prefix_same}
use Rattle.branches.proofs.Lists.{linked-same}
use Rattle.strengths.specs.declared.Spread.{Spread}
use Rattle.strengths.specs.Spread.{cell, member_at, began, Ready, wires_of}
use Rattle.strengths.specs.Level.{share, weigh, Noted, other, noted, Gathered, Held, Done, Expanded, Moved, Fanned, Emptied, Level, Fannable, Waiting, Spreadable}
use Rattle.strengths.proofs.Sums.{weigh_few}
use Rattle.strengths.proofs.Moves.{rose_on, moved_none, moved_then, held_moved, expanded_moved}
use Rattle.strengths.proofs.Members.{member_same}
use Rattle.strengths.proofs.Costs.{weigh_bound}

pub gathered_none : {table : ℕ} {order : Option ℕ} {m queue c : ℕ} {w : List ℕ} → Gathered table order m queue c w 0 w 0
gathered_none {table} {order} {m} {queue} {c} {w} = record {
  long = refl;
  other = λ j _. refl;
  sum = λ f. total-zero (λ j. f (at w (queue + j))) ∙ sym (total-zero (λ k. share f w table c (member_at order w k)));
  queued = λ j l. absurd (omega arith);
  full = λ i l. absurd (omega arith);
}

module _ {G : Wires} {table : ℕ} {order : Option ℕ} {m queue c k tail : ℕ} {w u : List ℕ} (R : Ready G table order m queue w) (z : Gathered table order m queue c w k u tail) where
  -- no more than were looked at
  gathered_few : tail ≤ k
  gathered_few = omega (arith, sym (total_ones tail) ∙ z.sum (λ v. 1), weigh_few (member_at order w) k w table c)

  -- the table and the members stay
  gathered_cell : (v : ℕ) → v < G.size → cell u table v ≡ cell w table v
  gathered_cell v l = z.other (table + v) (inl (omega (arith, R.place, R.part.behind)))

  gathered_member : (i : ℕ) → i < m → member_at order u i ≡ member_at order w i
  gathered_member i l = member_same R u (λ j _ q. z.other j q) i l

  -- the next member is noted, if its cell is c
  module _ (kl : k < m) where
    abbrev v : ℕ
    v = member_at order w k

    vn : v < G.size
    vn = R.part.nodes k kl

    gathered_skip : (cell u table v ≡ c → ⊥) → Gathered table order m queue c w (k + 1) u tail
    gathered_skip d = record {
      long = z.long;
      other = z.other;
      sum = λ f. z.sum f ∙ sym (total-next (λ i. share f w table c (member_at order w i)) k ∙ rw (ne_eqb (cell w table v) c (λ e. d (gathered_cell v vn ∙ e))) (omega arith));
      queued = λ j l. let q = z.queued j l in (q.0, omega (arith, q.1), q.2, q.3);
      full = λ i l e. go i l e (ℕ_discrete i k);
    }
      where
        go : (i : ℕ) → i < k + 1 → cell w table (member_at order w i) ≡ c → Dec (i ≡ k) → (j : ℕ) × (j < tail) × (at u (queue + j) ≡ member_at order w i)
        go i l e (yes q) = absurd (d (gathered_cell v vn ∙ (rw q at e)))
        go i l e (no q) = z.full i (omega arith) e

    abbrev x : List ℕ
    x = set u (queue + tail) v

    in_queue : queue + tail < length u
    in_queue = omega (arith, gathered_few, z.long, R.part.fits, R.laid.fits)

    new_end : at x (queue + tail) ≡ v
    new_end = get_or-set_same u (queue + tail) v 0 in_queue

    old_end : (j : ℕ) → j < tail → at x (queue + j) ≡ at u (queue + j)
    old_end j l = get_or-set_other u (queue + tail) (queue + j) v 0 (λ e. absurd (omega arith))

    gathered_take : cell u table v ≡ c → Gathered table order m queue c w (k + 1) x (tail + 1)
    gathered_take e = record {
      long = simp length-set z.long;
      other = λ j q. get_or-set_other u (queue + tail) j v 0 (off j q) ∙ z.other j q;
      sum = λ f.
          total-next (λ j. f (at x (queue + j))) tail
          ∙ ap₂ ◌+◌ (prefix_same f u x queue tail old_end ∙ z.sum f) (ap f new_end)
          ∙ sym (total-next (λ i. share f w table c (member_at order w i)) k ∙ rw (eq-eqb (cell w table v) c e') refl);
      queued = λ j l. queued_go j l (ℕ_discrete j tail);
      full = λ i l q. full_go i l q (ℕ_discrete i k);
    }
      where
        e' : cell w table v ≡ c
        e' = sym (gathered_cell v vn) ∙ e

        off : (j : ℕ) → (j < queue) ⊎ (queue + m ≤ j) → j ≡ queue + tail → ⊥
        off j (inl l) q = omega arith
        off j (inr l) q = omega (arith, gathered_few)

        queued_go : (j : ℕ) → j < tail + 1 → Dec (j ≡ tail) → (i : ℕ) × (i < k + 1) × (at x (queue + j) ≡ member_at order w i) × (cell w table (member_at order w i) ≡ c)
        queued_go j l (yes q) = (k, omega arith, rw q new_end, e')
        queued_go j l (no q) = let r : j < tail = omega arith in let y = z.queued j r in (y.0, omega (arith, y.1), old_end j r ∙ y.2, y.3)

        full_go : (i : ℕ) → i < k + 1 → cell w table (member_at order w i) ≡ c → Dec (i ≡ k) → (j : ℕ) × (j < tail + 1) × (at x (queue + j) ≡ member_at order w i)
        full_go i l q (yes r) = (tail, omega arith, rw r new_end)
        full_go i l q (no r) = let y = z.full i (omega arith) q in (y.0, omega (arith, y.1), old_end y.0 y.1 ∙ y.2)

  pub gathered_requires : (b : ℕ) → k < m → b ≡ member_at order u k → (table + b < length u) × (queue + tail < length u) × (b < 4096) × (table ≤ 4096) × (queue + tail < 12288)
  gathered_requires b kl e =
      let l : b < G.size = omega (arith, e, gathered_member k kl, R.part.nodes k kl) in
      (omega (arith, R.place, R.laid.fits, z.long), in_queue kl, omega (arith, R.laid.few_nodes), omega (arith, R.place, R.laid.few_nodes), omega (arith, gathered_few, R.part.fits, R.laid.few_nodes))

  pub gathered_more : {b t : ℕ} {y : List ℕ} → k < m → b ≡ member_at order u k → Noted table queue c b u tail y t → Gathered table order m queue c w (k + 1) y t
  gathered_more {b} {t} {y} kl e n = on (subst (λ (i : ℕ). Noted table queue c i u tail y t) (e ∙ gathered_member k kl) n)
    where
      on : {t : ℕ} {y : List ℕ} → Noted table queue c (member_at order w k) u tail y t → Gathered table order m queue c w (k + 1) y t
      on (other d) = gathered_skip kl d
      on (noted q) = gathered_take kl q

-- the nodes before the k-th of the queue were taken from it
pub record Emptying (G : Wires) (all : Bool) (mem : ℕ → ℕ) (m table queue s : ℕ) (w : List ℕ) (end : ℕ) (u : List ℕ) (tail visits k : ℕ) : Type 0 where
  pub moved : Moved G all mem m table queue s w end u tail
  pub bound : k ≤ tail
  pub expanded : (j : ℕ) → j < k → Expanded G all table s u (at u (queue + j))
  pub counted : visits ≡ prefix (degrees G) u queue k

pub empty_start : {G : Wires} {all : Bool} {mem : ℕ → ℕ} {m table queue s end : ℕ} {w : List ℕ} → Emptying G all mem m table queue s w end w end 0 0
empty_start {G} {queue = queue} {w = w} = record { moved = moved_none; bound = omega arith; expanded = λ j l. absurd (omega arith); counted = sym (total-zero (λ j. degrees G (at w (queue + j)))) }

module _ {S : Spread} {s end : ℕ} {w : List ℕ} (y : Waiting S s w end) where
  abbrev G : Wires
  G = wires_of S y.listed y.unsure

  module _ {all : Bool} {u : List ℕ} {tail visits k : ℕ} (z : Emptying G all y.mem y.m S.table S.queue s w end u tail visits k) where
    pub empty_held : Held G y.mem y.m S.table S.queue s u tail
    empty_held = held_moved y.held z.moved

    -- each node of the queue takes part and has the strength s
    pub empty_queued : (j : ℕ) → j < tail → (i : ℕ) × (i < y.m) × (at u (S.queue + j) ≡ y.mem i) × (cell u S.table (y.mem i) ≡ 2 * s + 1)
    empty_queued j l = go (dec_lt j end)
      where
        go : Dec (j < end) → (i : ℕ) × (i < y.m) × (at u (S.queue + j) ≡ y.mem i) × (cell u S.table (y.mem i) ≡ 2 * s + 1)
        go (yes p) = let q = y.queued j p in (q.0, q.1, z.moved.old j p ∙ q.2, z.moved.stays (y.mem q.0) (y.held.nodes q.0 q.1) q.3)
        go (no p) = z.moved.fresh j (omega arith) l

    pub empty_few : tail ≤ y.m
    empty_few = omega (arith, empty_held.counted, weigh_few y.mem y.m u S.table (2 * s + 1))

    -- the next one may be taken
    abbrev pub empty_fannable : k < tail → Fannable S s (at u (S.queue + k)) u tail
    empty_fannable l = let q = empty_queued k l in record {
      listed = y.listed;
      unsure = y.unsure;
      mem = y.mem;
      m = y.m;
      held = empty_held;
      place = q.0;
      inside = q.1;
      member = sym q.2;
      strong = ap (cell u S.table) q.2 ∙ q.3;
    }

    -- no more visits than branches
    pub empty_visits : visits ≤ branches G
    empty_visits = omega (arith, z.counted, total-part (λ j. degrees G (at u (S.queue + j))) k tail z.bound, z.moved.sum (degrees G) (y.sum (degrees G)), weigh_bound G y.held.once u S.table (2 * s + 1))

    module _ (l : k < tail) {x : List ℕ} {t r : ℕ} (f : Fanned G all y.mem y.m S.table S.queue s (at u (S.queue + k)) u tail x t r) where
      pub empty_next : Emptying G all y.mem y.m S.table S.queue s w end x t (visits + r) (k + 1)
      empty_next = record {
        moved = moved_then y.held z.moved f.moved;
        bound = omega (arith, f.moved.more);
        expanded = λ j p. go j p (ℕ_discrete j k);
        counted =
            ap₂ ◌+◌
            (z.counted ∙ sym (prefix_same (degrees G) u x S.queue k (λ j p. f.moved.old j (omega arith))))
            (f.counted ∙ sym (ap (degrees G) (f.moved.old k l)))
            ∙ sym (total-next (λ j. degrees G (at x (S.queue + j))) k);
      }
        where
          go : (j : ℕ) → j < k + 1 → Dec (j ≡ k) → Expanded G all S.table s x (at x (S.queue + j))
          go j p (yes e) = rw (e, f.moved.old k l) f.expanded
          go j p (no e) = rw (f.moved.old j (omega arith)) (expanded_moved empty_held f.moved (z.expanded j (omega arith)))

    pub empty_end : tail ≤ k → Emptied G all y.mem y.m S.table S.queue s w end u tail visits
    empty_end l =
        let e : k ≡ tail = omega (arith, z.bound) in record { moved = z.moved; expanded = λ j p. z.expanded j (omega arith); counted = z.counted ∙ ap (prefix (degrees G) u S.queue) e }

-- the queue is full: the level may spread
module _ {S : Spread} {w u : List ℕ} {tail : ℕ} (y : Spreadable S w)
    (s : ℕ) (g : Gathered S.table S.order S.members S.queue (2 * s + 1) w S.members u tail) where
  abbrev H : Wires
  H = wires_of S y.listed y.unsure

  same-weigh : (f : ℕ → ℕ) → weigh f (member_at S.order w) S.members w S.table (2 * s + 1) ≡ weigh f (member_at S.order w) S.members u S.table (2 * s + 1)
  same-weigh f =
      total-same (λ i. share f w S.table (2 * s + 1) (member_at S.order w i)) (λ i. share f u S.table (2 * s + 1) (member_at S.order w i)) S.members
      (λ i l. rw (gathered_cell y.ready g (member_at S.order w i) (y.ready.part.nodes i l)) refl)

  pub level_sum : (f : ℕ → ℕ) → prefix f u S.queue tail ≡ weigh f (member_at S.order w) S.members u S.table (2 * s + 1)
  level_sum f = g.sum f ∙ same-weigh f

  pub level_held : Held H (member_at S.order w) S.members S.table S.queue s u tail
  level_held = let R = y.ready in record {
    laid = rw g.long R.laid;
    linked = linked-same (λ j l. g.other j (inr (omega (arith, R.part.fits)))) R.linked;
    place = R.place;
    nodes = R.part.nodes;
    once = R.part.once;
    closed = R.part.closed;
    behind = R.part.behind;
    fits = R.part.fits;
    counted = sym (total_ones tail) ∙ level_sum (λ v. 1);
  }

  pub level_queued : (j : ℕ) → j < tail → (i : ℕ) × (i < S.members) × (at u (S.queue + j) ≡ member_at S.order w i) × (cell u S.table (member_at S.order w i) ≡ 2 * s + 1)
  level_queued j l = let q = g.queued j l in (q.0, q.1, q.2, gathered_cell y.ready g (member_at S.order w q.0) (y.ready.part.nodes q.0 q.1) ∙ q.3)

  abbrev pub level_waiting : Waiting S s u tail
  level_waiting = record { listed = y.listed; unsure = y.unsure; mem = member_at S.order w; m = S.members; held = level_held; sum = level_sum; queued = level_queued }

  -- and has spread
  pub level_end : {all : Bool} {x : List ℕ} {t visits : ℕ} → Emptied H all (member_at S.order w) S.members S.table S.queue s u tail x t visits → Level H all S.table S.order S.members S.queue s w x visits
  level_end {all} {x} {t} {visits} z = record {
    long = z.moved.long ∙ g.long;
    other = λ j p q. z.moved.other j p q ∙ g.other j q;
    apart = λ v a d. z.moved.apart v a d ∙ same v a;
    above = λ v a. omega (arith, same v a, z.moved.above v a);
    sound = λ v a. rose_on (λ b l. rw (same b l) (began b l)) (λ b l. omega (arith, same b l)) y.ready.laid.fars (z.moved.sound v a);
    kept = λ v a l. sym (same v a) ∙ z.moved.kept v a l;
    full = λ i h il hl o e q. full_go i h il hl o e (z.moved.came (near H h) (y.ready.laid.nears h hl) q);
    counted = z.counted ∙ z.moved.sum (degrees H) (level_sum (degrees H));
  }
    where
      same : (v : ℕ) → v < S.wiring.nodes → cell u S.table v ≡ cell w S.table v
      same v l = gathered_cell y.ready g v l

      full_go : (i h : ℕ) → i < S.members → h < branches H → followed H all h ≡ true → near H h ≡ member_at S.order w i
          → (cell u S.table (near H h) ≡ 2 * s + 1) ⊎ ((j : ℕ) × (tail ≤ j) × (j < t) × (at x (S.queue + j) ≡ near H h)) → Done H S.table s x h
      full_go i h il hl o e (inr q) = z.expanded q.0 q.2 h hl (sym q.3) o
      full_go i h il hl o e (inl q) =
          let f = g.full i il (sym (ap (cell w S.table) e) ∙ sym (same (near H h) (y.ready.laid.nears h hl)) ∙ q) in
          z.expanded f.0 (omega (arith, f.1, z.moved.more)) h hl (e ∙ sym f.2 ∙ sym (z.moved.old f.0 f.1)) o

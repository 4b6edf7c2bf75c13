-- The branches of one node, by its list. Assumes nothing.
use Prim.Native.Nat.{ℕ, zero, suc, min, ◌+◌, ◌*◌, ◌-◌, ◌/◌, ◌%◌, ◌≤◌, ◌<◌}
use native.Mathlib.Omega.{arith}
use native.Mathlib.Nat.{le_refl}
use native.Mathlib.Decide.{ℕ_discrete, dec_lt}
use mathlib.Core.Path.{◌≡◌, refl, sym, ap, ◌∙◌, subst}
use mathlib.Core.Logic.{inr}
use mathlib.Core.Bool.{Bool, true, false, not, cond, ◌&&◌, ◌||◌, true≢false}
use mathlib.Core.List.{List}
use lib.Dec.{eqb}
use borrow.Author.Tests.{eq-eqb, ne_eqb}
use Rattle.model.specs.Places.{at}
use Rattle.branches.specs.Branch.{Wires, end_of, ceiling_of, near, far, branches, followed, amount, degree, degrees, entry, Last, none, some}
use Rattle.branches.proofs.Ends.{followed-listed}
use Rattle.branches.proofs.Degrees.{cond_few, degree_gap, degree_last}
use Rattle.branches.proofs.Lists.{last_low}
use Rattle.strengths.specs.declared.Spread.{Spread}
use Rattle.strengths.specs.Spread.{cell, wires_of}
use Rattle.strengths.specs.Level.{Visitable, Visited, Followed, passed, went, Held, Done, Moved, Fanned, Fannable}
use Rattle.strengths.proofs.Moves.{moved_none, moved_then, held_moved, done_moved}
use Rattle.strengths.proofs.Visits.{room-left, visited_moved, visited_done}

module _ (G : Wires) where
  degree_few : (v h : ℕ) → degree G v h ≤ h
  unfolding degree
  degree_few v zero = omega arith
  degree_few v (suc h) = omega (arith, degree_few v h, cond_few (eqb (near G h) v && G.listed h))

  -- a list that is not at its end, by its first branch
  pub record Heads (a upto e : ℕ) : Type 0 where
    pub branch : ℕ
    pub is : e ≡ entry G branch
    pub lower : branch < upto
    pub starts : near G branch ≡ a
    pub listed : G.listed branch ≡ true
    pub last : (g : ℕ) → branch < g → g < upto → near G g ≡ a → G.listed g ≡ true → ⊥

  heads : {a upto e : ℕ} → (e ≡ 0 → ⊥) → Last G a upto e → Heads a upto e
  heads p (none q d) = absurd (p q)
  heads p (some h q l n o d) = record { branch = h; is = q; lower = l; starts = n; listed = o; last = d }

module _ {G : Wires} {a upto e : ℕ} (z : Heads G a upto e) where
  heads_half : e / 2 - 1 ≡ z.branch
  heads_half = omega (arith, z.is, cond_few (G.unsure z.branch))

  pub heads_two : 2 ≤ e
  heads_two = omega (arith, z.is)

  -- an unsure branch has an odd entry
  heads_sure : eqb (e % 2) 0 ≡ not (G.unsure z.branch)
  heads_sure = go (G.unsure z.branch) z.is
    where
      go : (b : Bool) → e ≡ 2 * z.branch + 2 + cond b 1 0 → eqb (e % 2) 0 ≡ not b
      go true q = ne_eqb (e % 2) 0 (λ c. absurd (omega arith))
      go false q = eq-eqb (e % 2) 0 (omega arith)

  heads_followed : (all : Bool) → followed G all z.branch ≡ (all || eqb (e % 2) 0)
  heads_followed all = rw (z.listed, heads_sure) refl

  heads_degree : degree G a upto ≡ degree G a z.branch + 1
  heads_degree = degree_last G a z.branch upto z.lower z.starts z.listed z.last

-- the first branch of a list of a node that takes part
module _ (S : Spread) {listed unsure : ℕ → Bool} {a upto e : ℕ} (z : Heads (wires_of S listed unsure) a upto e) {mem : ℕ → ℕ} {m s : ℕ} {u : List ℕ} {tail : ℕ}
    (H : Held (wires_of S listed unsure) mem m S.table S.queue s u tail) (b : upto ≤ branches (wires_of S listed unsure)) (i : ℕ) (il : i < m) (ei : mem i ≡ a) where
  heads_in : z.branch < branches (wires_of S listed unsure)
  heads_in = omega (arith, z.lower)

  heads_end : (j : ℕ) × (j < m) × (mem j ≡ far (wires_of S listed unsure) z.branch)
  heads_end = H.closed i z.branch il heads_in z.listed (z.starts ∙ sym ei)

  pub heads_visitable : s ≤ 255 → Visitable S s (e / 2 - 1) u tail
  heads_visitable sl = rw (heads_half z) (record {
    ends = H.laid.drains;
    there = heads_in;
    few = omega (arith, H.laid.fars z.branch heads_in, H.laid.few_nodes);
    place = omega (arith, H.place, H.laid.few_nodes);
    known = omega (arith, H.laid.fits, H.place, H.laid.fars z.branch heads_in);
    strength = sl;
    room = λ p. let r = room-left H heads_end.0 (far (wires_of S listed unsure) z.branch) heads_end.1 heads_end.2 (omega arith) in (omega (arith, H.fits, H.laid.fits), omega (arith, H.fits, H.laid.few_nodes));
  })

  strong_near : cell u S.table a ≡ 2 * s + 1 → cell u S.table (near (wires_of S listed unsure) z.branch) ≡ 2 * s + 1
  strong_near strong = ap (cell u S.table) z.starts ∙ strong

  module _ (strong : cell u S.table a ≡ 2 * s + 1) {x : List ℕ} {t : ℕ} where
    as_branch : Visited S.table S.queue s (end_of S.wiring.drains.now S.wiring.sources.now (e / 2 - 1)) (min s (ceiling_of S.ceilings.now ((e / 2 - 1) / 2))) u tail x t
        → Visited S.table S.queue s (far (wires_of S listed unsure) z.branch) (amount (wires_of S listed unsure) s z.branch) u tail x t
    as_branch v = rw (heads_half z) at v

    follow_moved : Followed S s e u tail x t → Moved (wires_of S listed unsure) S.all mem m S.table S.queue s u tail x t
    follow_moved (passed o q r) = rw (q, r) moved_none
    follow_moved (went o v) = visited_moved H heads_in S.all (heads_followed z S.all ∙ o) i il (z.starts ∙ sym ei) (strong_near strong) (as_branch v)

    follow_done : Followed S s e u tail x t → followed (wires_of S listed unsure) S.all z.branch ≡ true → Done (wires_of S listed unsure) S.table s x z.branch
    follow_done (passed o q r) f = absurd (true≢false (sym f ∙ heads_followed z S.all ∙ o))
    follow_done (went o v) f = visited_done H heads_in S.all (heads_followed z S.all ∙ o) i il (z.starts ∙ sym ei) (strong_near strong) (as_branch v)

-- the branches at a from `upto` on were visited, and the list goes on with the entry e
pub record Fanning (G : Wires) (all : Bool) (mem : ℕ → ℕ) (m table queue s a : ℕ) (w : List ℕ) (k : ℕ) (u : List ℕ) (tail visits e : ℕ) : Type 0 where
  pub moved : Moved G all mem m table queue s w k u tail
  pub upto : ℕ
  pub bound : upto ≤ branches G
  pub rest : Last G a upto e
  pub done : (g : ℕ) → upto ≤ g → g < branches G → near G g ≡ a → followed G all g ≡ true → Done G table s u g
  pub counted : visits + degree G a upto ≡ degrees G a

module _ {G : Wires} {mem : ℕ → ℕ} {m table queue s : ℕ} {w : List ℕ} {k : ℕ} (H : Held G mem m table queue s w k) where
  pub fan_start : (all : Bool) (a : ℕ) → a < G.size → Fanning G all mem m table queue s a w k w k 0 (at w (3 * G.size + a))
  fan_start all a l = record { moved = moved_none; upto = branches G; bound = le_refl _; rest = H.linked.first a l; done = λ g p q. absurd (omega arith); counted = omega arith }

  module _ {all : Bool} {a : ℕ} {u : List ℕ} {tail visits e : ℕ} (z : Fanning G all mem m table queue s a w k u tail visits e) where
    -- no more than all branches
    pub fan_few : visits ≤ branches G
    fan_few = omega (arith, z.counted, degree_few G a (branches G))

    pub fan_held : Held G mem m table queue s u tail
    fan_held = held_moved H z.moved

    pub fan_end : e ≡ 0 → Fanned G all mem m table queue s a w k u tail visits
    fan_end p = go z.rest
      where
        go : Last G a z.upto e → Fanned G all mem m table queue s a w k u tail visits
        go (none q d) = record {
          moved = z.moved;
          expanded = λ h l n o. on h l n o (dec_lt h z.upto);
          counted = omega (arith, z.counted, degree_gap G a 0 z.upto (omega arith) (λ g _ i. d g i), degree_few G a 0);
        }
          where
            on : (h : ℕ) → h < branches G → near G h ≡ a → followed G all h ≡ true → Dec (h < z.upto) → Done G table s u h
            on h l n o (yes i) = absurd (d h i n (followed-listed G all h o))
            on h l n o (no i) = z.done h (omega arith) l n o
        go (some h q l n o d) = absurd (omega (arith, q, p))

    module _ (p : e ≡ 0 → ⊥) where
      pub fan_heads : Heads G a z.upto e
      fan_heads = heads G p z.rest

      pub fan_place : e / 2 - 1 < branches G
      fan_place = omega (arith, heads_half fan_heads, fan_heads.lower, z.bound)

-- one turn
module _ (S : Spread) {listed unsure : ℕ → Bool} {mem : ℕ → ℕ} {m s : ℕ} {w : List ℕ} {k : ℕ} (H : Held (wires_of S listed unsure) mem m S.table S.queue s w k) {a : ℕ} {u : List ℕ} {tail visits e : ℕ}
    (z : Fanning (wires_of S listed unsure) S.all mem m S.table S.queue s a w k u tail visits e) (p : e ≡ 0 → ⊥) (i : ℕ) (il : i < m) (ei : mem i ≡ a) (strong : cell w S.table a ≡ 2 * s + 1) {x : List ℕ} {t : ℕ}
    (f : Followed S s e u tail x t) where
  first : Heads (wires_of S listed unsure) a z.upto e
  first = fan_heads H z p

  turn : Moved (wires_of S listed unsure) S.all mem m S.table S.queue s u tail x t
  turn = follow_moved S first (fan_held H z) z.bound i il ei (z.moved.stays a (rw ei at (H.nodes i il)) strong) f

  both : Moved (wires_of S listed unsure) S.all mem m S.table S.queue s w k x t
  both = moved_then H z.moved turn

  next-same : at x (4 * S.wiring.nodes + (e / 2 - 1)) ≡ at w (4 * S.wiring.nodes + first.branch)
  next-same = rw (heads_half first) (both.other (4 * S.wiring.nodes + first.branch) (inr (omega (arith, H.place))) (inr (omega (arith, H.fits))))

  next_last : Last (wires_of S listed unsure) (near (wires_of S listed unsure) first.branch) first.branch (at w (4 * S.wiring.nodes + first.branch))
  next_last = H.linked.next first.branch (omega (arith, first.lower, z.bound)) first.listed

  pub fan_turn : Fanning (wires_of S listed unsure) S.all mem m S.table S.queue s a w k x t (visits + 1) (at x (4 * S.wiring.nodes + (e / 2 - 1)))
  fan_turn = record {
    moved = both;
    upto = first.branch;
    bound = omega (arith, first.lower, z.bound);
    rest = rw next-same (subst (λ (v : ℕ). Last (wires_of S listed unsure) v first.branch (at w (4 * S.wiring.nodes + first.branch))) first.starts next_last);
    done = λ g q l n o. go g q l n o (ℕ_discrete g first.branch) (dec_lt g z.upto);
    counted = omega (arith, z.counted, heads_degree first);
  }
    where
      go : (g : ℕ) → first.branch ≤ g → g < branches (wires_of S listed unsure) → near (wires_of S listed unsure) g ≡ a → followed (wires_of S listed unsure) S.all g ≡ true → Dec (g ≡ first.branch) → Dec (g < z.upto) → Done (wires_of S listed unsure) S.table s x g
      go g q l n o (yes c) _ = rw c (follow_done S first (fan_held H z) z.bound i il ei (z.moved.stays a (rw ei at (H.nodes i il)) strong) f (rw c at o))
      go g q l n o (no c) (yes y) = absurd (first.last g (omega arith) y n (followed-listed (wires_of S listed unsure) S.all g o))
      go g q l n o (no c) (no y) = done_moved (fan_held H z) turn l (z.done g (omega arith) l n o)

  -- the next entry is lower
  pub fan_less : at x (4 * S.wiring.nodes + (e / 2 - 1)) < e
  fan_less = omega (arith, next-same, last_low next_last, first.is)

-- a node whose branches are to be visited is a node
pub fannable_in : {S : Spread} {s a : ℕ} {w : List ℕ} {k : ℕ} → Fannable S s a w k → a < S.wiring.nodes
fannable_in z = rw z.member at (z.held.nodes z.place z.inside)

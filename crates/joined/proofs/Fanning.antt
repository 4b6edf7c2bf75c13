-- All branches of a node, by its list: the sure ones are followed, an unsure one leaves the set unsure. Assumes nothing.
use Prim.Native.Nat.{ℕ, ◌+◌, ◌*◌, ◌-◌, ◌/◌, ◌%◌, ◌≤◌, ◌<◌}
use native.Mathlib.Omega.{arith}
use native.Mathlib.Nat.{le_refl, le_trans}
use native.Mathlib.Decide.{ℕ_discrete, dec_lt}
use mathlib.Core.Path.{◌≡◌, refl, sym, ap, ◌∙◌, subst}
use mathlib.Core.Bool.{Bool, true, false, cond, ◌&&◌, true≢false, and-eq-true_iff}
use mathlib.Core.List.{List}
use lib.ListN.{length}
use lib.Dec.{eqb}
use borrow.Author.Tests.{eqb-true}
use Rattle.model.specs.Places.{at}
use Rattle.branches.specs.Branch.{prefix, Wires, near, far, branches, degree, degrees, entry, Last, none, some}
use Rattle.branches.specs.declared.Wiring.{Wiring}
use Rattle.branches.proofs.Degrees.{total-next, total-part, prefix_same, cond_few, degree_last}
use Rattle.branches.proofs.Lists.{last_low}
use Rattle.joined.specs.declared.Found.{Found}
use Rattle.joined.specs.Sets.{Joined, on, Untaken, wired}
use Rattle.joined.specs.Floods.{touched, Followed, passed, along, Chain, start, next, Fanned, fanned}
use Rattle.joined.specs.Kept.{spent, Visitable, Ready, Member, queue, Spread, Done, Emptying, Fannable}
use Rattle.joined.proofs.Sums.{spent-degrees}
use Rattle.joined.proofs.Ways.{listed_sure}
use Rattle.joined.proofs.Reaching.{Grown, member_grown, Reach, reached, spread-room}

-- what an entry says: its branch, and whether that is unsure
entry_says : (b : Bool) (h e : ℕ) → e ≡ 2 * h + 2 + cond b 1 0 → (e / 2 - 1 ≡ h) × (e % 2 ≡ 1 → b ≡ true) × ((e % 2 ≡ 1 → ⊥) → b ≡ false)
entry_says true h e q = (omega arith, λ t. refl, λ t. absurd (t (omega arith)))
entry_says false h e q = (omega arith, λ t. absurd (omega arith), λ t. refl)

module _ (W : Wiring) (listed unsure : ℕ → Bool) (w₀ : List ℕ) (v from : ℕ) where
  abbrev G : Wires
  G = wired W listed unsure

  -- one branch was visited
  pub record Follow (h : ℕ) (w : List ℕ) (f : Found) (x : List ℕ) (g : Found) : Type 0 where
    pub spread : Spread G w₀ v from x g.tail g.code
    pub grown : Grown G w f x g
    pub visits : g.visits ≡ f.visits + 1
    pub done : Done G from x g h

  done_grown : {w x : List ℕ} {f g : Found} {h : ℕ} → Grown G w f x g → Done G from w f h → Done G from x g h
  done_grown z d = (λ e. member_grown z (d.0 e), λ e. d.1 (z.sure e))

  module _ (R : Ready G w₀) where
    follow_law : {h e : ℕ} {w x : List ℕ} {f g : Found} → Spread G w₀ v from w f.tail f.code → h < branches G → G.listed h ≡ true → e ≡ entry G h → Untaken G w₀ (near G h) → Joined G v (near G h)
        → Followed W e w f x g → Follow h w f x g
    follow_law {h} {e} z hl o q u j (passed p) = record {
      spread = z;
      grown = record { more = le_refl _; old = λ j l. refl; level = λ p. refl; sure = λ t. absurd (true≢false (sym t)) };
      visits = refl;
      done = (λ t. absurd (true≢false (sym ((entry_says (G.unsure h) h e q).1 p) ∙ t)), λ t. absurd (true≢false (sym t)));
    }
    follow_law {h} {e} {w} {x} {f} z hl o q u j (along {g = g} b p r s) = record {
      spread = reach.spread;
      grown = let y = reach.grown in record { more = y.more; old = y.old; level = y.level; sure = y.sure };
      visits = ap (λ (y : ℕ). y + 1) reach.visits;
      done = (λ t. subst (λ (y : ℕ). Member G x from g.tail y) is_far (reach.member (subst (λ (y : ℕ). Untaken G w₀ y) (sym is_far) (R.closed h hl (listed_sure G h o sure) u))), λ t. sure);
    }
      where
        sure : G.unsure h ≡ false
        sure = (entry_says (G.unsure h) h e q).2 p

        is_far : b ≡ far G h
        is_far = r ∙ ap (far G) (entry_says (G.unsure h) h e q).0

        reach : Reach G w₀ v from b w f x g
        reach = reached G R z (rw is_far (R.laid.fars h hl)) (subst (λ (y : ℕ). Joined G v y) (sym is_far) (on h j hl (listed_sure G h o sure))) s

  -- the branches of node a from `upto` on were visited; a stands at k of the queue
  pub record Partway (k a upto : ℕ) (w : List ℕ) (f : Found) : Type 0 where
    pub spread : Spread G w₀ v from w f.tail f.code
    pub waits : k < f.tail
    pub node : queue G w k ≡ a
    pub self : Member G w from f.tail v
    pub done : (j h : ℕ) → from ≤ j → j < k → h < branches G → G.listed h ≡ true → near G h ≡ queue G w j → Done G from w f h
    pub quiet : f.sure ≡ true → (j : ℕ) → from ≤ j → j < k + 1 → at w₀ (queue G w j) ≡ 0
    pub part : (h : ℕ) → upto ≤ h → h < branches G → G.listed h ≡ true → near G h ≡ a → Done G from w f h
    pub paid : f.visits + degree G a upto + prefix (degrees G) w (2 * G.size) f.tail ≤ spent (degrees G) w G.size G.size + prefix (degrees G) w (2 * G.size) (k + 1)

  -- and e is the entry of the next
  pub record Chained (k a : ℕ) (w : List ℕ) (f : Found) (e : ℕ) : Type 0 where
    pub upto : ℕ
    pub small : upto ≤ branches G
    pub last : Last G a upto e
    pub partway : Partway k a upto w f

  module _ {k a : ℕ} (R : Ready G w₀) (low : from ≤ k) where
    partway_next : {h upto : ℕ} {w x : List ℕ} {f g : Found} → Partway k a upto w f → h < upto → near G h ≡ a → G.listed h ≡ true
        → ((i : ℕ) → h < i → i < upto → near G i ≡ a → G.listed i ≡ true → ⊥) → Follow h w f x g → Partway k a h x g
    partway_next {h} {upto} {w} {x} {f} {g} z l n o m y = record {
      spread = y.spread;
      waits = le_trans z.waits y.grown.more;
      node = y.grown.old k z.waits ∙ z.node;
      self = member_grown y.grown z.self;
      done = λ j i p q r s t. done_grown y.grown (z.done j i p q r s (t ∙ y.grown.old j (le_trans q (omega (arith, z.waits)))));
      quiet = λ t j p q. rw (y.grown.old j (omega (arith, z.waits))) (z.quiet (y.grown.sure t) j p q);
      part = λ i p q r s. part_go i p q r s (ℕ_discrete i h) (dec_lt i upto);
      paid = omega (
        arith,
        y.visits,
        z.paid,
        degree_last G a h upto l n o m,
        y.grown.level (degrees G),
        prefix_same (degrees G) w x (2 * G.size) (k + 1) (λ j i. y.grown.old j (omega (arith, z.waits))),
      );
    }
      where
        part_go : (i : ℕ) → h ≤ i → i < branches G → G.listed i ≡ true → near G i ≡ a → Dec (i ≡ h) → Dec (i < upto) → Done G from x g i
        part_go i p q r s (yes e) d = subst (λ (c : ℕ). Done G from x g c) (sym e) y.done
        part_go i p q r s (no e) (yes d) = absurd (m i (omega arith) d s r)
        part_go i p q r s (no e) (no d) = done_grown y.grown (z.part i (omega arith) q r s)

    -- the branch that is next, and that the entry after it is lower
    pub chained_next : {e : ℕ} {w x : List ℕ} {f g : Found} → Chained k a w f e → (e ≡ 0 → ⊥) → Followed W e w f x g
        → Chained k a x g (at x (4 * G.size + (e / 2 - 1))) × (at x (4 * G.size + (e / 2 - 1)) < e)
    chained_next {e} {w} {x} {f} {g} z p s = go z.last
      where
        go : Last G a z.upto e → Chained k a x g (at x (4 * G.size + (e / 2 - 1))) × (at x (4 * G.size + (e / 2 - 1)) < e)
        go (none q n) = absurd (p q)
        go (some h q l n o m) = (
          record {
            upto = h;
            small = omega (arith, z.small);
            last = subst (λ (c : ℕ). Last G c h (at x (4 * G.size + (e / 2 - 1)))) n (subst (λ (c : ℕ). Last G (near G h) h c) (sym cell) (R.linked.next h hl o));
            partway = partway_next z.partway l n o m follow;
          },
          omega (arith, cell, last_low (R.linked.next h hl o), q, cond_few (G.unsure h)),
        )
          where
            hl : h < branches G
            hl = omega (arith, z.small)

            member : Untaken G w₀ (near G h) × Joined G v (near G h)
            member = let c = z.partway.spread.members k low z.partway.waits in rw (n ∙ sym z.partway.node) (c.0, c.1)

            follow : Follow h w f x g
            follow = follow_law R z.partway.spread hl o q member.0 member.1 s

            cell : at x (4 * G.size + (e / 2 - 1)) ≡ at w₀ (4 * G.size + h)
            cell = ap (λ (c : ℕ). at x (4 * G.size + c)) (entry_says (G.unsure h) h e q).0 ∙ follow.spread.after (4 * G.size + h) (omega arith)

    -- it can be visited
    pub chained_visitable : {w : List ℕ} {f : Found} {e : ℕ} → Chained k a w f e → (e ≡ 0 → ⊥) → Visitable W e w f
    chained_visitable {w} {f} {e} z p = go z.last
      where
        go : Last G a z.upto e → Visitable W e w f
        go (none q n) = absurd (p q)
        go (some h q l n o m) =
            let y = z.partway in
            let i = (entry_says (G.unsure h) h e q).0 in
            let hl : h < branches G = omega (arith, z.small) in record {
              room = spread-room G R y.spread;
              fits = omega (arith, R.laid.fits, y.spread.long);
              drains = R.laid.drains;
              least = omega (arith, q);
              branch = omega arith;
              end = rw i (R.laid.fars h hl);
              few = omega (
                arith,
                y.paid,
                degree_last G a h z.upto l n o m,
                total-part (λ j. degrees G (queue G w j)) (k + 1) f.tail (omega (arith, y.waits)),
                spent-degrees G w G.size G.size,
                R.laid.few_transistors,
              );
            }

    pub chain_law : {w : List ℕ} {f : Found} {x : List ℕ} {g : Found} {e : ℕ} → Chained k a w f (at w (3 * G.size + a)) → Chain W a w f x g e → Chained k a x g e
    chain_law z start = z
    chain_law z (next c p s) = (chained_next (chain_law z c) p s).0

  -- before the first branch of the node that waits
  pub chained_first : {k a : ℕ} {b : Bool} {w : List ℕ} {f : Found} → Emptying G w₀ v from k w f → k < f.tail → a ≡ queue G w k → b ≡ (f.sure && eqb (at w a) 0) → Chained k a w (touched b f) (at w (3 * G.size + a))
  chained_first {k} {a} {b} {w} {f} z l n t = record {
    upto = branches G;
    small = le_refl _;
    last = subst (λ (c : ℕ). Last G a (branches G) c) (sym (z.spread.after (3 * G.size + a) (omega arith))) (z.ready.linked.first a inside);
    partway = record {
      spread = z.spread;
      waits = l;
      node = sym n;
      self = z.self;
      done = λ j h p q r s i. ((z.done j h p q r s i).0, λ y. (z.done j h p q r s i).1 (both y).0);
      quiet = λ y j p q. quiet_go y j p q (ℕ_discrete j k);
      part = λ h p q r s. absurd (omega arith);
      paid = omega (arith, z.paid, total-next (λ j. degrees G (queue G w j)) k, ap (degrees G) n);
    };
  }
    where
      inside : a < G.size
      inside = rw n (z.spread.members k z.low l).0.0

      both : b ≡ true → (f.sure ≡ true) × (eqb (at w a) 0 ≡ true)
      both y = (and-eq-true_iff f.sure (eqb (at w a) 0)).0 (sym t ∙ y)

      quiet_go : b ≡ true → (j : ℕ) → from ≤ j → j < k + 1 → Dec (j ≡ k) → at w₀ (queue G w j) ≡ 0
      quiet_go y j p q (yes e) = rw (e, ← n) (sym (z.spread.offers a inside) ∙ eqb-true (at w a) 0 (both y).1)
      quiet_go y j p q (no e) = z.quiet (both y).0 j p (omega arith)

  -- after the last: the next node of the queue is to be taken
  pub fan_law : {k : ℕ} {w x : List ℕ} {f g : Found} → Emptying G w₀ v from k w f → k < f.tail → Fanned W (queue G w k) w f x g → Emptying G w₀ v from (k + 1) x g
  fan_law {k} {w} {x} {f} {g} z l (fanned b t {e} c q) = go end.last
    where
      end : Chained k (queue G w k) x g e
      end = chain_law z.ready z.low (chained_first z l refl t) c

      go : Last G (queue G w k) end.upto e → Emptying G w₀ v from (k + 1) x g
      go (some h p _ _ _ _) = absurd (omega arith)
      go (none p n) = let y = end.partway in record {
        ready = z.ready;
        spread = y.spread;
        low = omega (arith, z.low);
        high = omega (arith, y.waits);
        self = y.self;
        done = λ j h p i r s m. done_go j h p i r s m (ℕ_discrete j k) (dec_lt h end.upto);
        quiet = y.quiet;
        paid = omega (arith, y.paid);
      }
        where
          done_go : (j h : ℕ) → from ≤ j → j < k + 1 → h < branches G → G.listed h ≡ true → near G h ≡ queue G x j → Dec (j ≡ k) → Dec (h < end.upto) → Done G from x g h
          done_go j h p i r s m (yes d) (yes u) = absurd (n h u (m ∙ ap (queue G x) d ∙ end.partway.node) s)
          done_go j h p i r s m (yes d) (no u) = end.partway.part h (omega arith) r s (m ∙ ap (queue G x) d ∙ end.partway.node)
          done_go j h p i r s m (no d) u = end.partway.done j h p (omega arith) r s m

-- the code's loop over the list of node a
module _ (W : Wiring) {a : ℕ} {b : Bool} {w x : List ℕ} {f g : Found} {e : ℕ} (F : Fannable W a w f) (t : b ≡ (f.sure && eqb (at w a) 0)) (c : Chain W a w (touched b f) x g e) where
  chained : Chained W F.listed F.unsure F.before F.v F.from F.k a x g e
  chained = chain_law W F.listed F.unsure F.before F.v F.from F.emptying.ready F.emptying.low (chained_first W F.listed F.unsure F.before F.v F.from F.emptying F.waits F.node t) c

  pub fan_visitable : (e ≡ 0 → ⊥) → Visitable W e x g
  fan_visitable p = chained_visitable W F.listed F.unsure F.before F.v F.from F.emptying.ready F.emptying.low chained p

  pub fan_less : (e ≡ 0 → ⊥) → {y : List ℕ} {h : Found} → Followed W e x g y h → at y (4 * W.nodes + (e / 2 - 1)) < e
  fan_less p s = (chained_next W F.listed F.unsure F.before F.v F.from F.emptying.ready F.emptying.low chained p s).1

-- a node that waits is one
pub fan_inside : {W : Wiring} {a : ℕ} {w : List ℕ} {f : Found} → Fannable W a w f → (a < W.nodes) × (W.nodes ≤ 4096) × (4 * W.nodes ≤ length w)
fan_inside F =
    let z = F.emptying in (
      rw F.node (z.spread.members F.k z.low F.waits).0.0,
      z.ready.laid.few_nodes,
      omega (arith, z.ready.laid.fits, z.spread.long),
    )

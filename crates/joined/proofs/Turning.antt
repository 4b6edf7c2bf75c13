-- One node after the other: its set is taken, if it was not. After the last the nodes are parted. Assumes nothing.
use Prim.Native.Nat.{ℕ, ◌+◌, ◌*◌, ◌≤◌, ◌<◌}
use native.Mathlib.Omega.{arith}
use native.Mathlib.Nat.{le_refl, le_trans}
use native.Mathlib.Decide.{ℕ_discrete}
use mathlib.Core.Path.{◌≡◌, refl, sym, ap, ◌∙◌, subst}
use mathlib.Core.Bool.{Bool, true, false, true≢false}
use mathlib.Core.List.{List}
use mathlib.Core.Logic.{◌⊎◌, inl, inr, ◌≢◌}
use lib.ListN.{length, set, length-set}
use lib.Seq.{get_or-set_same, get_or-set_other}
use Rattle.model.specs.Places.{at}
use Rattle.branches.specs.Branch.{prefix, Wires, near, far, branches, degrees, followed, Last, none, some}
use Rattle.branches.specs.declared.Wiring.{Wiring}
use Rattle.branches.proofs.Degrees.{total-zero, total_ones, total-part, prefix_same}
use Rattle.branches.specs.Code.{least_telling, telling, begin}
use Rattle.joined.specs.declared.Found.{Found}
use Rattle.joined.specs.declared.Parts.{Parts}
use Rattle.joined.specs.Sets.{Joined, here, Untaken, Startable, one, Parted, wired}
use Rattle.joined.specs.Floods.{Begun, begun, BegunAll, Flooded, flooded, opened, Turned, past, alone, quiet, keeps, Turns, nothing, turn}
use Rattle.joined.specs.Kept.{spent, Listed, Ready, Member, queue, Emptying, Kept, Quiet, Taking, Floodable, Turnable}
use Rattle.joined.proofs.Sums.{spent_le, spent_few, spent-degrees}
use Rattle.joined.proofs.Telling.{begin_small, within_refl}
use Rattle.joined.proofs.Ways.{sure_listed, listed_sure}
use Rattle.joined.proofs.Flooding.{emptying_none, emptied_law, flood_few}
use Rattle.joined.proofs.Settling.{ready_taking, Settled, settled_law}

module _ {G : Wires} {w : List ℕ} {v : ℕ} (p : Parts) (R : Ready G w) (o : Untaken G w v) (worth : (g : ℕ → ℕ) → prefix g w (2 * G.size) p.kept ≤ spent g w G.size G.size) (paid : p.visits ≤ spent (degrees G) w G.size G.size) where
  -- a node without a branch is a set of its own
  pub settled-alone : {x : List ℕ} → p.kept ≤ G.size → at w (3 * G.size + v) ≡ 0 → Begun G.size v (at w (G.size + v)) w x → Settled G (λ u. u ≡ v) w v p x p
  settled-alone few z begun = record {
    code = at w (G.size + v);
    small = (R.told v o).1;
    sum = one v here o.0;
    long = simp length-set refl;
    after = λ j l. elsewhere j (omega arith) (omega arith);
    front = λ j l. elsewhere (2 * G.size + j) (omega arith) (omega arith);
    self = refl;
    untaken = λ u e. rw e o;
    joined = λ u e. rw e here;
    within = λ u e. rw e (within_refl _);
    against0 = λ u e. rw e at0;
    against1 = λ u e. rw e at1;
    others = λ u l. others_go u l (ℕ_discrete u v);
    spread = λ h l e m. absurd (no_branch h l (sure_listed G h e).0 m);
    worth = λ g. omega (arith, worth g, prefix_same g w x (2 * G.size) p.kept (λ j l. elsewhere (2 * G.size + j) (omega arith) (omega arith)), spent_le g w x G.size G.size still);
    paid = le_trans paid (spent_le (degrees G) w x G.size G.size still);
    grows = le_refl _;
    nodes = λ j l i. absurd (omega arith);
    once = λ i j l k m. absurd (omega arith);
    sorted = inr (refl, λ h l e m. absurd (no_branch h l e m));
  }
    where
      b1 : ℕ
      b1 = begin 1 (at w (G.size + v)) (at w v)

      b0 : ℕ
      b0 = begin 0 (at w (G.size + v)) (at w v)

      x : List ℕ
      x = set (set w v b1) (G.size + v) b0

      room : 4 * G.size ≤ length w
      room = omega (arith, R.laid.fits)

      elsewhere : (j : ℕ) → j ≢ v → j ≢ G.size + v → at x j ≡ at w j
      elsewhere j a b = get_or-set_other (set w v b1) (G.size + v) j b0 0 b ∙ get_or-set_other w v j b1 0 a

      at0 : at x (G.size + v) ≡ b0
      at0 = get_or-set_same (set w v b1) (G.size + v) b0 0 (simp length-set (omega (arith, room, o.0)))

      at1 : at x v ≡ b1
      at1 = get_or-set_other (set w v b1) (G.size + v) v b0 0 (omega (arith, o.0)) ∙ get_or-set_same w v b1 0 (omega (arith, room, o.0))

      others_go : (u : ℕ) → u < G.size → Dec (u ≡ v) → (u ≡ v) ⊎ ((at x (G.size + u) ≡ at w (G.size + u)) × (at x u ≡ at w u))
      others_go u l (yes e) = inl e
      others_go u l (no e) = inr (elsewhere (G.size + u) (omega (arith, o.0)) (λ c. e (omega arith)), elsewhere u e (omega arith))

      still : (u : ℕ) → u < G.size → at w (G.size + u) < least_telling → at x (G.size + u) < least_telling
      still u l t = go (others_go u l (ℕ_discrete u v))
        where
          go : (u ≡ v) ⊎ ((at x (G.size + u) ≡ at w (G.size + u)) × (at x u ≡ at w u)) → at x (G.size + u) < least_telling
          go (inl e) = absurd (omega (arith, o.1, ap (λ (y : ℕ). at w (G.size + y)) e))
          go (inr e) = omega (arith, e.0)

      no_branch : (h : ℕ) → h < branches G → G.listed h ≡ true → near G h ≡ v → ⊥
      no_branch h l e n = go (R.linked.first v o.0)
        where
          go : Last G v (branches G) (at w (3 * G.size + v)) → ⊥
          go (none q m) = m h l n e
          go (some g q _ _ _ _) = absurd (omega arith)

  -- a set that was flooded, at whose nodes both tables then begin
  module _ {u x : List ℕ} {f : Found} {k : ℕ} (z : Emptying G w v p.kept k u f) (end : f.tail ≤ k) (B : BegunAll G.size f.code p.kept u f.tail x) where
    abbrev M : ℕ → Type 0
    M y = Member G u p.kept f.tail y

    in_queue : (y : ℕ) → M y → Untaken G w y × Joined G v y × (at u (G.size + y) < least_telling)
    in_queue y m = rw m.3 at (z.spread.members m.0 m.1 m.2)

    flooded_against0 : (y : ℕ) → M y → at x (G.size + y) ≡ begin 0 f.code (at w y)
    flooded_against0 y m = rw m.3 at (B.against0 m.0 m.1 m.2) ∙ ap (begin 0 f.code) (z.spread.offers y (in_queue y m).0.0)

    flooded_against1 : (y : ℕ) → M y → at x y ≡ begin 1 f.code (at w y)
    flooded_against1 y m = rw m.3 at (B.against1 m.0 m.1 m.2) ∙ ap (begin 1 f.code) (z.spread.offers y (in_queue y m).0.0)

    flooded_others : (y : ℕ) → y < G.size → M y ⊎ ((at x (G.size + y) ≡ at w (G.size + y)) × (at x y ≡ at w y))
    flooded_others y l = go (z.spread.others y l)
      where
        go : M y ⊎ (at u (G.size + y) ≡ at w (G.size + y)) → M y ⊎ ((at x (G.size + y) ≡ at w (G.size + y)) × (at x y ≡ at w y))
        go (inl m) = inl m
        go (inr e) =
            let c = B.others y l (λ j a b d. let i = in_queue y (j, a, b, d) in absurd (omega (arith, i.0.1, i.2))) in
            inr (c.0 ∙ e, c.1 ∙ z.spread.offers y l)

    flooded_still : (y : ℕ) → y < G.size → at u (G.size + y) < least_telling → at x (G.size + y) < least_telling
    flooded_still y l t = go (z.spread.others y l)
      where
        go : M y ⊎ (at u (G.size + y) ≡ at w (G.size + y)) → at x (G.size + y) < least_telling
        go (inl m) = rw (flooded_against0 y m) (begin_small 0 f.code (at w y) z.spread.told.1)
        go (inr e) =
            let c = B.others y l (λ j a b d. let i = in_queue y (j, a, b, d) in absurd (omega (arith, i.0.1, i.2))) in
            omega (arith, c.0)

    same_queue : (j : ℕ) → queue G x j ≡ queue G u j
    same_queue j = B.after (2 * G.size + j) (omega arith)

    all_worth : (kept : ℕ) → kept ≤ f.tail → (g : ℕ → ℕ) → prefix g x (2 * G.size) kept ≤ spent g x G.size G.size
    all_worth kept l g =
        omega (
          arith,
          total-part (λ j. g (queue G x j)) kept f.tail l,
          prefix_same g u x (2 * G.size) f.tail (λ j i. same_queue j),
          z.spread.worth g,
          spent_le g u x G.size G.size flooded_still,
        )

    all_paid : f.visits ≤ spent (degrees G) x G.size G.size
    all_paid = omega (arith, z.paid, total-part (λ j. degrees G (queue G u j)) k f.tail z.high, spent_le (degrees G) u x G.size G.size flooded_still)

    flooded_spread : (h : ℕ) → h < branches G → followed G false h ≡ true → M (near G h) → M (far G h)
    flooded_spread h l e m = let s = sure_listed G h e in (z.done m.0 h m.1 (le_trans m.2 end) l s.0 (sym m.3)).0 s.1

    module _ {q : Parts} (qv : q.visits ≡ f.visits) (low : p.kept ≤ q.kept) (high : q.kept ≤ f.tail) where
      settled_flooded :
          ((y : ℕ) → M y → Kept G x q.kept y)
          ⊎ ((q.kept ≡ p.kept) × ((h : ℕ) → h < branches G → G.listed h ≡ true → M (near G h) → (G.unsure h ≡ false) × (at w (near G h) ≡ 0)))
          → Settled G M w v p x q
      settled_flooded s = record {
        code = f.code;
        small = z.spread.told.1;
        sum = z.spread.sum;
        long = B.long ∙ z.spread.long;
        after = λ j l. B.after j (omega arith) ∙ z.spread.after j l;
        front = λ j l. same_queue j ∙ z.spread.front j l;
        self = z.self;
        untaken = λ y m. (in_queue y m).0;
        joined = λ y m. (in_queue y m).1;
        within = λ y m. rw m.3 at (z.spread.whole m.0 m.1 m.2);
        against0 = flooded_against0;
        against1 = flooded_against1;
        others = flooded_others;
        spread = flooded_spread;
        worth = all_worth q.kept high;
        paid = rw qv all_paid;
        grows = low;
        nodes = λ j l i. (j, l, le_trans i high, sym (same_queue j));
        once = λ i j l k m e. z.spread.once i j l k (le_trans m high) (sym (same_queue i) ∙ e ∙ same_queue j);
        sorted = s;
      }

    pub settled_quiet : f.sure ≡ true → Settled G M w v p x (record { kept = p.kept; visits = f.visits })
    settled_quiet t = settled_flooded refl (le_refl _) z.spread.ordered (inr (
      refl,
      λ h l e m. (
        (z.done m.0 h m.1 (le_trans m.2 end) l e (sym m.3)).1 t,
        rw m.3 at (z.quiet t m.0 m.1 (le_trans m.2 end)),
      ),
    ))

    pub settled_keeps : Settled G M w v p x (record { kept = f.tail; visits = f.visits })
    settled_keeps = settled_flooded refl z.spread.ordered (le_refl _) (inl (λ y m. (m.0, m.2, same_queue m.0 ∙ m.3)))

-- so many nodes are kept at the most
pub kept_few : (G : Wires) {w₀ w : List ℕ} {v : ℕ} {p : Parts} → Taking G w₀ v w p → p.kept ≤ G.size
kept_few G {w = w} {p = p} T = omega (arith, total_ones p.kept, T.worth (λ v. 1), spent_few w G.size G.size)

-- and so many branches were visited
pub visits_few : {G : Wires} {w₀ w : List ℕ} {v : ℕ} {p : Parts} → Taking G w₀ v w p → p.visits ≤ branches G
visits_few {G} {w = w} T = le_trans T.paid (spent-degrees G w G.size G.size)

-- the code's one turn
module _ {W : Wiring} {v : ℕ} {w : List ℕ} {p : Parts} (F : Turnable W v w p) (o : least_telling ≤ at w (W.nodes + v)) where
  abbrev wires : Wires
  wires = wired W F.listed F.unsure

  ready : Ready wires w
  ready = ready_taking F.startable F.taking

  pub turn_floodable : Floodable W v w (opened (at w (W.nodes + v)) p)
  turn_floodable = record { listed = F.listed; unsure = F.unsure; ready = ready; untaken = (F.inside, o); code = refl; worth = F.taking.worth; paid = F.taking.paid }

  pub turn_listed : {u : List ℕ} {f : Found} → Flooded W v w (opened (at w (W.nodes + v)) p) u f → Listed W.nodes p.kept f.tail u × (telling 1 1 ≤ f.code)
  turn_listed {u} {f} (flooded r e l) =
      let z = emptied_law W F.listed F.unsure (emptying_none wires _ ready (F.inside, o) refl F.taking.worth F.taking.paid r) e in
      let few = flood_few turn_floodable r e in (
        record {
          few = few.1;
          fits = few.2;
          short = few.0;
          ordered = z.spread.ordered;
          nodes = λ j a b. (z.spread.members j a b).0.0;
          once = z.spread.once;
        },
        z.spread.told.0,
      )

module _ (W : Wiring) {listed unsure : ℕ → Bool} {w₀ : List ℕ} (S : Startable (wired W listed unsure) w₀) where
  abbrev G : Wires
  G = wired W listed unsure

  turned_law : {w x : List ℕ} {v : ℕ} {p q : Parts} → Taking G w₀ v w p → v < G.size → Turned W v w p x q → Taking G w₀ (v + 1) x q
  turned_law {w} {x} {v} {p} T vn (past t) = record {
    long = T.long;
    after = T.after;
    untaken = T.untaken;
    others = T.others;
    below = λ u l. below_go u l (ℕ_discrete u v);
    closed = T.closed;
    worth = T.worth;
    paid = T.paid;
    sets = T.sets;
    nodes = T.nodes;
    once = T.once;
    sorted = T.sorted;
    spread = T.spread;
  }
    where
      below_go : (u : ℕ) → u < v + 1 → Dec (u ≡ v) → at w (G.size + u) < least_telling
      below_go u l (yes e) = rw e t
      below_go u l (no e) = T.below u (omega arith)
  turned_law T vn (alone o e b) = settled_law S T vn (settled-alone _ (ready_taking S T) (vn, o) T.worth T.paid (kept_few G T) e b)
  turned_law {p = p} T vn (quiet o (flooded r e l) b t) =
      settled_law S T vn (settled_quiet _ (ready_taking S T) (vn, o) T.worth T.paid (emptied_law W listed unsure (emptying_none G _ (ready_taking S T) (vn, o) refl T.worth T.paid r) e) l b t)
  turned_law {p = p} T vn (keeps o (flooded r e l) b) =
      settled_law S T vn (settled_keeps _ (ready_taking S T) (vn, o) T.worth T.paid (emptied_law W listed unsure (emptying_none G _ (ready_taking S T) (vn, o) refl T.worth T.paid r) e) l b)

  -- both ends of a branch are nodes that tell of sources
  ends_far : (h : ℕ) → h < branches G → G.listed h ≡ true → Untaken G w₀ (far G h)
  ends_far h l o = let g = S.laid.mirrors h l o in subst (λ (y : ℕ). Untaken G w₀ y) g.1.back (S.ends g.0 g.1.there g.1.listed)

  taking_none : Taking G w₀ 0 w₀ (record { kept = 0; visits = 0 })
  taking_none = record {
    long = refl;
    after = λ j l. refl;
    untaken = λ u o. (refl, refl);
    others = λ u l d. (refl, refl);
    below = λ u l. absurd (omega arith);
    closed = λ h l e o. ends_far h l (sure_listed G h e).0;
    worth = λ g. omega (arith, total-zero (λ j. g (queue G w₀ j)));
    paid = omega arith;
    sets = λ u o t. absurd (omega (arith, o.1));
    nodes = λ j l. absurd (omega arith);
    once = λ i j l k. absurd (omega arith);
    sorted = λ u o t. absurd (omega (arith, o.1));
    spread = λ j h l. absurd (omega arith);
  }

  pub turns_law : {x : List ℕ} {v : ℕ} {q : Parts} → Turns W w₀ v x q → Taking G w₀ v x q
  turns_law nothing = taking_none
  turns_law (turn t l s) = turned_law (turns_law t) l s

  pub taking_end : {x : List ℕ} {v : ℕ} {q : Parts} → G.size ≤ v → Taking G w₀ v x q → Parted G w₀ x q.kept
  taking_end {x} {v} {q} end T = record {
    sets = λ u o. T.sets u o (all u o.0);
    few = kept_few G T;
    nodes = λ j l. (T.nodes j l).0;
    once = T.once;
    closed = λ j h l i o e. closed_go j h l i o e (G.unsure h) refl;
    quiet = λ h l o d. quiet_go h l o d (T.sorted (near G h) (S.ends h l o) (all (near G h) (S.laid.nears h l)));
    others = T.others;
    after = T.after;
  }
    where
      all : (u : ℕ) → u < G.size → at x (G.size + u) < least_telling
      all u l = T.below u (le_trans l end)

      closed_go : (j h : ℕ) → j < q.kept → h < branches G → G.listed h ≡ true → near G h ≡ queue G x j → (b : Bool) → G.unsure h ≡ b → Kept G x q.kept (far G h)
      closed_go j h l i o e false t = T.spread j h l i (listed_sure G h o t) e
      closed_go j h l i o e true t = go (T.sorted (far G h) (ends_far h i o) (all (far G h) (S.laid.fars h i)))
        where
          go : Kept G x q.kept (far G h) ⊎ Quiet G x (far G h) → Kept G x q.kept (far G h)
          go (inl k) = k
          go (inr y) =
              let g = S.laid.mirrors h i o in
              absurd (true≢false (sym t ∙ sym g.1.unsure ∙ (y g.0 g.1.there g.1.listed g.1.back).0))

      quiet_go : (h : ℕ) → h < branches G → G.listed h ≡ true → ((j : ℕ) → j < q.kept → queue G x j ≡ near G h → ⊥) → Kept G x q.kept (near G h) ⊎ Quiet G x (near G h)
          → (at x (G.size + near G h) ≡ at x (G.size + far G h)) × (at x (near G h) ≡ at x (far G h))
      quiet_go h l o d (inl k) = absurd (d k.0 k.1 k.2)
      quiet_go h l o d (inr y) = let z = y h l o refl in (z.1, z.2)

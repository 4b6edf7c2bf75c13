-- One set more is taken: its nodes have what both tables begin with, and it is kept whole or left whole. Assumes nothing.
use Prim.Native.Nat.{ℕ, ◌+◌, ◌*◌, ◌≤◌, ◌<◌}
use native.Mathlib.Omega.{arith}
use native.Mathlib.Nat.{le_trans}
use native.Mathlib.Decide.{ℕ_discrete, dec_lt}
use mathlib.Core.Path.{◌≡◌, sym, ap, ◌∙◌, subst}
use mathlib.Core.Bool.{true, false}
use mathlib.Core.List.{List}
use mathlib.Core.Logic.{◌⊎◌, inl, inr}
use lib.ListN.{length}
use Rattle.model.specs.Places.{at}
use Rattle.branches.specs.Branch.{prefix, Wires, near, far, branches, degrees, followed}
use Rattle.branches.proofs.Lists.{linked-same}
use Rattle.branches.specs.Code.{least_telling, telling, Within, begin}
use Rattle.joined.specs.declared.Parts.{Parts}
use Rattle.joined.specs.Sets.{Joined, Untaken, Startable, Sum, SetOf}
use Rattle.joined.specs.Kept.{spent, Ready, queue, Kept, Quiet, Taking}
use Rattle.joined.proofs.Telling.{begin_small}
use Rattle.joined.proofs.Ways.{listed_sure, joined_then, joined_back, joined_all, mirror_sure, sum_moved}

-- what a set that is taken keeps of the sets taken before
pub ready_taking : {G : Wires} {w₀ w : List ℕ} {v : ℕ} {p : Parts} → Startable G w₀ → Taking G w₀ v w p → Ready G w
ready_taking S T = record {
  laid = rw T.long S.laid;
  linked = linked-same T.after S.linked;
  told = λ u o. let e = (T.untaken u o).0 in rw e (S.told u (o.0, omega (arith, o.1, e)));
  closed = T.closed;
}

-- the set of v is taken: M says which nodes are its own
pub record Settled (G : Wires) (M : ℕ → Type 0) (w : List ℕ) (v : ℕ) (p : Parts) (x : List ℕ) (q : Parts) : Type 0 where
  pub code : ℕ
  pub small : code ≤ telling 3 3
  pub sum : Sum G w v code
  pub long : length x ≡ length w
  pub after : (j : ℕ) → 3 * G.size ≤ j → at x j ≡ at w j
  pub front : (j : ℕ) → j < p.kept → queue G x j ≡ queue G w j
  pub self : M v
  pub untaken : (u : ℕ) → M u → Untaken G w u
  pub joined : (u : ℕ) → M u → Joined G v u
  pub within : (u : ℕ) → M u → Within (at w (G.size + u)) code
  pub against0 : (u : ℕ) → M u → at x (G.size + u) ≡ begin 0 code (at w u)
  pub against1 : (u : ℕ) → M u → at x u ≡ begin 1 code (at w u)
  pub others : (u : ℕ) → u < G.size → M u ⊎ ((at x (G.size + u) ≡ at w (G.size + u)) × (at x u ≡ at w u))
  pub spread : (h : ℕ) → h < branches G → followed G false h ≡ true → M (near G h) → M (far G h)
  pub worth : (g : ℕ → ℕ) → prefix g x (2 * G.size) q.kept ≤ spent g x G.size G.size
  pub paid : q.visits ≤ spent (degrees G) x G.size G.size
  pub grows : p.kept ≤ q.kept
  pub nodes : (j : ℕ) → p.kept ≤ j → j < q.kept → M (queue G x j)
  pub once : (i j : ℕ) → p.kept ≤ i → i < j → j < q.kept → queue G x i ≡ queue G x j → ⊥
  pub sorted : ((u : ℕ) → M u → Kept G x q.kept u)
      ⊎ ((q.kept ≡ p.kept) × ((h : ℕ) → h < branches G → G.listed h ≡ true → M (near G h) → (G.unsure h ≡ false) × (at w (near G h) ≡ 0)))

module _ {G : Wires} {M : ℕ → Type 0} {w₀ w x : List ℕ} {v : ℕ} {p q : Parts} (S : Startable G w₀) (T : Taking G w₀ v w p) (vn : v < G.size) (Z : Settled G M w v p x q) where
  now_taken : (u : ℕ) → M u → at x (G.size + u) < least_telling
  now_taken u m = rw (Z.against0 u m) (begin_small 0 Z.code (at w u) Z.small)

  -- what was taken stays as it is
  stays : (u : ℕ) → u < G.size → at w (G.size + u) < least_telling → (at x (G.size + u) ≡ at w (G.size + u)) × (at x u ≡ at w u)
  stays u l t = go (Z.others u l)
    where
      go : M u ⊎ ((at x (G.size + u) ≡ at w (G.size + u)) × (at x u ≡ at w u)) → (at x (G.size + u) ≡ at w (G.size + u)) × (at x u ≡ at w u)
      go (inl m) = absurd (omega (arith, (Z.untaken u m).1))
      go (inr e) = e

  -- what is not taken now was not taken before, and is not of the set
  was : (u : ℕ) → Untaken G x u → (at x (G.size + u) ≡ at w (G.size + u)) × (at x u ≡ at w u)
  was u o = go (Z.others u o.0)
    where
      go : M u ⊎ ((at x (G.size + u) ≡ at w (G.size + u)) × (at x u ≡ at w u)) → (at x (G.size + u) ≡ at w (G.size + u)) × (at x u ≡ at w u)
      go (inl m) = absurd (omega (arith, now_taken u m, o.1))
      go (inr e) = e

  was_untaken : (u : ℕ) → Untaken G x u → Untaken G w u
  was_untaken u o = (o.0, omega (arith, (was u o).0, o.1))

  -- what is taken now is of the set, or was taken before
  of_set : (u : ℕ) → u < G.size → at x (G.size + u) < least_telling → (at w (G.size + u) < least_telling → ⊥) → M u
  of_set u l t o = go (Z.others u l)
    where
      go : M u ⊎ ((at x (G.size + u) ≡ at w (G.size + u)) × (at x u ≡ at w u)) → M u
      go (inl m) = m
      go (inr e) = absurd (o (omega (arith, e.0)))

  -- so the set's cells are those of the start
  began : (u : ℕ) → M u → (at w (G.size + u) ≡ at w₀ (G.size + u)) × (at w u ≡ at w₀ u)
  began u m = T.untaken u (Z.untaken u m)

  all_joined : (u : ℕ) → Joined G v u → M u
  all_joined u j = joined_all G S.laid M Z.spread Z.self j

  back_in : (h : ℕ) → h < branches G → followed G false h ≡ true → M (far G h) → M (near G h)
  back_in h l e m =
      let g = mirror_sure G S.laid h l e in
      subst M g.4 (Z.spread g.0 g.1 g.2 (subst M (sym g.3) m))

  settled_closed : (h : ℕ) → h < branches G → followed G false h ≡ true → Untaken G x (near G h) → Untaken G x (far G h)
  settled_closed h l e o = go (T.closed h l e (was_untaken (near G h) o)) (Z.others (far G h) (S.laid.fars h l))
    where
      go : Untaken G w (far G h) → M (far G h) ⊎ ((at x (G.size + far G h) ≡ at w (G.size + far G h)) × (at x (far G h) ≡ at w (far G h))) → Untaken G x (far G h)
      go u (inl m) = absurd (omega (arith, now_taken (near G h) (back_in h l e m), o.1))
      go u (inr c) = (u.0, omega (arith, c.0, u.1))

  settled-set : (u : ℕ) → M u → SetOf G w₀ x u
  settled-set u m = record {
    c = Z.code;
    sum = sum_moved G (λ y j. (joined_then G (joined_back G S.laid (Z.joined u m)) j, sym (began y (all_joined y j)).0)) Z.sum;
    whole = λ y j. let n = all_joined y (joined_then G (Z.joined u m) j) in rw (began y n).0 at (Z.within y n);
    against0 = rw (began u m).1 at (Z.against0 u m);
    against1 = rw (began u m).1 at (Z.against1 u m);
  }

  settled_sets : (u : ℕ) → Untaken G w₀ u → at x (G.size + u) < least_telling → SetOf G w₀ x u
  settled_sets u o t = go (dec_lt (at w (G.size + u)) least_telling)
    where
      go : Dec (at w (G.size + u) < least_telling) → SetOf G w₀ x u
      go (yes l) =
          let z = T.sets u o l in
          let e = stays u o.0 l in record { c = z.c; sum = z.sum; whole = z.whole; against0 = e.0 ∙ z.against0; against1 = e.1 ∙ z.against1 }
      go (no l) = settled-set u (of_set u o.0 t l)

  settled-nodes : (j : ℕ) → j < q.kept → Untaken G w₀ (queue G x j) × (at x (G.size + queue G x j) < least_telling)
  settled-nodes j l = go (dec_lt j p.kept)
    where
      go : Dec (j < p.kept) → Untaken G w₀ (queue G x j) × (at x (G.size + queue G x j) < least_telling)
      go (yes i) = let n = T.nodes j i in rw (Z.front j i) (n.0, omega (arith, (stays (queue G w j) n.0.0 n.1).0, n.1))
      go (no i) =
          let m = Z.nodes j (omega arith) l in
          let o = Z.untaken (queue G x j) m in ((o.0, omega (arith, (began (queue G x j) m).0, o.1)), now_taken (queue G x j) m)

  settled-once : (i j : ℕ) → i < j → j < q.kept → queue G x i ≡ queue G x j → ⊥
  settled-once i j l k e = go (dec_lt i p.kept) (dec_lt j p.kept)
    where
      go : Dec (i < p.kept) → Dec (j < p.kept) → ⊥
      go (yes a) (yes b) = T.once i j l b (sym (Z.front i a) ∙ e ∙ Z.front j b)
      go (yes a) (no b) =
          let same : queue G w i ≡ queue G x j = sym (Z.front i a) ∙ e in
          absurd (omega (arith, (T.nodes i a).1, ap (λ (y : ℕ). at w (G.size + y)) same, (Z.untaken (queue G x j) (Z.nodes j (omega arith) k)).1))
      go (no a) b = Z.once i j (omega arith) l k e

  kept_on : {u : ℕ} → Kept G w p.kept u → Kept G x q.kept u
  kept_on k = (k.0, le_trans k.1 Z.grows, Z.front k.0 k.1 ∙ k.2)

  -- sure branches lead from what was taken to what was taken
  taken_far : (h : ℕ) → h < branches G → followed G false h ≡ true → at w (G.size + near G h) < least_telling → at w (G.size + far G h) < least_telling
  taken_far h l e t = go (dec_lt (at w (G.size + far G h)) least_telling)
    where
      go : Dec (at w (G.size + far G h) < least_telling) → at w (G.size + far G h) < least_telling
      go (yes y) = y
      go (no y) =
          let g = mirror_sure G S.laid h l e in
          let o = T.closed g.0 g.1 g.2 (subst (λ (c : ℕ). Untaken G w c) (sym g.3) (S.laid.fars h l, omega arith)) in
          absurd (omega (arith, o.1, ap (λ (c : ℕ). at w (G.size + c)) g.4))

  quiet_on : (u : ℕ) → at w (G.size + u) < least_telling → Quiet G w u → Quiet G x u
  quiet_on u t y h l o n =
      let z = y h l o n in
      let e = listed_sure G h o z.0 in
      let d : at w (G.size + near G h) < least_telling = rw n t in
      let a = stays (near G h) (S.laid.nears h l) d in
      let b = stays (far G h) (S.laid.fars h l) (taken_far h l e d) in (z.0, a.0 ∙ z.1 ∙ sym b.0, a.1 ∙ z.2 ∙ sym b.1)

  -- in a set that is left nothing passes along a branch
  quiet_new : ((h : ℕ) → h < branches G → G.listed h ≡ true → M (near G h) → (G.unsure h ≡ false) × (at w (near G h) ≡ 0)) → (u : ℕ) → M u → Quiet G x u
  quiet_new y u m h l o n = (here_sure.0, level0, level1)
    where
      mine : M (near G h)
      mine = subst M (sym n) m

      here_sure : (G.unsure h ≡ false) × (at w (near G h) ≡ 0)
      here_sure = y h l o mine

      far_mine : M (far G h)
      far_mine = Z.spread h l (listed_sure G h o here_sure.0) mine

      far-zero : at w (far G h) ≡ 0
      far-zero =
          let g = S.laid.mirrors h l o in
          let k = g.1 in
          ap (at w) (sym k.back) ∙ (y g.0 k.there k.listed (subst M (sym k.back) far_mine)).1

      level0 : at x (G.size + near G h) ≡ at x (G.size + far G h)
      level0 = Z.against0 (near G h) mine ∙ ap (begin 0 Z.code) (here_sure.1 ∙ sym far-zero) ∙ sym (Z.against0 (far G h) far_mine)

      level1 : at x (near G h) ≡ at x (far G h)
      level1 = Z.against1 (near G h) mine ∙ ap (begin 1 Z.code) (here_sure.1 ∙ sym far-zero) ∙ sym (Z.against1 (far G h) far_mine)

  settled_sorted : (u : ℕ) → Untaken G w₀ u → at x (G.size + u) < least_telling → Kept G x q.kept u ⊎ Quiet G x u
  settled_sorted u o t = go (dec_lt (at w (G.size + u)) least_telling)
    where
      before : at w (G.size + u) < least_telling → Kept G w p.kept u ⊎ Quiet G w u → Kept G x q.kept u ⊎ Quiet G x u
      before l (inl k) = inl (kept_on k)
      before l (inr y) = inr (quiet_on u l y)

      own : M u → ((y : ℕ) → M y → Kept G x q.kept y)
          ⊎ ((q.kept ≡ p.kept) × ((h : ℕ) → h < branches G → G.listed h ≡ true → M (near G h) → (G.unsure h ≡ false) × (at w (near G h) ≡ 0)))
          → Kept G x q.kept u ⊎ Quiet G x u
      own m (inl k) = inl (k u m)
      own m (inr y) = inr (quiet_new y.1 u m)

      go : Dec (at w (G.size + u) < least_telling) → Kept G x q.kept u ⊎ Quiet G x u
      go (yes l) = before l (T.sorted u o l)
      go (no l) = own (of_set u o.0 t l) Z.sorted

  settled-spread : (j h : ℕ) → j < q.kept → h < branches G → followed G false h ≡ true → near G h ≡ queue G x j → Kept G x q.kept (far G h)
  settled-spread j h l i e n = go (dec_lt j p.kept) Z.sorted
    where
      go : Dec (j < p.kept)
          → ((y : ℕ) → M y → Kept G x q.kept y)
          ⊎ ((q.kept ≡ p.kept) × ((h : ℕ) → h < branches G → G.listed h ≡ true → M (near G h) → (G.unsure h ≡ false) × (at w (near G h) ≡ 0)))
          → Kept G x q.kept (far G h)
      go (yes a) s = kept_on (T.spread j h a i e (n ∙ Z.front j a))
      go (no a) (inl k) = k (far G h) (Z.spread h i e (subst M (sym n) (Z.nodes j (omega arith) l)))
      go (no a) (inr y) = absurd (omega (arith, y.0))

  pub settled_law : Taking G w₀ (v + 1) x q
  settled_law = record {
    long = Z.long ∙ T.long;
    after = λ j l. Z.after j l ∙ T.after j l;
    untaken = λ u o. let a = was u o in let b = T.untaken u (was_untaken u o) in (a.0 ∙ b.0, a.1 ∙ b.1);
    others = λ u l d. others_go u l d (dec_lt (at w₀ (G.size + u)) least_telling);
    below = λ u l. below_go u l (ℕ_discrete u v);
    closed = settled_closed;
    worth = Z.worth;
    paid = Z.paid;
    sets = settled_sets;
    nodes = settled-nodes;
    once = settled-once;
    sorted = settled_sorted;
    spread = settled-spread;
  }
    where
      others_go : (u : ℕ) → u < G.size → (Untaken G w₀ u → ⊥) → Dec (at w₀ (G.size + u) < least_telling) → (at x (G.size + u) ≡ at w₀ (G.size + u)) × (at x u ≡ at w₀ u)
      others_go u l d (yes t) =
          let a = T.others u l d in
          let b = stays u l (omega (arith, a.0)) in (b.0 ∙ a.0, b.1 ∙ a.1)
      others_go u l d (no t) = absurd (d (l, omega arith))

      below_go : (u : ℕ) → u < v + 1 → Dec (u ≡ v) → at x (G.size + u) < least_telling
      below_go u l (yes e) = rw e (now_taken v Z.self)
      below_go u l (no e) = let t = T.below u (omega arith) in omega (arith, (stays u (omega arith) t).0, t)

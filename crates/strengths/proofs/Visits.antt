-- One visit: a cell is raised, and its node put at the queue's end where it has the strength that spreads. Assumes nothing.
use Prim.Native.Nat.{ℕ, ◌+◌, ◌*◌, ◌≤◌, ◌<◌}
use native.Mathlib.Omega.{arith}
use native.Mathlib.Nat.{le_refl}
use native.Mathlib.Decide.{dec_lt}
use mathlib.Core.Path.{◌≡◌, refl, sym, ap, ap₂, ◌∙◌}
use mathlib.Core.Logic.{◌⊎◌, inl, inr}
use mathlib.Core.Bool.{Bool, true, cond}
use mathlib.Core.List.{List}
use lib.ListN.{length, set, length-set}
use lib.Seq.{get_or-set_same, get_or-set_other}
use lib.Dec.{eqb}
use borrow.Author.Tests.{eq-eqb, ne_eqb}
use Rattle.model.specs.Places.{at}
use Rattle.basis.proofs.Cells.{Stored, here, else, stored}
use Rattle.branches.specs.Branch.{prefix, Wires, near, far, branches, followed, amount}
use Rattle.branches.proofs.Ends.{followed-listed}
use Rattle.branches.proofs.Degrees.{total-same, total_more, total-next, prefix_same}
use Rattle.strengths.specs.Spread.{cell, Rose, began, over}
use Rattle.strengths.specs.Level.{share, weigh, Visited, still, less, whole, Held, Done, Moved}
use Rattle.strengths.proofs.Sums.{weigh_fewer}
use Rattle.strengths.proofs.Moves.{moved_none}

-- what a visit does, by the node b that is read and by what is brought, x, as they were computed
module _ {table queue s b' x' tail : ℕ} {w : List ℕ} (b x : ℕ) (eb : b ≡ b') (ex : x ≡ x') where
  pub visit_still : 2 * x ≤ cell w table b → Visited table queue s b' x' w tail w tail
  visit_still l = still (rw (eb, ex) at l)

  pub visit_less : cell w table b < 2 * x → x < s → Visited table queue s b' x' w tail (set w (table + b) (2 * x + 1)) tail
  visit_less l q = rw (eb, ex) (less (rw ex at q) (rw (eb, ex) at l))

  pub visit_whole : cell w table b < 2 * x → x ≤ s → s ≤ x → Visited table queue s b' x' w tail (set (set w (table + b) (2 * x + 1)) (queue + tail) b) (tail + 1)
  visit_whole l q r = let e : x ≡ s = omega arith in rw (eb, e) (whole (sym ex ∙ e) (rw (eb, e) at l))

module _ {G : Wires} {mem : ℕ → ℕ} {m table queue s : ℕ} {w : List ℕ} {tail : ℕ} (H : Held G mem m table queue s w tail) where
  -- the queue has room while a node that takes part is not in it
  pub room-left : (j b : ℕ) → j < m → mem j ≡ b → cell w table b < 2 * s + 1 → tail < m
  room-left j b l e p = omega (arith, H.counted, weigh_fewer mem m w table (2 * s + 1) j l (λ q. absurd (omega (arith, ap (cell w table) e))))

  module _ {h : ℕ} (l : h < branches G) where
    far_in : far G h < G.size
    far_in = H.laid.fars h l

    in_table : table + far G h < length w
    in_table = omega (arith, H.laid.fits, H.place, far_in)

    off_table : (j : ℕ) → (j < table) ⊎ (table + G.size ≤ j) → j ≡ table + far G h → ⊥
    off_table j (inl p) e = omega arith
    off_table j (inr p) e = omega (arith, far_in)

    off_queue : (j : ℕ) → queue + j ≡ table + far G h → ⊥
    off_queue j e = omega (arith, far_in, H.place, H.behind)

    -- a cell raised to y
    module _ (y : ℕ) (low : cell w table (far G h) < y) (few : y ≤ 2 * s + 1) (u : List ℕ) (view : (v : ℕ) → v < G.size → Stored w (table + far G h) y (table + v) (cell u table v)) where
      same_node : (v : ℕ) → table + v ≡ table + far G h → v ≡ far G h
      same_node v e = omega arith

      raised_here : cell u table (far G h) ≡ y
      raised_here = go (view (far G h) far_in)
        where
          go : {z : ℕ} → Stored w (table + far G h) y (table + far G h) z → z ≡ y
          go (here e r) = r
          go (else e r) = absurd (e refl)

      raised_else : (v : ℕ) → v < G.size → (v ≡ far G h → ⊥) → cell u table v ≡ cell w table v
      raised_else v i d = go (view v i)
        where
          go : {z : ℕ} → Stored w (table + far G h) y (table + v) z → z ≡ cell w table v
          go (here e r) = absurd (d (same_node v e))
          go (else e r) = r

      raised_above : (v : ℕ) → v < G.size → cell w table v ≤ cell u table v
      raised_above v i = go (view v i)
        where
          go : {z : ℕ} → Stored w (table + far G h) y (table + v) z → cell w table v ≤ z
          go (here e r) = omega (arith, ap (at w) e)
          go (else e r) = omega arith

      raised_sound : {all : Bool} → Rose G all (cell w table) (far G h) y → (v : ℕ) → v < G.size → Rose G all (cell w table) v (cell u table v)
      raised_sound {all} rose v i = go (view v i)
        where
          go : {z : ℕ} → Stored w (table + far G h) y (table + v) z → Rose G all (cell w table) v z
          go (here e r) = rw (r, same_node v e) rose
          go (else e r) = rw r (began v i)

      raised-kept : (v : ℕ) → v < G.size → 2 * s + 1 < cell u table v → cell w table v ≡ cell u table v
      raised-kept v i = go (view v i)
        where
          go : {z : ℕ} → Stored w (table + far G h) y (table + v) z → 2 * s + 1 < z → cell w table v ≡ z
          go (here e r) p = absurd (omega arith)
          go (else e r) p = sym r

      raised_stays : (v : ℕ) → v < G.size → cell w table v ≡ 2 * s + 1 → cell u table v ≡ 2 * s + 1
      raised_stays v i q = raised_else v i (λ e. absurd (omega (arith, ap (cell w table) e))) ∙ q

    abbrev raise : ℕ → List ℕ
    raise y = set w (table + far G h) y

    raise_view : (y v : ℕ) → v < G.size → Stored w (table + far G h) y (table + v) (cell (raise y) table v)
    raise_view y v _ = stored w (table + far G h) y (table + v) in_table

    -- a cell raised to less than the strength that spreads: no sum changes
    module _ (y : ℕ) (low : cell w table (far G h) < y) (few : y < 2 * s + 1) where
      lower_same : (f : ℕ → ℕ) (v : ℕ) → v < G.size → share f w table (2 * s + 1) v ≡ share f (raise y) table (2 * s + 1) v
      lower_same f v a = go (raise_view y v a)
        where
          go : {z : ℕ} → Stored w (table + far G h) y (table + v) z → share f w table (2 * s + 1) v ≡ cond (eqb z (2 * s + 1)) (f v) 0
          go {z} (here q r) = rw (ne_eqb (cell w table v) (2 * s + 1) (λ c. absurd (omega (arith, ap (at w) q))), ne_eqb z (2 * s + 1) (λ c. absurd (omega arith))) refl
          go (else q r) = rw r refl

      lower_came : (v : ℕ) → v < G.size → cell (raise y) table v ≡ 2 * s + 1 → cell w table v ≡ 2 * s + 1
      lower_came v a = go (raise_view y v a)
        where
          go : {z : ℕ} → Stored w (table + far G h) y (table + v) z → z ≡ 2 * s + 1 → cell w table v ≡ 2 * s + 1
          go (here q r) c = absurd (omega arith)
          go (else q r) c = sym r ∙ c

    -- a cell raised to the strength that spreads, and the queue's new end
    abbrev mark : List ℕ
    mark = set (raise (2 * s + 1)) (queue + tail) (far G h)

    module _ (low : cell w table (far G h) < 2 * s + 1) (j : ℕ) (jl : j < m) (ej : mem j ≡ far G h) where
      mark_else : (k : ℕ) → (k ≡ queue + tail → ⊥) → at mark k ≡ at (raise (2 * s + 1)) k
      mark_else k d = get_or-set_other (raise (2 * s + 1)) (queue + tail) k (far G h) 0 d

      mark_view : (v : ℕ) → v < G.size → Stored w (table + far G h) (2 * s + 1) (table + v) (cell mark table v)
      mark_view v a = rw (mark_else (table + v) (λ q. absurd (omega (arith, H.place, H.behind)))) (raise_view (2 * s + 1) v a)

      mark_end : at mark (queue + tail) ≡ far G h
      mark_end = get_or-set_same (raise (2 * s + 1)) (queue + tail) (far G h) 0 (simp length-set (omega (arith, room-left j (far G h) jl ej low, H.fits, H.laid.fits)))

      mark_old : (k : ℕ) → k < tail → at mark (queue + k) ≡ at w (queue + k)
      mark_old k a = mark_else (queue + k) (λ q. absurd (omega arith)) ∙ get_or-set_other w (table + far G h) (queue + k) (2 * s + 1) 0 (off_queue k)

      mark_other : (k : ℕ) → (k < table) ⊎ (table + G.size ≤ k) → (k < queue) ⊎ (queue + m ≤ k) → at mark k ≡ at w k
      mark_other k p q = mark_else k (λ c. go c q) ∙ get_or-set_other w (table + far G h) k (2 * s + 1) 0 (off_table k p)
        where
          go : k ≡ queue + tail → (k < queue) ⊎ (queue + m ≤ k) → ⊥
          go c (inl a) = omega arith
          go c (inr a) = omega (arith, room-left j (far G h) jl ej low)

      mark-cell : (v : ℕ) → v < G.size → (v ≡ far G h → ⊥) → cell mark table v ≡ cell w table v
      mark-cell = raised_else (2 * s + 1) low (le_refl _) mark mark_view

      other_node : (k : ℕ) → k < m → (k ≡ j → ⊥) → mem k ≡ far G h → ⊥
      other_node k a d q = go (dec_lt k j)
        where
          go : Dec (k < j) → ⊥
          go (yes c) = H.once k j c jl (q ∙ sym ej)
          go (no c) = H.once j k (omega arith) a (ej ∙ sym q)

      -- its weight is added
      mark-weigh : (f : ℕ → ℕ) → weigh f mem m mark table (2 * s + 1) ≡ weigh f mem m w table (2 * s + 1) + f (far G h)
      mark-weigh f =
          total_more (λ k. share f w table (2 * s + 1) (mem k)) (λ k. share f mark table (2 * s + 1) (mem k)) m j (f (far G h))
          (λ k a d. rw (mark-cell (mem k) (H.nodes k a) (other_node k a d)) refl)
          jl
          (rw (ej, eq-eqb (cell mark table (far G h)) (2 * s + 1) (raised_here (2 * s + 1) low (le_refl _) mark mark_view), ne_eqb (cell w table (far G h)) (2 * s + 1) (λ c. absurd (omega arith))) (omega arith))

      mark_sum : (f : ℕ → ℕ) → prefix f w queue tail ≡ weigh f mem m w table (2 * s + 1) → prefix f mark queue (tail + 1) ≡ weigh f mem m mark table (2 * s + 1)
      mark_sum f c =
          total-next (λ k. f (at mark (queue + k))) tail
          ∙ ap₂ ◌+◌ (prefix_same f w mark queue tail mark_old ∙ c) (ap f mark_end)
          ∙ sym (mark-weigh f)

      mark-fresh : (k : ℕ) → tail ≤ k → k < tail + 1 → (i : ℕ) × (i < m) × (at mark (queue + k) ≡ mem i) × (cell mark table (mem i) ≡ 2 * s + 1)
      mark-fresh k a b = let q : k ≡ tail = omega arith in (j, jl, ap (λ (c : ℕ). at mark (queue + c)) q ∙ mark_end ∙ sym ej, ap (cell mark table) ej ∙ raised_here (2 * s + 1) low (le_refl _) mark mark_view)

      mark_came : (v : ℕ) → v < G.size → cell mark table v ≡ 2 * s + 1 → (cell w table v ≡ 2 * s + 1) ⊎ ((k : ℕ) × (tail ≤ k) × (k < tail + 1) × (at mark (queue + k) ≡ v))
      mark_came v a = go (mark_view v a)
        where
          go : {z : ℕ} → Stored w (table + far G h) (2 * s + 1) (table + v) z → z ≡ 2 * s + 1 → (cell w table v ≡ 2 * s + 1) ⊎ ((k : ℕ) × (tail ≤ k) × (k < tail + 1) × (at mark (queue + k) ≡ v))
          go (here q r) c = let g : far G h ≡ v = omega arith in inr (tail, le_refl _, omega arith, mark_end ∙ g)
          go (else q r) c = inl (sym r ∙ c)

    -- the visit of a branch that is followed, of a node that takes part and has the strength s
    module _ (all : Bool) (o : followed G all h ≡ true) (i : ℕ) (il : i < m) (e : near G h ≡ mem i) (strong : cell w table (near G h) ≡ 2 * s + 1) where
      end_in : (j : ℕ) × (j < m) × (mem j ≡ far G h)
      end_in = H.closed i h il l (followed-listed G all h o) e

      -- what it brings of s, as a cell
      abbrev gain : ℕ
      gain = 2 * amount G s h + 1

      starts : Rose G all (cell w table) (near G h) (cell w table (near G h))
      starts = began (near G h) (H.laid.nears h l)

      rose : cell w table (far G h) < 2 * amount G s h → Rose G all (cell w table) (far G h) (2 * amount G s h + 1)
      rose p = over s h (rw strong at starts) l o p

      pub visited_moved : {u : List ℕ} {t : ℕ} → Visited table queue s (far G h) (amount G s h) w tail u t → Moved G all mem m table queue s w tail u t
      visited_moved (still d) = moved_none
      visited_moved (less few low) = record {
        long = simp length-set refl;
        other = λ j p _. get_or-set_other w (table + far G h) j _ 0 (off_table j p);
        apart = λ v a d. raised_else gain low'' few'' (raise gain) (raise_view gain) v a (λ q. d end_in.0 end_in.1 (end_in.2 ∙ sym q));
        above = raised_above gain low'' few'' (raise gain) (raise_view gain);
        sound = raised_sound gain low'' few'' (raise gain) (raise_view gain) (rose low);
        kept = raised-kept gain low'' few'' (raise gain) (raise_view gain);
        stays = raised_stays gain low'' few'' (raise gain) (raise_view gain);
        more = le_refl _;
        old = λ j _. get_or-set_other w (table + far G h) (queue + j) _ 0 (off_queue j);
        sum = λ f c.
            prefix_same f w (raise gain) queue tail (λ j _. get_or-set_other w (table + far G h) (queue + j) gain 0 (off_queue j))
            ∙ c
            ∙ total-same _ _ m (λ k a. lower_same gain low'' few' f (mem k) (H.nodes k a));
        fresh = λ j p q. absurd (omega arith);
        came = λ v a c. inl (lower_came gain low'' few' v a c);
      }
        where
          low'' : cell w table (far G h) < gain
          low'' = omega arith

          few' : gain < 2 * s + 1
          few' = omega arith

          few'' : gain ≤ 2 * s + 1
          few'' = omega arith
      visited_moved (whole q low) = record {
        long = simp length-set refl;
        other = mark_other low' end_in.0 end_in.1 end_in.2;
        apart = λ v a d. mark-cell low' end_in.0 end_in.1 end_in.2 v a (λ c. d end_in.0 end_in.1 (end_in.2 ∙ sym c));
        above = raised_above _ low' (le_refl _) mark view;
        sound = raised_sound _ low' (le_refl _) mark view (rw q at (rose (omega arith)));
        kept = raised-kept _ low' (le_refl _) mark view;
        stays = raised_stays _ low' (le_refl _) mark view;
        more = omega arith;
        old = mark_old low' end_in.0 end_in.1 end_in.2;
        sum = mark_sum low' end_in.0 end_in.1 end_in.2;
        fresh = mark-fresh low' end_in.0 end_in.1 end_in.2;
        came = mark_came low' end_in.0 end_in.1 end_in.2;
      }
        where
          low' : cell w table (far G h) < 2 * s + 1
          low' = omega arith

          view : (v : ℕ) → v < G.size → Stored w (table + far G h) (2 * s + 1) (table + v) (cell mark table v)
          view = mark_view low' end_in.0 end_in.1 end_in.2

      -- then it has nothing more to bring
      pub visited_done : {u : List ℕ} {t : ℕ} → Visited table queue s (far G h) (amount G s h) w tail u t → Done G table s u h
      visited_done (still d) = d
      visited_done (less few low) = omega (arith, raised_here gain (omega arith) (omega arith) (raise gain) (raise_view gain))
      visited_done (whole q low) = omega (arith, q, raised_here (2 * s + 1) (omega arith) (le_refl _) mark (mark_view (omega arith) end_in.0 end_in.1 end_in.2))

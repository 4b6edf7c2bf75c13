-- One node joins the set that is flooded, or was taken: what that keeps. Assumes nothing.
use Prim.Native.Nat.{ℕ, ◌+◌, ◌*◌, ◌≤◌, ◌<◌}
use native.Mathlib.Omega.{arith}
use native.Mathlib.Nat.{le_refl, le_trans}
use native.Mathlib.Decide.{ℕ_discrete}
use mathlib.Core.Path.{◌≡◌, refl, sym, ap, ◌∙◌, subst}
use mathlib.Core.Bool.{true}
use mathlib.Core.List.{List}
use mathlib.Core.Logic.{◌⊎◌, inl, inr, ◌≢◌}
use lib.ListN.{set, length-set}
use lib.Seq.{get_or-set_same, get_or-set_other}
use Rattle.model.specs.Places.{at}
use Rattle.branches.specs.Branch.{prefix, Wires}
use Rattle.branches.proofs.Degrees.{total-next, total_ones, prefix_same}
use Rattle.branches.specs.Code.{least_telling, together, Within}
use Rattle.joined.specs.declared.Found.{Found}
use Rattle.joined.specs.Sets.{Joined, Untaken, Sum, one, both}
use Rattle.joined.specs.Floods.{queued, joining, Reached, taken, joins}
use Rattle.joined.specs.Kept.{spent, Room, Ready, Member, queue, Spread}
use Rattle.joined.proofs.Sums.{spent-same, spent_more, spent_few}
use Rattle.joined.proofs.Telling.{together-telling, within_trans, within_first, within_second}

-- one more node can be taken: so the queue is not full
pub room_tail : {n : ℕ} {w : List ℕ} {tail : ℕ} → Room n w tail → (b : ℕ) → b < n → least_telling ≤ at w (n + b) → tail < n
room_tail {n} {w} {tail} R b l o = omega (arith, R.counted, spent_more (λ v. 1) w n b n (omega (arith, R.fits)) o l, spent_few (set w (n + b) 0) n n)

-- the code's own sum of what is told
pub joins_by : {n b m : ℕ} {w : List ℕ} (f : Found) → least_telling ≤ at w (n + b) → m ≡ together f.code (at w (n + b))
    → Reached n b w f (queued n b w f.tail) (record { tail = f.tail + 1; code = m; sure = f.sure; visits = f.visits })
joins_by {n} {b} {m} {w} f o e =
    subst (λ (y : ℕ). Reached n b w f (queued n b w f.tail) (record { tail = f.tail + 1; code = y; sure = f.sure; visits = f.visits })) (sym e) (joins o)

-- what stays as the queue grows
pub record Grown (G : Wires) (w : List ℕ) (f : Found) (x : List ℕ) (g : Found) : Type 0 where
  pub more : f.tail ≤ g.tail
  pub old : (j : ℕ) → j < f.tail → queue G x j ≡ queue G w j
  pub level : (p : ℕ → ℕ) → prefix p x (2 * G.size) g.tail + spent p w G.size G.size ≡ prefix p w (2 * G.size) f.tail + spent p x G.size G.size
  pub sure : g.sure ≡ true → f.sure ≡ true

pub member_grown : {G : Wires} {w x : List ℕ} {f g : Found} {from u : ℕ} → Grown G w f x g → Member G w from f.tail u → Member G x from g.tail u
member_grown z m = (m.0, m.1, le_trans m.2 z.more, z.old m.0 m.2 ∙ m.3)

-- node b, which is joined to v, was reached
pub record Reach (G : Wires) (w₀ : List ℕ) (v from b : ℕ) (w : List ℕ) (f : Found) (x : List ℕ) (g : Found) : Type 0 where
  pub spread : Spread G w₀ v from x g.tail g.code
  pub grown : Grown G w f x g
  pub member : Untaken G w₀ b → Member G x from g.tail b
  pub visits : g.visits ≡ f.visits
  pub sure : g.sure ≡ f.sure

module _ (G : Wires) {w₀ : List ℕ} {v from : ℕ} (R : Ready G w₀) where
  pub spread-room : {w : List ℕ} {tail code : ℕ} → Spread G w₀ v from w tail code → Room G.size w tail
  spread-room {w} {tail} z = record { few = R.laid.few_nodes; fits = omega (arith, R.laid.fits, z.long); counted = omega (arith, total_ones tail, z.worth (λ v. 1)) }

  module _ {w : List ℕ} (f : Found) (z : Spread G w₀ v from w f.tail f.code) (b : ℕ) (bn : b < G.size) (jb : Joined G v b) (o : least_telling ≤ at w (G.size + b)) where
    abbrev x : List ℕ
    x = queued G.size b w f.tail

    room : Room G.size w f.tail
    room = spread-room z

    tail_in : f.tail < G.size
    tail_in = room_tail room b bn o

    -- b is in the queue only if it was taken
    same_b : at w (G.size + b) ≡ at w₀ (G.size + b)
    same_b = go (z.others b bn)
      where
        go : Member G w from f.tail b ⊎ (at w (G.size + b) ≡ at w₀ (G.size + b)) → at w (G.size + b) ≡ at w₀ (G.size + b)
        go (inl m) = absurd (omega (arith, (z.members m.0 m.1 m.2).2, ap (λ (y : ℕ). at w (G.size + y)) m.3))
        go (inr e) = e

    open_b : Untaken G w₀ b
    open_b = (bn, omega (arith, same_b))

    elsewhere : (j : ℕ) → j ≢ G.size + b → j ≢ 2 * G.size + f.tail → at x j ≡ at w j
    elsewhere j p q = get_or-set_other (set w (G.size + b) 0) (2 * G.size + f.tail) j b 0 q ∙ get_or-set_other w (G.size + b) j 0 0 p

    new_end : queue G x f.tail ≡ b
    new_end = get_or-set_same (set w (G.size + b) 0) (2 * G.size + f.tail) b 0 (simp length-set (omega (arith, room.fits, tail_in)))

    new-cell : at x (G.size + b) ≡ 0
    new-cell = get_or-set_other (set w (G.size + b) 0) (2 * G.size + f.tail) (G.size + b) b 0 (omega arith) ∙ get_or-set_same w (G.size + b) 0 0 (omega (arith, room.fits))

    old_queue : (j : ℕ) → j < f.tail → queue G x j ≡ queue G w j
    old_queue j l = elsewhere (2 * G.size + j) (omega arith) (omega arith)

    old_cell : (u : ℕ) → u < G.size → (u ≡ b → ⊥) → at x (G.size + u) ≡ at w (G.size + u)
    old_cell u l d = elsewhere (G.size + u) (λ e. d (omega arith)) (omega arith)

    still_taken : (u : ℕ) → u < G.size → at w (G.size + u) < least_telling → at x (G.size + u) < least_telling
    still_taken u l t = omega (arith, old_cell u l (λ e. absurd (omega (arith, ap (λ (y : ℕ). at w (G.size + y)) e))))

    levels : (p : ℕ → ℕ) → prefix p x (2 * G.size) (f.tail + 1) + spent p w G.size G.size ≡ prefix p w (2 * G.size) f.tail + spent p x G.size G.size
    levels p =
        omega (
          arith,
          total-next (λ j. p (queue G x j)) f.tail,
          prefix_same p w x (2 * G.size) f.tail old_queue,
          ap p new_end,
          spent-same p (set w (G.size + b) 0) x G.size G.size (λ u l. get_or-set_other (set w (G.size + b) 0) (2 * G.size + f.tail) (G.size + u) b 0 (omega arith)),
          spent_more p w G.size b G.size (omega (arith, room.fits)) o bn,
        )

    pub grown_joins : Grown G w f x (joining (at w (G.size + b)) f)
    grown_joins = record { more = omega arith; old = old_queue; level = levels; sure = λ e. e }

    pub member_joins : Member G x from (f.tail + 1) b
    member_joins = (f.tail, z.ordered, omega arith, new_end)

    pub spread_joins : Spread G w₀ v from x (f.tail + 1) (together f.code (at w (G.size + b)))
    spread_joins = record {
      long = simp length-set z.long;
      offers = λ j l. elsewhere j (omega arith) (omega arith) ∙ z.offers j l;
      front = λ j l. old_queue j (omega (arith, z.ordered)) ∙ z.front j l;
      after = λ j l. elsewhere j (omega arith) (omega (arith, tail_in)) ∙ z.after j l;
      ordered = omega (arith, z.ordered);
      members = λ j l i. members_go j l i (ℕ_discrete j f.tail);
      others = λ u l. others_go u l (ℕ_discrete u b) (z.others u l);
      once = λ i j l k m e. once_go i j l k m e (ℕ_discrete j f.tail);
      sum = both z.sum (subst (λ (y : ℕ). Sum G w₀ v y) (sym same_b) (one b jb bn));
      whole = λ j l i. whole_go j l i (ℕ_discrete j f.tail);
      told = together-telling f.code (at w (G.size + b)) z.told (rw same_b (R.told b open_b));
      worth = λ p. omega (arith, levels p, z.worth p);
    }
      where
        members_go : (j : ℕ) → from ≤ j → j < f.tail + 1 → Dec (j ≡ f.tail) → Untaken G w₀ (queue G x j) × Joined G v (queue G x j) × (at x (G.size + queue G x j) < least_telling)
        members_go j l i (yes e) = rw (e, new_end) (open_b, jb, omega (arith, new-cell))
        members_go j l i (no e) =
            let m = z.members j l (omega arith) in
            rw (old_queue j (omega arith)) (m.0, m.1, still_taken (queue G w j) m.0.0 m.2)

        others_go : (u : ℕ) → u < G.size → Dec (u ≡ b) → Member G w from f.tail u ⊎ (at w (G.size + u) ≡ at w₀ (G.size + u)) → Member G x from (f.tail + 1) u ⊎ (at x (G.size + u) ≡ at w₀ (G.size + u))
        others_go u l (yes e) d = inl (f.tail, z.ordered, omega arith, new_end ∙ sym e)
        others_go u l (no e) (inl m) = inl (m.0, m.1, omega (arith, m.2), old_queue m.0 m.2 ∙ m.3)
        others_go u l (no e) (inr q) = inr (old_cell u l e ∙ q)

        once_go : (i j : ℕ) → from ≤ i → i < j → j < f.tail + 1 → queue G x i ≡ queue G x j → Dec (j ≡ f.tail) → ⊥
        once_go i j l k m e (yes q) =
            let same : queue G w i ≡ b = sym (old_queue i (omega arith)) ∙ e ∙ ap (queue G x) q ∙ new_end in
            absurd (omega (arith, (z.members i l (omega arith)).2, ap (λ (y : ℕ). at w (G.size + y)) same))
        once_go i j l k m e (no q) = z.once i j l k (omega arith) (sym (old_queue i (omega arith)) ∙ e ∙ old_queue j (omega arith))

        whole_go : (j : ℕ) → from ≤ j → j < f.tail + 1 → Dec (j ≡ f.tail) → Within (at w₀ (G.size + queue G x j)) (together f.code (at w (G.size + b)))
        whole_go j l i (yes e) = rw (e, new_end, ← same_b) (within_second f.code (at w (G.size + b)))
        whole_go j l i (no e) = rw (old_queue j (omega arith)) (within_trans (z.whole j l (omega arith)) (within_first f.code (at w (G.size + b))))

  pub reached : {b : ℕ} {w : List ℕ} {f : Found} {x : List ℕ} {g : Found} → Spread G w₀ v from w f.tail f.code → b < G.size → Joined G v b → Reached G.size b w f x g → Reach G w₀ v from b w f x g
  reached {b} {w} {f} {x} z bn jb (taken t) = record {
    spread = z;
    grown = record { more = le_refl _; old = λ j l. refl; level = λ p. refl; sure = λ e. e };
    member = λ o. go o (z.others b bn);
    visits = refl;
    sure = refl;
  }
    where
      go : Untaken G w₀ b → Member G w from f.tail b ⊎ (at w (G.size + b) ≡ at w₀ (G.size + b)) → Member G w from f.tail b
      go o (inl m) = m
      go o (inr e) = absurd (omega (arith, o.1))
  reached {b} {f = f} z bn jb (joins o) = record { spread = spread_joins f z b bn jb o; grown = grown_joins f z b bn jb o; member = λ u. member_joins f z b bn jb o; visits = refl; sure = refl }

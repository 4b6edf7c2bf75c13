-- What both tables begin with, over the definite strengths: at each node what its joined set and the inputs behind unknown transistors bring. Assumes nothing.
use Prim.Native.Nat.{ℕ, min, ◌+◌, ◌*◌, ◌-◌, ◌/◌, ◌%◌, ◌≤◌, ◌<◌}
use native.Mathlib.Omega.{arith}
use native.Mathlib.Decide.{ℕ_discrete, dec_lt}
use mathlib.Core.Path.{◌≡◌, refl, sym, ap, ◌∙◌, subst}
use mathlib.Core.Bool.{Bool, true, false, not, cond, ◌&&◌, ◌||◌, true≢false}
use mathlib.Core.List.{List, []}
use lib.Dec.{eqb, leb}
use borrow.Author.Tests.{eq-eqb, ne_eqb, eqb-false, le-leb, lt-leb, not-true}
use Rattle.model.specs.Places.{at}
use Rattle.model.specs.Net.{Net, nodes, transistors, is_input, Stand, opened, closed, unknown, stand_at, source_state}
use Rattle.model.specs.Ways.{Frame, Inside, Joins, choose}
use Rattle.model.specs.Tables.{Came, began, over, Least, starts, definite}
use Rattle.model.specs.RuleOne.{frame}
use Rattle.laws.proofs.Sweep.{strongest_least}
use Rattle.laws.proofs.RuleOne.{lawful}
use Rattle.basis.specs.Sound.{Checked}
use Rattle.branches.specs.Branch.{Wires, near}
use Rattle.branches.specs.Code.{strength_of, mark, rank, unlike, begin}
use Rattle.branches.proofs.Codes.{unlike_0, unlike_1, begin_offered, begin_real, begin-bare, strength_real}
use Rattle.layout.proofs.Told.{closed_passes, doubtful_passes}
use Rattle.layout.specs.Layout.{wires, shut, doubtful, Behind, behind, Source, itself, given, Tells, Offered, nothing, something, LaidOut}
use Rattle.joined.specs.Sets.{Joined, here, on, SetOf}
use Rattle.stepper.proofs.Drawn.{joins_back, draws, near_inside}
use Rattle.stepper.proofs.Told.{Ours, joined_inside, told}

came_below : {F : Frame} {ok : ℕ → Bool} {low start : ℕ → ℕ} {v k : ℕ} → Came F ok low start v k → v < F.size
came_below (began v l) = l
came_below (over c t v i j o h) = i.0

-- what came is no more than the least table has
came_most : {F : Frame} {ok : ℕ → Bool} {low start x : ℕ → ℕ} → Least F ok low start x → {v k : ℕ} → Came F ok low start v k → k ≤ x v
came_most X (began v l) = X.above v l
came_most X (over {w = w} c t v i j o h) = let r = came_most X c in omega (arith, X.closed_under t v w i (came_below c) j o (omega arith))

-- only what a table begins with at nodes counts
module _ {F : Frame} {ok : ℕ → Bool} {low start start' : ℕ → ℕ} (e : (v : ℕ) → v < F.size → start v ≡ start' v) where
  came_on : {v k : ℕ} → Came F ok low start v k → Came F ok low start' v k
  came_on (began v l) = rw (e v l) (began v l)
  came_on (over c t v i j o h) = over (came_on c) t v i j o h

  least_on : {x : ℕ → ℕ} → Least F ok low start x → Least F ok low start' x
  least_on X = record { above = λ v l. omega (arith, X.above v l, e v l); closed_under = X.closed_under; comes = λ v l. came_on (X.comes v l) }

-- a cell without a mark is unlike nothing, and one with a mark is unlike 0 or 1
zero_like : (b : ℕ) → unlike b 0 ≡ false
zero_like b = go (ℕ_discrete b 0)
  where
    go : Dec (b ≡ 0) → unlike b 0 ≡ false
    go (yes q) = sym (unlike_0 b 0 q)
    go (no q) = sym (unlike_1 b 0 q)

some-unlike : (m : ℕ) → 1 ≤ m → m ≤ 3 → (b : ℕ) × (b ≤ 1) × (unlike b m ≡ true)
some-unlike m l h = go (dec_lt m 2)
  where
    go : Dec (m < 2) → (b : ℕ) × (b ≤ 1) × (unlike b m ≡ true)
    go (yes q) = (1, omega arith, sym (unlike_1 1 m (λ e. absurd (omega arith))) ∙ eq-eqb (m % 2) 1 (omega arith))
    go (no q) = (0, omega arith, sym (unlike_0 0 m refl) ∙ le-leb 2 m (omega arith))

-- a source that is no input and weaker than what is definite counts for nothing
too_weak : (x i : Bool) (d o : ℕ) → i ≡ false → o < d → cond (x && (i || leb d o)) o 0 ≡ 0
too_weak false i d o e l = refl
too_weak true i d o e l = simp (e, lt-leb d o l)

-- a transistor that is not open is closed or unknown
pub data Able (x : Stand) : Type 0 where
  surely : choose x false ≡ true → Able x
  perhaps : (choose x true && not (choose x false)) ≡ true → Able x

able : (x : Stand) → choose x true ≡ true → Able x
able opened e = absurd (true≢false (sym e))
able closed e = surely refl
able unknown e = perhaps refl

module _ (net : Net) (s : List ℕ) where
  -- the definite strengths
  abbrev pub strongly : ℕ → ℕ
  strongly v = at (definite (frame net) (stand_at net s)) v

  pub definitely : Least (frame net) (shut net s) (λ v. 0) (frame net).own strongly
  unfolding definite
  definitely = least_on (λ v l. all (is_input net v) ((frame net).own v)) (strongest_least (frame net) (lawful net) (λ v. true) (shut net s) [])
    where
      all : (i : Bool) (x : ℕ) → cond (true && (i || leb 0 x)) x 0 ≡ x
      all true x = refl
      all false x = simp (le-leb 0 x (omega arith))

  -- the sources that are not at b, and what the table against b begins with
  abbrev pub besides : ℕ → ℕ → Bool
  besides b v = not (eqb (source_state net s v) b)

  abbrev pub start : ℕ → ℕ → ℕ
  start b = starts (frame net) (besides b) strongly

  besides_ne : (b v x : ℕ) → x ≡ source_state net s v → (x ≡ b → ⊥) → besides b v ≡ true
  besides_ne b v x e d = ap not (ne_eqb (source_state net s v) b (λ f. d (e ∙ f)))

  ne_besides : (b v : ℕ) → besides b v ≡ true → source_state net s v ≡ b → ⊥
  ne_besides b v e = eqb-false (source_state net s v) b (not-true (eqb (source_state net s v) b) e)

  pub start_input : (b v : ℕ) → is_input net v ≡ true → besides b v ≡ true → start b v ≡ 3
  start_input b v i e = simp (i, e)

  start_own : (b v : ℕ) → besides b v ≡ true → strongly v ≤ (frame net).own v → start b v ≡ (frame net).own v
  start_own b v e l = go (is_input net v)
    where
      go : (i : Bool) → cond (besides b v && (i || leb (strongly v) ((frame net).own v))) ((frame net).own v) 0 ≡ (frame net).own v
      go true = simp e
      go false = simp (e, le-leb (strongly v) ((frame net).own v) l)

-- what a cell c of the table against b says of node r, before anything has spread
pub record Begins (net : Net) (s : List ℕ) (b r c : ℕ) : Type 0 where
  pub came : (k : ℕ) → c ≡ 2 * k + 1 → Came (frame net) (λ t. choose (stand_at net s t) true) (strongly net s) (start net s b) r k
  pub above : start net s b r ≤ strength_of c
  pub floor : (k : ℕ) → c < 2 * k → strongly net s r ≤ k
  pub bar : (j k : ℕ) → c ≡ 2 * j → strongly net s r ≤ k → 1 ≤ k → j < k
  pub given : (t u : ℕ) → is_input net u ≡ true → u < nodes net → Joins (frame net) t r u → choose (stand_at net s t) true ≡ true → besides net s b u ≡ true → 6 ≤ c
  pub few : c ≤ 7
  pub odd : c % 2 ≡ 1 → 3 ≤ c

module _ (net : Net) (s : List ℕ) {room : ℕ} (C : Checked net s room) {w₀ w : List ℕ} (L : LaidOut net s (transistors net) w₀ w) {r : ℕ} (i : Inside (frame net) r) {w' : List ℕ} (S : SetOf (wires net s []) w w' r) where
  abbrev F : Frame
  F = frame net

  abbrev G : Wires
  G = wires net s []

  abbrev allowed : ℕ → Bool
  allowed t = choose (stand_at net s t) true

  abbrev T : Tells (Ours net s C L i) S.c
  T = told net s C L i S

  inner : {u : ℕ} → Joined G r u → Inside F u
  inner j = joined_inside net s C L i j

  -- a closed transistor leads on within the set
  joined_on : {t v u : ℕ} → Joined G r v → Inside F u → Joins F t v u → shut net s t ≡ true → Joined G r u
  joined_on {t} {v} {u} j b q o = (draws net s C false).every (λ t v w. Joined G r w → Joined G r v) (λ h l o j. on h j l o) t u v b (inner j) (joins_back F q) o j

  -- nothing stronger than its strongest source is definite in the set
  most_in : {v k : ℕ} → Came F (shut net s) (λ v. 0) F.own v k → Joined G r v → k ≤ T.k
  most_in (began v l) j = T.most (F.own v) (source_state net s v) (v, j, inner j, itself refl refl)
  most_in (over {w = u} {k = k} c t v a q o h) j = go (is_input net u) refl (λ z. most_in c z)
    where
      go : (b : Bool) → is_input net u ≡ b → (Joined G r u → k ≤ T.k) → min k 3 ≤ T.k
      go true e f = omega (arith, T.most 3 (source_state net s u) (v, j, a, given refl (behind t u q.0 q (came_below c) e o refl)))
      go false e f = omega (arith, f (joined_on j (came_below c, e) q o))

  low_in : {u : ℕ} → Joined G r u → strongly net s u ≤ T.k
  low_in {u} j = most_in ((definitely net s).comes u (inner j).0) j

  -- a strength comes along closed transistors from anywhere in the set
  along : (ok : ℕ → Bool) (low begin : ℕ → ℕ) → ((t : ℕ) → shut net s t ≡ true → ok t ≡ true) → ((u : ℕ) → Joined G r u → low u ≤ T.k) → {u : ℕ} → Joined G r u → Came F ok low begin u T.k → Came F ok low begin r T.k
  along ok low begin p f here c = c
  along ok low begin p f (on h j l o) c =
      let e : min T.k 3 ≡ T.k = omega (arith, T.strength) in
      along ok low begin p f j
      (subst (λ (k : ℕ). Came F ok low begin (near G h) k) e
      (over c (h / 2) (near G h) (near_inside net s C false h l o) (joins_back F ((draws net s C false).joins h l o)) (p (h / 2) ((draws net s C false).passes h l o)) (omega (arith, e, f (near G h) j))))

  -- the strongest source of the set is definite at r
  source_came : (x : ℕ) → Ours net s C L i T.k x → Came F (shut net s) (λ v. 0) F.own r T.k
  source_came x (u, j, a, p) = along (shut net s) (λ v. 0) F.own (λ t o. o) (λ u j. omega arith) j (go p)
    where
      go : Source net s (transistors net) u T.k x → Came F (shut net s) (λ v. 0) F.own u T.k
      go (itself e f) = subst (λ (k : ℕ). Came F (shut net s) (λ v. 0) F.own u k) (sym e) (began u a.0)
      go (given e (behind t v l q z d o f)) =
          let g : min (F.own v) 3 ≡ T.k = rw (d, e) refl in
          subst (λ (k : ℕ). Came F (shut net s) (λ v. 0) F.own u k) g (over (began v z) t u a q o (omega arith))

  pub strongly_is : strongly net s r ≡ T.k
  strongly_is =
      let b = some-unlike T.m T.marked.0 T.marked.1 in
      let p = T.there b.0 b.1 b.2 in
      omega (arith, low_in here, came_most (definitely net s) (source_came p.0 p.1))

  module _ (b : ℕ) (lb : b ≤ 1) where
    abbrev Comes : ℕ → ℕ → Type 0
    Comes v k = Came F allowed (strongly net s) (start net s b) v k

    -- what an input that is not at b brings to a node of the set
    input_comes : {t u v : ℕ} → Joined G r v → Joins F t v u → u < nodes net → is_input net u ≡ true → allowed t ≡ true → besides net s b u ≡ true → Comes v 3
    input_comes {t} {u} {v} j q l d o e =
        let g : min (start net s b u) 3 ≡ 3 = ap (λ (x : ℕ). min x 3) (start_input net s b u d e) in
        subst (λ (k : ℕ). Comes v k) g (over (began u l) t v (inner j) q o (omega (arith, g, low_in j, T.strength)))

    -- what the strongest source that is not at b brings to r
    ours_comes : (x : ℕ) → Ours net s C L i T.k x → (x ≡ b → ⊥) → Comes r T.k
    ours_comes x (u, j, a, p) d = along allowed (strongly net s) (start net s b) (λ t o. closed_passes (stand_at net s t) o) (λ u j. low_in j) j (go p)
      where
        go : Source net s (transistors net) u T.k x → Comes u T.k
        go (itself e f) =
            let g : start net s b u ≡ T.k = start_own net s b u (besides_ne net s b u x f d) (omega (arith, e, low_in j)) ∙ sym e in
            subst (λ (k : ℕ). Comes u k) g (began u a.0)
        go (given e (behind t v l q z y o f)) =
            subst (λ (k : ℕ). Comes u k) (sym e) (input_comes j q z y (closed_passes (stand_at net s t) o) (besides_ne net s b v x f d))

    -- where its own source counts, the set's strongest are not all at b
    own_counts : besides net s b r ≡ true → strongly net s r ≤ F.own r → unlike b T.m ≡ true
    own_counts e l =
        let own : F.own r ≡ T.k = omega (arith, strongly_is, T.most (F.own r) (source_state net s r) (r, here, i, itself refl refl)) in
        T.all b (source_state net s r) lb (r, here, i, itself (sym own) refl) (ne_besides net s b r e)

    start_zero : unlike b T.m ≡ false → start net s b r ≡ 0
    start_zero u = go (besides net s b r) refl (ℕ_discrete (strongly net s r - F.own r) 0)
      where
        go : (x : Bool) → besides net s b r ≡ x → Dec (strongly net s r - F.own r ≡ 0) → start net s b r ≡ 0
        go false e d = simp e
        go true e (yes d) = absurd (true≢false (sym (own_counts e (omega arith)) ∙ u))
        go true e (no d) = too_weak (besides net s b r) (is_input net r) (strongly net s r) (F.own r) i.1 (omega arith)

    start_few : start net s b r ≤ T.k
    start_few = go (besides net s b r && (is_input net r || leb (strongly net s r) (F.own r)))
      where
        go : (x : Bool) → cond x (F.own r) 0 ≤ T.k
        go true = T.most (F.own r) (source_state net s r) (r, here, i, itself refl refl)
        go false = omega arith

    rank_is : rank S.c ≡ T.k
    rank_is = omega (arith, T.is, T.marked)

    mark_is : mark S.c ≡ T.m
    mark_is = omega (arith, T.is, T.marked)

    offer_mark : {u : ℕ} {P : ℕ → ℕ → Type 0} (Q : Tells P u) → mark u ≡ Q.m
    offer_mark Q = omega (arith, Q.is, Q.marked)

    -- an input behind an unknown transistor that is not at b
    offer_comes : {u : ℕ} → Offered net s (transistors net) r u → unlike b (mark u) ≡ true → Comes r 3
    offer_comes (nothing e f) o = absurd (true≢false (sym (subst (λ (z : ℕ). unlike b (mark z) ≡ true) e o) ∙ zero_like b))
    offer_comes (something Q) o = go (Q.there b lb (subst (λ (z : ℕ). unlike b z ≡ true) (offer_mark Q) o))
      where
        go : (x : ℕ) × ((Q.k ≡ 3) × Behind net s (doubtful net s) (transistors net) r x) × (x ≡ b → ⊥) → Comes r 3
        go (x, (e, behind t v l q z y o f), d) = input_comes here q z y (doubtful_passes (stand_at net s t) o) (besides_ne net s b v x f d)

    offer_all : {u : ℕ} → Offered net s (transistors net) r u → (x : ℕ) → Behind net s (doubtful net s) (transistors net) r x → (x ≡ b → ⊥) → unlike b (mark u) ≡ true
    offer_all (nothing e f) x p d = absurd (f x p)
    offer_all (something Q) x p d =
        let e : Q.k ≡ 3 = omega (arith, Q.most 3 x (refl, p), Q.strength) in
        subst (λ (z : ℕ). unlike b z ≡ true) (sym (offer_mark Q)) (Q.all b x lb (e, p) d)

    abbrev u : ℕ
    u = at w r

    pub begins_at : Begins net s b r (begin b S.c u)
    begins_at = go (unlike b (mark u)) refl (unlike b (mark S.c)) refl
      where
        offered : Offered net s (transistors net) r u
        offered = L.offers r i

        ours : unlike b (mark S.c) ≡ true → unlike b T.m ≡ true
        ours e = subst (λ (z : ℕ). unlike b z ≡ true) mark_is e

        not_ours : unlike b (mark S.c) ≡ false → unlike b T.m ≡ false
        not_ours e = subst (λ (z : ℕ). unlike b z ≡ false) mark_is e

        real_comes : unlike b (mark S.c) ≡ true → Comes r T.k
        real_comes e = let p = T.there b lb (ours e) in ours_comes p.0 p.1 p.2

        -- an input that is not at b gives 3
        gives : (c : ℕ) → (unlike b (mark u) ≡ true → c ≡ 7) → (unlike b (mark u) ≡ false → unlike b (mark S.c) ≡ true → c ≡ 2 * T.k + 1) → (t v : ℕ) → is_input net v ≡ true → v < nodes net → Joins F t r v → allowed t ≡ true → besides net s b v ≡ true → 6 ≤ c
        gives c f g t v y z q o e = by (able (stand_at net s t) o)
          where
            by : Able (stand_at net s t) → 6 ≤ c
            by (perhaps p) = omega (arith, f (offer_all offered (source_state net s v) (behind t v q.0 q z y p refl) (ne_besides net s b v e)))
            by (surely p) = on_set (unlike b (mark u)) refl
              where
                three : T.k ≡ 3
                three = omega (arith, T.most 3 (source_state net s v) (r, here, i, given refl (behind t v q.0 q z y p refl)), T.strength)

                on_set : (x : Bool) → unlike b (mark u) ≡ x → 6 ≤ c
                on_set true h = omega (arith, f h)
                on_set false h =
                    omega (arith, three, g h (subst (λ (z : ℕ). unlike b z ≡ true) (sym mark_is) (T.all b (source_state net s v) lb (r, here, i, given three (behind t v q.0 q z y p refl)) (ne_besides net s b v e))))

        go : (x : Bool) → unlike b (mark u) ≡ x → (y : Bool) → unlike b (mark S.c) ≡ y → Begins net s b r (begin b S.c u)
        go true e y f = subst (λ (c : ℕ). Begins net s b r c) (begin_offered b S.c u e) (record {
          came = λ k q. subst (λ (z : ℕ). Comes r z) (omega arith) (offer_comes offered e);
          above = omega (arith, start_few, T.strength, strength_real 7 3 refl);
          floor = λ k q. omega (arith, strongly_is, T.strength);
          bar = λ j k q. absurd (omega arith);
          given = gives 7 (λ h. refl) (λ h. absurd (true≢false (sym e ∙ h)));
          few = omega arith;
          odd = λ q. omega arith;
        })
        go false e true f = subst (λ (c : ℕ). Begins net s b r c) (begin_real b S.c u e f) (rw rank_is (record {
          came = λ k q. subst (λ (z : ℕ). Comes r z) (omega arith) (real_comes f);
          above = omega (arith, start_few, strength_real (2 * T.k + 1) T.k refl);
          floor = λ k q. omega (arith, strongly_is);
          bar = λ j k q. absurd (omega arith);
          given = gives (2 * T.k + 1) (λ h. absurd (true≢false (sym h ∙ e))) (λ h g. refl);
          few = omega (arith, T.strength);
          odd = λ q. omega (arith, T.strength);
        }))
        go false e false f = subst (λ (c : ℕ). Begins net s b r c) (begin-bare b S.c u e f) (rw rank_is (record {
          came = λ k q. absurd (omega arith);
          above = omega (arith, start_zero (not_ours f));
          floor = λ k q. omega (arith, strongly_is);
          bar = λ j k q l h. omega (arith, strongly_is, T.strength);
          given = gives (2 * (T.k - 1)) (λ h. absurd (true≢false (sym h ∙ e))) (λ h g. absurd (true≢false (sym g ∙ f)));
          few = omega (arith, T.strength);
          odd = λ q. absurd (omega arith);
        }))

-- The tables are the strongest ways, whatever work leads there; every node has an unblocked way; the new state is what every unblocked way starts at,
-- is monotone, and holds for every choice. Of any frame. Assumes nothing.
use Prim.Native.Nat.{ℕ, zero, suc, min, ◌+◌, ◌≤◌, ◌<◌}
use native.Mathlib.Omega.{arith}
use mathlib.Core.Path.{◌≡◌, refl, ap, ◌∙◌, sym}
use mathlib.Core.Logic.{◌⊎◌, inl, inr, ◌↔◌}
use mathlib.Core.Bool.{Bool, true, false, not, cond, ◌&&◌, ◌||◌, true≢false, false≢true, and-eq-true_iff}
use mathlib.Core.List.{List, []}
use lib.ListN.{length}
use lib.Dec.{eqb, leb}
use borrow.Author.Tests.{eqb-true, eqb-false, eq-eqb, ne_eqb, leb-true, leb-false, le-leb, not-true}
use Rattle.model.specs.Places.{at}
use Rattle.model.specs.Net.{Stand, opened, closed, unknown}
use Rattle.model.specs.Order.{◌⊑◌, ◌≼◌}
use Rattle.model.specs.Cover.{Stepper}
use Rattle.model.specs.Ways.{Frame, Lawful, Way, source, pass, Definite, Unblocked, From, choose}
use Rattle.model.specs.Tables.{Came, began, over, Least, starts, StepTables, by_tables, Strongest, strongest, definite, against, fresh, step_by}
use Rattle.laws.proofs.Places.{length-tab, get_or-tab, or_true_cases}
use Rattle.laws.proofs.Choices.{Within}
use Rattle.laws.proofs.Agreed.{below_bit, agreed_mono, agreed_says}
use Rattle.laws.proofs.Cover.{within}
use Rattle.laws.proofs.Sweep.{strongest_least}

shut_of : (x : Stand) → choose x false ≡ true → x ≡ closed
shut_of opened e = absurd (false≢true e)
shut_of closed e = refl
shut_of unknown e = absurd (false≢true e)

of_shut : (x : Stand) → x ≡ closed → choose x false ≡ true
of_shut x e = ap (λ (y : Stand). choose y false) e

able_of : (x : Stand) → choose x true ≡ true → x ≡ opened → ⊥
able_of x e o = false≢true (sym (ap (λ (y : Stand). choose y true) o) ∙ e)

of_able : (x : Stand) → (x ≡ opened → ⊥) → choose x true ≡ true
of_able opened h = absurd (h refl)
of_able closed h = refl
of_able unknown h = refl

pub not_both : (x : Stand) → x ≡ closed → x ≡ opened → ⊥
not_both x e o = let z : ◌≡◌ {A = ℕ} 0 1 = cc in omega arith

module _ (F : Frame) where
  pub way_map : {ok ok' : ℕ → Type 0} {fine fine' : ℕ → ℕ → Type 0} → ((t : ℕ) → t < F.links → ok t → ok' t) → ((x j : ℕ) → x < F.size → fine x j → fine' x j)
      → {u v k : ℕ} → Way F ok fine u v k → Way F ok' fine' u v k
  way_map f g {u} (source l h) = source l (λ i. g u (F.own u) l (h i))
  way_map f g (pass {k = k} p t v i j o h) = pass (way_map f g p) t v i j (f t j.0 o) (g v (min k (F.ceiling t)) i.0 h)

  module _ {ok : ℕ → Type 0} {fine : ℕ → ℕ → Type 0} where
    pub way_below : {u v k : ℕ} → Way F ok fine u v k → v < F.size
    way_below (source l h) = l
    way_below (pass p t v i j o h) = i.0

    pub way_fine : {u v k : ℕ} → Way F ok fine u v k → F.input v ≡ false → fine v k
    way_fine (source l h) e = h e
    way_fine (pass p t v i j o h) e = h

    pub way_start : {u v k : ℕ} → Way F ok fine u v k → Way F ok fine u u (F.own u)
    way_start (source l h) = source l h
    way_start (pass p t v i j o h) = way_start p

    -- a way to an input is that input
    pub way_input : {u v k : ℕ} → Way F ok fine u v k → F.input v ≡ true → (u ≡ v) × (k ≡ F.own u)
    way_input (source l h) e = (refl, refl)
    way_input (pass p t v i j o h) e = absurd (true≢false (sym e ∙ i.1))

module _ (F : Frame) (L : Lawful F) where
  pub way_pos : {ok : ℕ → Type 0} {fine : ℕ → ℕ → Type 0} {u v k : ℕ} → Way F ok fine u v k → 1 ≤ k
  way_pos {u = u} (source l h) = L.own_pos u
  way_pos (pass p t v i j o h) = omega (arith, way_pos p, L.ceiling_pos t)

  pub way_top : {ok : ℕ → Type 0} {fine : ℕ → ℕ → Type 0} {u v k : ℕ} → Way F ok fine u v k → k ≤ F.top
  way_top {u = u} (source l h) = L.own_top u
  way_top (pass p t v i j o h) = omega (arith, way_top p)

  -- the table of the strongest ways
  module _ (from ok : ℕ → Bool) (low : ℕ → ℕ) where
    abbrev Through : ℕ → ℕ → ℕ → Type 0
    Through u v k = Way F (λ t. ok t ≡ true) (λ x j. low x ≤ j) u v k

    abbrev Got : ℕ → ℕ → Type 0
    Got v k = (k ≡ 0) ⊎ ((u : ℕ) × (from u ≡ true) × Through u v k)

    starts_got : (v : ℕ) → v < F.size → Got v (starts F from low v)
    starts_got v l = go (from v && (F.input v || leb (low v) (F.own v))) refl
      where
        go : (c : Bool) → (from v && (F.input v || leb (low v) (F.own v))) ≡ c → Got v (cond c (F.own v) 0)
        go false e = inl refl
        go true e =
            let r = (and-eq-true_iff (from v) (F.input v || leb (low v) (F.own v))).0 e in
            inr (
              v,
              r.0,
              source l (λ i. elim (or_true_cases (F.input v) (leb (low v) (F.own v)) r.1) [ inl y ↦ absurd (true≢false (sym y ∙ i)) | inr y ↦ leb-true (low v) (F.own v) y ]),
            )

    starts_has : (v : ℕ) → from v ≡ true → (F.input v ≡ false → low v ≤ F.own v) → starts F from low v ≡ F.own v
    starts_has v f h = ap (λ (c : Bool). cond c (F.own v) 0) ((and-eq-true_iff _ _).1 (f, go (F.input v) refl))
      where
        go : (c : Bool) → F.input v ≡ c → (c || leb (low v) (F.own v)) ≡ true
        go true e = refl
        go false e = le-leb _ _ (h e)

    came_got : {v k : ℕ} → Came F ok low (starts F from low) v k → Got v k
    came_got (began v l) = starts_got v l
    came_got (over {k = k} c t v i j o m) = elim (came_got c) [ inl z ↦ inl (omega arith) | inr p ↦ inr (p.0, p.1, pass p.2 t v i j o m) ]

    -- the least table that no transistor can lift holds the strongest ways
    pub least_strongest : (x : ℕ → ℕ) → Least F ok low (starts F from low) x → Strongest F from ok low x
    least_strongest x X =
        record {
          has = λ v l f h. omega (arith, starts_has v f h, X.above v l);
          closed_under = X.closed_under;
          comes = λ v l. came_got (X.comes v l);
        }

    module _ (x : ℕ → ℕ) (X : Strongest F from ok low x) where
      pub table_most : {u v k : ℕ} → from u ≡ true → Through u v k → k ≤ x v
      table_most {u} f (source l h) = X.has u l f h
      table_most f (pass {w = w} p t v i j o h) = let r = table_most f p in omega (arith, X.closed_under t v w i (way_below F p) j o (omega arith))

    -- there is one such table only
    pub table_only : (x y : ℕ → ℕ) → Strongest F from ok low x → Strongest F from ok low y → (v : ℕ) → v < F.size → x v ≡ y v
    table_only x y X Y v l = omega (arith, half x y X Y, half y x Y X)
      where
        half : (x y : ℕ → ℕ) → Strongest F from ok low x → Strongest F from ok low y → x v ≤ y v
        half x y X Y = elim (X.comes v l) [ inl z ↦ omega arith | inr p ↦ table_most y Y p.1 p.2 ]

  pub strongest_table : (from ok : ℕ → Bool) (low : List ℕ) → Strongest F from ok (at low) (at (strongest F from ok low))
  strongest_table from ok low = least_strongest from ok (at low) (at (strongest F from ok low)) (strongest_least F L from ok low)

  strongest-most : (from ok : ℕ → Bool) (low : List ℕ) {u v k : ℕ} → from u ≡ true → Through from ok (at low) u v k → k ≤ at (strongest F from ok low) v
  strongest-most from ok low f p = table_most from ok (at low) (at (strongest F from ok low)) (strongest_table from ok low) f p

  strongest_way : (from ok : ℕ → Bool) (low : List ℕ) (v : ℕ) → v < F.size → Got from ok (at low) v (at (strongest F from ok low) v)
  strongest_way from ok low v l = (strongest_table from ok low).comes v l

  module _ (how : ℕ → Stand) where
    abbrev D : List ℕ
    D = definite F how

    -- the table of definite ways
    pub definite-most : {u v k : ℕ} → Definite F how u v k → k ≤ at D v
    unfolding definite
    definite-most p = strongest-most (λ v. true) (λ t. choose (how t) false) [] refl (way_map F (λ t lt o. of_shut (how t) o) (λ x j l f. omega arith) p)

    pub definite_way : (v : ℕ) → v < F.size → (u : ℕ) × Definite F how u v (at D v)
    unfolding definite
    definite_way v l =
        elim (strongest_way (λ x. true) (λ t. choose (how t) false) [] v l) [
          | inl z ↦ absurd (omega (arith, L.own_pos v, definite-most {u = v} {v = v} (source l (λ i. tt)), z))
          | inr p ↦ (p.0, way_map F (λ t lt o. shut_of (how t) o) (λ x j m f. tt) p.2)
        ]

    -- the same ways, read with the table
    abbrev Open : ℕ → ℕ → ℕ → Type 0
    Open u v k = Way F (λ t. how t ≡ opened → ⊥) (λ x j. at D x ≤ j) u v k

    pub open_unblocked : {u v k : ℕ} → Open u v k → Unblocked F how u v k
    open_unblocked p = way_map F (λ t lt o. o) (λ x j l f w i q. omega (arith, definite-most q)) p

    pub unblocked_open : {u v k : ℕ} → Unblocked F how u v k → Open u v k
    unblocked_open p = way_map F (λ t lt o. o) (λ x j l f. f (definite_way x l).0 (at D x) (definite_way x l).1) p

    -- every node has an unblocked way
    abbrev Has : ℕ → Type 0
    Has v = (u j : ℕ) × Open u v j × (at D v ≤ j)

    has_along : (m : ℕ) → ((w : ℕ) → w < F.size → m < at D w → Has w) → {u v k : ℕ} → Definite F how u v k → at D v ≤ k → m ≤ k → Has v
    has_along m up {u} (source l f) d h = (u, F.own u, source l (λ i. d), d)
    has_along m up (pass {w = w} {k = k} p t v i j o f) d h = on (go (λ e. has_along m up p e (omega arith)) _ refl)
      where
        go : (at D w ≤ k → Has w) → (b : Bool) → leb (at D w) k ≡ b → Has w
        go rest true e = rest (leb-true (at D w) k e)
        go rest false e = up w (way_below F p) (omega (arith, leb-false (at D w) k e))

        on : Has w → Has v
        on r = (r.0, min r.1 (F.ceiling t), pass r.2 t v i j (not_both (how t) o) (omega (arith, definite-most p, r.3)), omega (arith, definite-most p, r.3))

    has_from : (n m : ℕ) → F.top ≤ m + n → (w : ℕ) → w < F.size → m ≤ at D w → Has w
    has_from zero m h w l g =
        has_along m (λ x lx k. absurd (omega (arith, way_top (definite_way x lx).1))) (definite_way w l).1 (omega arith) g
    has_from (suc n) m h w l g = has_along m (λ x lx k. has_from n (suc m) (omega arith) x lx k) (definite_way w l).1 (omega arith) g

    pub has_way : (v : ℕ) → v < F.size → (u k : ℕ) × Unblocked F how u v k
    has_way v l = let r = has_from F.top 0 (omega arith) v l (omega arith) in (r.0, r.1, open_unblocked r.2)

    -- the new state
    module _ (val : ℕ → ℕ) where
      abbrev pub none : ℕ → ℕ → Bool
      none v b = eqb (at (against F how val b) v) 0

      -- the table of unblocked ways from what is not b
      pub against-most : (b : ℕ) {u v k : ℕ} → (val u ≡ b → ⊥) → Unblocked F how u v k → k ≤ at (against F how val b) v
      unfolding against
      against-most b n p =
          strongest-most (λ x. not (eqb (val x) b)) (λ t. choose (how t) true) D (ap not (ne_eqb _ _ n)) (way_map F (λ t lt o. of_able (how t) o) (λ x j m f. f) (unblocked_open p))

      pub against_way : (b v : ℕ) → v < F.size → (at (against F how val b) v ≡ 0) ⊎ ((u : ℕ) × (val u ≡ b → ⊥) × Unblocked F how u v (at (against F how val b) v))
      unfolding against
      against_way b v l =
          elim (strongest_way (λ x. not (eqb (val x) b)) (λ t. choose (how t) true) D v l) [
            | inl z ↦ inl z
            | inr p ↦
                inr (
                  p.0,
                  eqb-false (val p.0) b (not-true (eqb (val p.0) b) p.1),
                  open_unblocked (way_map F (λ t lt o. able_of (how t) o) (λ x j m f. f) p.2),
                )
          ]

      pub none_from : (b v : ℕ) → v < F.size → none v b ≡ true → From F how val b v
      none_from b v l e u k p = go _ refl
        where
          go : (c : Bool) → eqb (val u) b ≡ c → val u ≡ b
          go true h = eqb-true _ _ h
          go false h = absurd (omega (arith, way_pos p, eqb-true (at (against F how val b) v) 0 e, against-most b (eqb-false _ _ h) p))

      pub from_none : (b v : ℕ) → v < F.size → From F how val b v → none v b ≡ true
      from_none b v l h = elim (against_way b v l) [ inl z ↦ eq-eqb _ _ z | inr p ↦ absurd (p.1 (h p.0 _ p.2)) ]

      -- not both
      pub one_only : (v : ℕ) → v < F.size → From F how val 0 v → From F how val 1 v → ⊥
      one_only v l f g = let r = has_way v l in omega (arith, f r.0 r.1 r.2, g r.0 r.1 r.2)

      -- the new state is b if and only if every unblocked way starts at b
      pub fresh_says : (v : ℕ) → v < F.size → (b : ℕ) → b < 2 → (fresh F how val v ≡ b) ↔ From F how val b v
      unfolding fresh
      fresh_says v l b lb =
          let r = agreed_says (none v) (λ x y. one_only v l (none_from 0 v l x) (none_from 1 v l y)) b lb in
          (λ e. none_from b v l (r.0 e), λ f. r.1 (from_none b v l f))

  -- monotony, for both rules
  module _ (how how' : ℕ → Stand) (val val' : ℕ → ℕ) (hm : (t : ℕ) → t < F.links → Within (how t) (how' t)) (vm : (i : ℕ) → val i ⊑ val' i) where
    closed_down : (x y : Stand) → Within x y → y ≡ closed → x ≡ closed
    closed_down x y (inl e) h = e ∙ h
    closed_down x y (inr e) h = let z : ◌≡◌ {A = ℕ} 0 1 = cc in absurd (omega arith)

    opened_down : (x y : Stand) → Within x y → y ≡ opened → x ≡ opened
    opened_down x y (inl e) h = e ∙ h
    opened_down x y (inr e) h = let z : ◌≡◌ {A = ℕ} 0 1 = cc in absurd (omega arith)

    definite_down : {u v k : ℕ} → Definite F how' u v k → Definite F how u v k
    definite_down p = way_map F (λ t lt o. closed_down (how t) (how' t) (hm t lt) o) (λ x j l f. f) p

    pub unblocked_up : {u v k : ℕ} → Unblocked F how u v k → Unblocked F how' u v k
    unblocked_up p = way_map F (λ t lt o e. o (opened_down (how t) (how' t) (hm t lt) e)) (λ x j l f w i q. f w i (definite_down q)) p

    pub from_down : (b v : ℕ) → b < 2 → From F how' val' b v → From F how val b v
    from_down b v l f u k p = below_bit (val u) (val' u) b (vm u) (f u k (unblocked_up p)) l

    pub fresh_mono : (v : ℕ) → v < F.size → fresh F how val v ⊑ fresh F how' val' v
    unfolding fresh
    fresh_mono v l =
        agreed_mono (none how val v) (none how' val' v) (λ b lb e. from_none how val b v l (from_down b v lb (none_from how' val' b v l e)))
        (λ x y. one_only how val v l (none_from how val 0 v l x) (none_from how val 1 v l y))

  -- tables that are equal below the number of nodes do for one another
  came_cong : (ok : ℕ → Bool) (low low' start start' : ℕ → ℕ) → ((v : ℕ) → v < F.size → low v ≡ low' v) → ((v : ℕ) → v < F.size → start v ≡ start' v)
      → {v k : ℕ} → Came F ok low start v k → Came F ok low' start' v k
  came_cong ok low low' start start' f g (began v l) = rw (g v l) (began v l)
  came_cong ok low low' start start' f g (over c t v i j o m) = over (came_cong ok low low' start start' f g c) t v i j o (omega (arith, f v i.0))

  least_cong : (ok : ℕ → Bool) (low low' start start' x : ℕ → ℕ) → ((v : ℕ) → v < F.size → low v ≡ low' v) → ((v : ℕ) → v < F.size → start v ≡ start' v)
      → Least F ok low start x → Least F ok low' start' x
  least_cong ok low low' start start' x f g X =
      record {
        above = λ v l. omega (arith, X.above v l, g v l);
        closed_under = λ t v w i l j o m. X.closed_under t v w i l j o (omega (arith, f v i.0));
        comes = λ v l. came_cong ok low low' start start' f g (X.comes v l);
      }

  -- the new state by any three tables of a step: the one law that a work on tables needs, whatever its order
  module _ (how : ℕ → Stand) (val d p₀ p₁ : ℕ → ℕ) (T : StepTables F how val d p₀ p₁) where
    starts_own : (v : ℕ) → F.own v ≡ starts F (λ u. true) (at []) v
    starts_own v = sym (starts_has (λ u. true) (λ t. choose (how t) false) (at []) v refl (λ i. omega arith))

    d_is : (v : ℕ) → v < F.size → d v ≡ at (definite F how) v
    unfolding definite
    d_is =
        table_only (λ u. true) (λ t. choose (how t) false) (at []) d (at (strongest F (λ u. true) (λ t. choose (how t) false) []))
        (least_strongest (λ u. true) (λ t. choose (how t) false) (at []) d (least_cong (λ t. choose (how t) false) (λ v. 0) (at []) F.own (starts F (λ u. true) (at [])) d (λ v l. refl) (λ v l. starts_own v) T.definitely))
        (strongest_table (λ u. true) (λ t. choose (how t) false) [])

    p_is : (b : ℕ) (p : ℕ → ℕ) → Least F (λ t. choose (how t) true) d (starts F (λ v. not (eqb (val v) b)) d) p → (v : ℕ) → v < F.size → p v ≡ at (against F how val b) v
    unfolding against
    p_is b p P =
        table_only from ok (at D) p (at (strongest F from ok D))
        (least_strongest from ok (at D) p (least_cong ok d (at D) (starts F from d) (starts F from (at D)) p d_is (λ v l. ap (λ (x : ℕ). cond (from v && (F.input v || leb x (F.own v))) (F.own v) 0) (d_is v l)) P))
        (strongest_table from ok D)
      where
        from : ℕ → Bool
        from v = not (eqb (val v) b)

        ok : ℕ → Bool
        ok t = choose (how t) true

        D : List ℕ
        D = definite F how

    pub tables_fresh : (v : ℕ) → v < F.size → by_tables p₀ p₁ v ≡ fresh F how val v
    unfolding fresh
    tables_fresh v l = rw (p_is 0 p₀ T.against0 v l, p_is 1 p₁ T.against1 v l)

  -- a step of all nodes
  pub step_by-at : (how : ℕ → Stand) (val : ℕ → ℕ) (s : List ℕ) (v : ℕ) → v < F.size → at (step_by F how val s) v ≡ cond (F.input v) (at s v) (fresh F how val v)
  unfolding step_by fresh against
  step_by-at how val s v l = get_or-tab F.size _ 0 v l

  pub step_by-length : (how : ℕ → Stand) (val : ℕ → ℕ) (s : List ℕ) → length (step_by F how val s) ≡ F.size
  unfolding step_by
  step_by-length how val s = length-tab F.size _

  -- where the states say how transistors stand and what sources have, monotonely, the step is one to which the laws of runs apply
  pub scheme_stepper : (how : List ℕ → ℕ → Stand) (val : List ℕ → ℕ → ℕ) → ((s t : List ℕ) → s ≼ t → (k : ℕ) → Within (how s k) (how t k))
      → ((s t : List ℕ) → s ≼ t → (i : ℕ) → val s i ⊑ val t i) → Stepper F.size F.input (λ s. step_by F (how s) (val s) s)
  scheme_stepper how val hm vm =
      record {
        sized = λ s. step_by-length (how s) (val s) s;
        keeps = λ s v l i. step_by-at (how s) (val s) s v l ∙ ap (λ (c : Bool). cond c (at s v) (fresh F (how s) (val s) v)) i;
        mono = λ s t h. within F.size (step_by F (how s) (val s) s) (step_by F (how t) (val t) t) (step_by-length (how s) (val s) s) (step_by-length (how t) (val t) t) (λ v l. rw (step_by-at (how s) (val s) s v l, step_by-at (how t) (val t) t v l) (cell s t h v l (F.input v)));
      }
    where
      cell : (s t : List ℕ) → s ≼ t → (v : ℕ) → v < F.size → (c : Bool) → cond c (at s v) (fresh F (how s) (val s) v) ⊑ cond c (at t v) (fresh F (how t) (val t) v)
      cell s t h v l true = h v
      cell s t h v l false = fresh_mono (how s) (how t) (val s) (val t) (λ k lk. hm s t h k) (vm s t h) v l

-- Rule one's step by all choices is its step by ways, and so the laws of runs apply to it. Assumes nothing.
use Prim.Native.Nat.{ℕ, zero, suc, min, ◌≤◌, ◌<◌}
use native.Mathlib.Nat.{not-suc-le-zero}
use native.Mathlib.Omega.{arith}
use mathlib.Core.Path.{◌≡◌, refl, ap, ◌∙◌, sym, subst}
use mathlib.Core.Logic.{◌⊎◌, inl, inr, ◌↔◌}
use mathlib.Core.Bool.{Bool, true, false, cond, ◌&&◌, true≢false, false≢true, and-eq-true_iff}
use mathlib.Core.List.{List}
use lib.ListN.{length, get_or}
use lib.Seq.{ext_get_or}
use lib.Dec.{eqb, leb}
use borrow.Author.Tests.{eqb-true, eq-eqb, leb-true, le-leb}
use Rattle.model.specs.Places.{tab, at, every, most, imp}
use Rattle.model.specs.Net.{Net, nodes, transistors, is_input, is_pullup, Stand, opened, closed, unknown, stands, stand_at, every_choice, linked, joined, strength, source_state, set_state, new, step}
use Rattle.model.specs.Order.{◌⊑◌, ◌≼◌}
use Rattle.model.specs.Cover.{Stepper}
use Rattle.model.specs.Demands.{Fits, Choice}
use Rattle.model.specs.Ways.{Frame, Lawful, Joins, Way, source, pass, Definite, Unblocked, From, choose}
use Rattle.model.specs.Tables.{StepTables, by_tables, definite, fresh, step_by}
use Rattle.model.specs.RuleOne.{own_strength, frame, quick_step}
use Rattle.laws.proofs.Places.{length-tab, get_or-tab, every-at, every_of, most_of, most-at, imp_of, imp-at}
use Rattle.laws.proofs.Choices.{every_choice-at, every_choice_of, Within, choice_tab, choice_at, stand_mono}
use Rattle.laws.proofs.Joined.{◌∈◌, Ends, Link, linked-at, linked_of, Walk, here, more, joined_walk, walk_joined}
use Rattle.laws.proofs.Agreed.{agreed_cong, agreed_known}
use Rattle.laws.proofs.Ways.{not_both, way_map, way_below, way_fine, way_input, way_start, way_top, definite-most, definite_way, none, none_from, from_none, fresh_says, from_down, tables_fresh, step_by-at, step_by-length, scheme_stepper}

-- the choice c as how the transistors stand
abbrev set_by : Bool → Stand
set_by true = closed
set_by false = opened

abbrev by : List Bool → ℕ → Stand
by c t = set_by (get_or c t false)

shut_in : (b : Bool) → set_by b ≡ closed → b ≡ true
shut_in true e = refl
shut_in false e = let z : ◌≡◌ {A = ℕ} 0 1 = cc in absurd (omega arith)

able_in : (b : Bool) → (set_by b ≡ opened → ⊥) → b ≡ true
able_in true h = refl
able_in false h = absurd (h refl)

fits_within : (x : Stand) (b : Bool) → Fits x b → Within (set_by b) x
fits_within opened true h = absurd h
fits_within opened false h = inl refl
fits_within closed true h = inl refl
fits_within closed false h = absurd h
fits_within unknown b h = inr refl

choose_cases : (x : Stand) (b : Bool) → choose x b ≡ true → (x ≡ closed) ⊎ (b ≡ true)
choose_cases opened b e = absurd (false≢true e)
choose_cases closed b e = inl refl
choose_cases unknown b e = inr e

choose_on : (x : Stand) (b : Bool) → (x ≡ opened → ⊥) → b ≡ true → choose x b ≡ true
choose_on opened b h e = absurd (h refl)
choose_on closed b h e = refl
choose_on unknown b h e = e

own_range : (i p : Bool) → (1 ≤ cond i 3 (cond p 2 1)) × (cond i 3 (cond p 2 1) ≤ 3)
own_range true p = omega arith
own_range false true = omega arith
own_range false false = omega arith

-- a node that is no input, and one that is
abbrev pub Inner : Net → ℕ → Type 0
Inner net v = (v < nodes net) × (is_input net v ≡ false)

abbrev pub Input : Net → ℕ → Type 0
Input net v = (v < nodes net) × (is_input net v ≡ true)

pub lawful : (net : Net) → Lawful (frame net)
lawful net =
    record {
      own_pos = λ v. (own_range (is_input net v) (is_pullup net v)).0;
      own_top = λ v. (own_range (is_input net v) (is_pullup net v)).1;
      ceiling_pos = λ t. omega arith;
    }

module _ (net : Net) where
  abbrev F : Frame
  F = frame net

  abbrev pub counted : List Bool → List Bool → ℕ → Bool
  counted c m i = eqb (strength net c m i) (most (nodes net) (strength net c m))

  -- all counted sources of the set m are b
  abbrev pub all_are : List ℕ → List Bool → List Bool → ℕ → Bool
  all_are s c m b = every (nodes net) (λ i. imp (counted c m i) (eqb (source_state net s i) b))

  -- every choice gives v the state b
  abbrev pub all_choices : List ℕ → ℕ → ℕ → Bool
  all_choices s v b = every_choice (stands net s) (λ c. eqb (set_state net s c (joined net c v)) b)

  own_inner : (v : ℕ) → Inner net v → F.own v ≡ own_strength net v
  own_inner v h = ap (λ (i : Bool). cond i 3 (own_strength net v)) h.1

  own_input : (v : ℕ) → Input net v → F.own v ≡ 3
  own_input v h = ap (λ (i : Bool). cond i 3 (own_strength net v)) h.1

  by_kind : {A : Type 0} (v : ℕ) → v < nodes net → (Input net v → A) → (Inner net v → A) → A
  by_kind {A} v l f g = go (is_input net v) refl
    where
      go : (b : Bool) → is_input net v ≡ b → A
      go true e = f (l, e)
      go false e = g (l, e)

  -- one choice: the joined set's sources are what ways come from
  module _ (c : List Bool) (v : ℕ) (hv : Inner net v) where
    abbrev J : List Bool
    J = joined net c v

    abbrev T : ℕ
    T = most (nodes net) (strength net c J)

    walk_inner : (w : ℕ) → Walk net c v w → Inner net w
    walk_inner w here = hv
    walk_inner w (more p l i k) = (l, i)

    member : (w : ℕ) → w ∈ J → Inner net w
    member w e = walk_inner w (joined_walk net c v w e)

    link : (t x w : ℕ) → Joins F t x w → t ∈ c → Link net c w x
    link t x w (l, inl e) o = record { wire = t; below = l; shut = o; ends = inr (e.1, e.0) }
    link t x w (l, inr e) o = record { wire = t; below = l; shut = o; ends = inl (e.1, e.0) }

    counts : {fine : ℕ → ℕ → Type 0} {u x k : ℕ} → Way F (λ t. t ∈ c) fine u x k → Inner net x → x ∈ J → strength net c J u ≡ k
    unfolding strength
    counts {u = u} (source l h) i e = rw (i.1, e)
    counts {u = u} (pass {w = w} {k = k} p t x ix j o h) i e = by_kind w (way_below F p) inp (λ y. inn y (λ z. counts p y z))
      where
        inp : Input net w → strength net c J u ≡ min k 3
        inp y =
            let r = way_input F p y.1 in
            let a : is_input net u ≡ true = ap (is_input net) r.0 ∙ y.1 in
            let b : linked net c J u ≡ true = ap (linked net c J) r.0 ∙ linked_of net c J w x e (link t x w j o) in
            let q : 3 ≡ min k 3 = omega (arith, r.1, ap F.own r.0, own_input w y) in
            rw (a, b) q

        inn : (y : Inner net w) → (w ∈ J → strength net c J u ≡ k) → strength net c J u ≡ min k 3
        inn y rest =
            let m = walk_joined net c v w hv.0 (more (joined_walk net c v x e) y.0 y.1 (link t x w j o)) in
            rest m ∙ omega (arith, way_top F (lawful net) p)

    -- back along a walk
    back : {fine : ℕ → ℕ → Type 0} {i k : ℕ} → k ≤ 3 → ((x : ℕ) → x ∈ J → fine x k) → (w : ℕ) → Walk net c v w → Way F (λ t. t ∈ c) fine i w k → Way F (λ t. t ∈ c) fine i v k
    back l f w here p = p
    back {fine} {i} {k} l f w (more {w = x} q lx ix r) p =
        let e : min k 3 ≡ k = omega arith in
        back l f x q
        (subst (λ (m : ℕ). Way F (λ t. t ∈ c) fine i x m) e (pass p r.wire x (walk_inner x q) (r.below, turn r.ends) r.shut (subst (fine x) (sym e) (f x (walk_joined net c v x hv.0 q)))))
      where
        turn : Ends net r.wire w x → Ends net r.wire x w
        turn (inl e) = inr (e.1, e.0)
        turn (inr e) = inl (e.1, e.0)

    reach : {fine : ℕ → ℕ → Type 0} (i k : ℕ) → i < nodes net → strength net c J i ≡ k → 1 ≤ k → ((x : ℕ) → x ∈ J → fine x k) → Way F (λ t. t ∈ c) fine i v k
    unfolding strength
    reach {fine} i k li e pos f = go (is_input net i) refl (linked net c J i) refl (get_or J i false) refl e
      where
        go : (a : Bool) → is_input net i ≡ a → (d : Bool) → linked net c J i ≡ d → (j : Bool) → get_or J i false ≡ j → cond a (cond d 3 0) (cond j (own_strength net i) 0) ≡ k → Way F (λ t. t ∈ c) fine i v k
        go true a true d j h q =
            let r = linked-at net c J i d in
            let z : min (F.own i) 3 ≡ k = omega (arith, own_input i (li, a)) in
            back (omega arith) f r.0 (joined_walk net c v r.0 r.1)
            (subst (λ (m : ℕ). Way F (λ t. t ∈ c) fine i r.0 m) z
            (pass (source li (λ y. absurd (true≢false (sym a ∙ y)))) r.2.wire r.0 (member r.0 r.1) (r.2.below, turn r.0 r.2 r.2.ends) r.2.shut (subst (fine r.0) (sym z) (f r.0 r.1))))
          where
            turn : (x : ℕ) (l : Link net c i x) → Ends net l.wire i x → Ends net l.wire x i
            turn x l (inl e) = inr (e.1, e.0)
            turn x l (inr e) = inl (e.1, e.0)
        go true a false d j h q = absurd (omega arith)
        go false a d x true h q =
            let z : F.own i ≡ k = own_inner i (li, a) ∙ q in
            back (omega (arith, (own_range (is_input net i) (is_pullup net i)).1)) f i (joined_walk net c v i h) (subst (λ (m : ℕ). Way F (λ t. t ∈ c) fine i i m) z (source li (λ y. subst (fine i) (sym z) (f i h))))
        go false a d x false h q = absurd (omega arith)

    -- the greatest strength: of some source, and 1 at least
    strongest : (i : ℕ) × (i < nodes net) × (strength net c J i ≡ T)
    strongest = go (nodes net) (omega (arith, hv.0))
      where
        go : (n : ℕ) → 0 < n → (i : ℕ) × (i < n) × (strength net c J i ≡ most n (strength net c J))
        go zero h = absurd (not-suc-le-zero h)
        go (suc n) h = most-at n (strength net c J)

    top_pos : 1 ≤ T
    top_pos =
        omega (
          arith,
          most_of (nodes net) (strength net c J) v hv.0,
          (lawful net).own_pos v,
          counts {fine = λ x j. Unit {0}} {u = v} {x = v} (source hv.0 (λ i. tt)) hv (walk_joined net c v v hv.0 here),
        )

    -- the ways of the choice c
    definite_in : {u x k : ℕ} → Definite F (by c) u x k → Way F (λ t. t ∈ c) (λ x j. Unit {0}) u x k
    definite_in p = way_map F (λ t lt o. shut_in (get_or c t false) o) (λ x j l f. f) p

    in_definite : {u x k : ℕ} → Way F (λ t. t ∈ c) (λ x j. Unit {0}) u x k → Definite F (by c) u x k
    in_definite p = way_map F (λ t lt o. ap set_by o) (λ x j l f. f) p

    all_from : (s : List ℕ) (b : ℕ) → all_are s c J b ≡ true → From F (by c) (source_state net s) b v
    all_from s b e u k p = eqb-true _ _ (imp-at (counted c J u) _ (every-at (nodes net) _ e u (way_below F (way_start F p))) (eq-eqb _ _ q))
      where
        h : strength net c J u ≡ k
        h = counts (way_map F (λ t lt o. able_in (get_or c t false) o) (λ x j l f. f) p) hv (walk_joined net c v v hv.0 here)

        d : Definite F (by c) strongest.0 v T
        d = in_definite (reach {fine = λ x j. Unit {0}} strongest.0 T strongest.1 strongest.2 top_pos (λ x m. tt))

        q : strength net c J u ≡ T
        q = omega (arith, h, way_fine F p hv.1 strongest.0 T d, most_of (nodes net) (strength net c J) u (way_below F (way_start F p)))

    from_all : (s : List ℕ) (b : ℕ) → From F (by c) (source_state net s) b v → all_are s c J b ≡ true
    from_all s b f =
        every_of (nodes net) _
        (λ i l.
        imp_of (counted c J i) _
        (λ e.
        eq-eqb _ _
        (f i T
        (way_map F (λ t lt o. not_both (by c t) (ap set_by o)) (λ x j m g. g)
        (reach {fine = λ x j. (w i : ℕ) → Definite F (by c) w x i → i ≤ j} i T l (eqb-true _ _ e) top_pos
        (λ x m w k d. omega (arith, counts (definite_in d) (member x m) m, most_of (nodes net) (strength net c J) w (way_below F (way_start F d)))))))))

    pub one_choice : (s : List ℕ) → set_state net s c J ≡ fresh F (by c) (source_state net s) v
    unfolding set_state fresh
    one_choice s =
        agreed_cong (all_are s c J) (none F (lawful net) (by c) (source_state net s) v)
        (λ b l. (
          λ e. from_none F (lawful net) (by c) (source_state net s) b v hv.0 (all_from s b e),
          λ e. from_all s b (none_from F (lawful net) (by c) (source_state net s) b v hv.0 e),
        ))

  -- an unblocked way is unblocked in some choice: where each unknown transistor is closed whose ends have no definite way stronger than it
  module _ (s : List ℕ) (K : ℕ) where
    abbrev how : ℕ → Stand
    how = stand_at net s

    abbrev D : List ℕ
    D = definite F how

    unfoldable pub near : ℕ → Bool
    near t = leb (at D (at net.sources t)) K && leb (at D (at net.drains t)) K

    unfoldable pub pick : List Bool
    pick = tab (transistors net) (λ t. choose (how t) (near t))

    pick_at : (t : ℕ) → t < transistors net → get_or pick t false ≡ choose (how t) (near t)
    unfolding pick
    pick_at t l = get_or-tab (transistors net) _ false t l

    pub pick_way : Choice (stands net s) pick
    unfolding stands pick
    pick_way = choice_tab (transistors net) how near

    near-at : (t x w : ℕ) → Joins F t x w → near t ≡ true → (at D x ≤ K) × (at D w ≤ K)
    unfolding near
    near-at t x w j e =
        let r = (and-eq-true_iff (leb (at D (at net.sources t)) K) (leb (at D (at net.drains t)) K)).0 e in
        go j.1 (leb-true (at D (at net.sources t)) K r.0) (leb-true (at D (at net.drains t)) K r.1)
      where
        go : Ends net t x w → at D (at net.sources t) ≤ K → at D (at net.drains t) ≤ K → (at D x ≤ K) × (at D w ≤ K)
        go (inl e) a b = omega (arith, ap (at D) e.0, ap (at D) e.1)
        go (inr e) a b = omega (arith, ap (at D) e.0, ap (at D) e.1)

    near_of : (t x w : ℕ) → Joins F t x w → at D x ≤ K → at D w ≤ K → near t ≡ true
    unfolding near
    near_of t x w j a b = go j.1
      where
        go : Ends net t x w → (leb (at D (at net.sources t)) K && leb (at D (at net.drains t)) K) ≡ true
        go (inl e) = (and-eq-true_iff _ _).1 (le-leb (at D (at net.sources t)) K (omega (arith, ap (at D) e.0)), le-leb (at D (at net.drains t)) K (omega (arith, ap (at D) e.1)))
        go (inr e) = (and-eq-true_iff _ _).1 (le-leb (at D (at net.sources t)) K (omega (arith, ap (at D) e.1)), le-leb (at D (at net.drains t)) K (omega (arith, ap (at D) e.0)))

    -- in that choice no definite way is stronger than both K and what was definite before
    bound : {u x i : ℕ} → Definite F (by pick) u x i → (i ≤ at D x) ⊎ (i ≤ K)
    bound {u} (source l h) = inl (definite-most F (lawful net) how {u = u} {v = u} (source l (λ z. tt)))
    bound (pass {w = w} {k = k} p t x ix j o h) = go (choose_cases (how t) (near t) (sym (pick_at t j.0) ∙ shut_in (get_or pick t false) o)) (bound p)
      where
        go : (how t ≡ closed) ⊎ (near t ≡ true) → (k ≤ at D w) ⊎ (k ≤ K) → (min k 3 ≤ at D x) ⊎ (min k 3 ≤ K)
        go q (inr m) = inr (omega arith)
        go (inl e) (inl m) =
            let r = definite_way F (lawful net) how w (way_below F p) in
            inl (omega (arith, definite-most F (lawful net) how (pass r.1 t x ix j e tt)))
        go (inr e) (inl m) = inr (omega (arith, (near-at t x w j e).1))

    kept : {u v k : ℕ} → Unblocked F how u v k → k ≡ K → (at D v ≤ K) × Unblocked F (by pick) u v k
    kept {u} (source l h) e = (low, source l (λ i w j d. elim (bound d) [ inl m ↦ omega (arith, low) | inr m ↦ omega arith ]))
      where
        low : at D u ≤ K
        low =
            let r = definite_way F (lawful net) how u l in
            by_kind u l (λ y. let q = way_input F r.1 y.1 in omega (arith, q.1, ap F.own q.0)) (λ y. omega (arith, h y.1 r.0 (at D u) r.1))
    kept {u} (pass {w = w} {k = k} p t v i j o f) e = go (kept p (omega (arith, way_top F (lawful net) p)))
      where
        low : at D v ≤ K
        low = let r = definite_way F (lawful net) how v i.0 in omega (arith, f r.0 (at D v) r.1)

        go : (at D w ≤ K) × Unblocked F (by pick) u w k → (at D v ≤ K) × Unblocked F (by pick) u v (min k 3)
        go r = (
          low,
          pass r.1 t v i j (not_both (by pick t) (ap set_by (pick_at t j.0 ∙ choose_on (how t) (near t) o (near_of t v w j low r.0))))
              (λ w i d. elim (bound d) [ inl m ↦ omega (arith, low) | inr m ↦ omega arith ]),
        )

  -- all choices
  module _ (s : List ℕ) (v : ℕ) (hv : Inner net v) where
    within_choice : (c : List Bool) → Choice (stands net s) c → (t : ℕ) → t < transistors net → Within (by c t) (stand_at net s t)
    unfolding stands
    within_choice c w t l = fits_within (stand_at net s t) (get_or c t false) (choice_at (transistors net) (stand_at net s) c w t l)

    choices_from : (b : ℕ) → b < 2 → all_choices s v b ≡ true → From F (stand_at net s) (source_state net s) b v
    choices_from b l e u k p =
        let c = pick s k in
        let q : set_state net s c (joined net c v) ≡ b = eqb-true _ _ (every_choice-at (stands net s) _ e c (pick_way s k)) in
        (fresh_says F (lawful net) (by c) (source_state net s) v hv.0 b l).0 (sym (one_choice c v hv s) ∙ q) u k (kept s k p refl).1

    from_choices : (b : ℕ) → b < 2 → From F (stand_at net s) (source_state net s) b v → all_choices s v b ≡ true
    from_choices b l f =
        every_choice_of (stands net s) _
        (λ c w.
        eq-eqb _ _
        (one_choice c v hv s
        ∙ (fresh_says F (lawful net) (by c) (source_state net s) v hv.0 b l).1
        (from_down F (lawful net) (by c) (stand_at net s) (source_state net s) (source_state net s) (within_choice c w) (λ i. inl refl) b v l f)))

    -- ways decide choices: every choice gives v the state b exactly where every unblocked way to it starts at b
    pub ways_decide : (b : ℕ) → b < 2 → ((c : List Bool) → Choice (stands net s) c → set_state net s c (joined net c v) ≡ b) ↔ From F (stand_at net s) (source_state net s) b v
    ways_decide b l = (
      λ h. choices_from b l (every_choice_of (stands net s) _ (λ c w. eq-eqb _ _ (h c w))),
      λ f c w. eqb-true _ _ (every_choice-at (stands net s) _ (from_choices b l f) c w),
    )

    pub new_by_ways : new net s v ≡ fresh F (stand_at net s) (source_state net s) v
    unfolding new fresh
    new_by_ways =
        agreed_cong (all_choices s v) (none F (lawful net) (stand_at net s) (source_state net s) v)
        (λ b l. (
          λ e. from_none F (lawful net) (stand_at net s) (source_state net s) b v hv.0 (choices_from b l e),
          λ e. from_choices b l (none_from F (lawful net) (stand_at net s) (source_state net s) b v hv.0 e),
        ))

  pub length-step : (s : List ℕ) → length (step net s) ≡ nodes net
  unfolding step
  length-step s = length-tab (nodes net) _

  pub step-at : (s : List ℕ) (v : ℕ) → v < nodes net → at (step net s) v ≡ cond (is_input net v) (at s v) (new net s v)
  unfolding step
  step-at s v h = get_or-tab (nodes net) _ 0 v h

  step_inner : (s : List ℕ) (v : ℕ) → Inner net v → at (step net s) v ≡ new net s v
  step_inner s v h = step-at s v h.0 ∙ ap (λ (c : Bool). cond c (at s v) (new net s v)) h.1

  -- after a step a node that is no input is 0 or 1 exactly where every choice gives it that state; else it is X
  pub step_exactly : (s : List ℕ) (v : ℕ) → Inner net v → (b : ℕ) → b < 2 → (at (step net s) v ≡ b) ↔ ((c : List Bool) → Choice (stands net s) c → set_state net s c (joined net c v) ≡ b)
  step_exactly s v h b l =
      let r = fresh_says F (lawful net) (stand_at net s) (source_state net s) v h.0 b l in
      let q : at (step net s) v ≡ fresh F (stand_at net s) (source_state net s) v = step_inner s v h ∙ new_by_ways s v h in
      (λ e. (ways_decide s v h b l).1 (r.0 (sym q ∙ e)), λ f. q ∙ r.1 ((ways_decide s v h b l).0 f))

  pub step_known : (s : List ℕ) (v : ℕ) → Inner net v → at (step net s) v ≤ 2
  unfolding new
  step_known s v h = omega (arith, step_inner s v h, agreed_known (all_choices s v))

  -- the step by any three tables of it
  pub tables_step : (s : List ℕ) (d p₀ p₁ : ℕ → ℕ) → StepTables F (stand_at net s) (source_state net s) d p₀ p₁
      → (v : ℕ) → v < nodes net → at (step net s) v ≡ cond (is_input net v) (at s v) (by_tables p₀ p₁ v)
  tables_step s d p₀ p₁ T v l = step-at s v l ∙ go (is_input net v) refl
    where
      go : (c : Bool) → is_input net v ≡ c → cond c (at s v) (new net s v) ≡ cond c (at s v) (by_tables p₀ p₁ v)
      go true e = refl
      go false e = new_by_ways s v (l, e) ∙ sym (tables_fresh F (lawful net) (stand_at net s) (source_state net s) d p₀ p₁ T v l)

  -- the step by ways is the step by choices
  pub quick : (s : List ℕ) → quick_step net s ≡ step net s
  unfolding quick_step
  quick s =
      ext_get_or 0 (step_by F (stand_at net s) (source_state net s) s) (step net s) (step_by-length F (lawful net) (stand_at net s) (source_state net s) s ∙ sym (length-step s))
      (λ v l. go v (omega (arith, step_by-length F (lawful net) (stand_at net s) (source_state net s) s)))
    where
      cell : (v : ℕ) → v < nodes net → (c : Bool) → is_input net v ≡ c → cond c (at s v) (fresh F (stand_at net s) (source_state net s) v) ≡ cond c (at s v) (new net s v)
      cell v l true e = refl
      cell v l false e = sym (new_by_ways s v (l, e))

      go : (v : ℕ) → v < nodes net → at (step_by F (stand_at net s) (source_state net s) s) v ≡ at (step net s) v
      go v l = step_by-at F (lawful net) (stand_at net s) (source_state net s) s v l ∙ cell v l (is_input net v) refl ∙ sym (step-at s v l)

  source_state_mono : (s t : List ℕ) → s ≼ t → (i : ℕ) → source_state net s i ⊑ source_state net t i
  source_state_mono s t h i = go (is_pullup net i)
    where
      go : (p : Bool) → cond p 1 (at s i) ⊑ cond p 1 (at t i)
      go true = inl refl
      go false = h i

  -- the laws of runs apply to it
  pub stepper : Stepper (nodes net) (is_input net) (step net)
  unfolding quick_step step_by
  stepper =
      let q = scheme_stepper F (lawful net) (stand_at net) (source_state net) (λ s t h k. stand_mono (at net.types k) _ _ (h (at net.gates k))) source_state_mono in
      record {
        sized = length-step;
        keeps = λ s v l i. step-at s v l ∙ ap (λ (c : Bool). cond c (at s v) (new net s v)) i;
        mono = λ s t h v. rw (← quick s, ← quick t) (q.mono s t h v);
      }

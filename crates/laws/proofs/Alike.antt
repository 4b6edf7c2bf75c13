-- Order-freedom of the step: networks that list the same transistors, in any order, each any number of times, source and drain either way round,
-- take the same step on every state. Assumes nothing.
use Prim.Native.Nat.{ℕ, min, ◌<◌}
use mathlib.Core.Path.{◌≡◌, refl, ap, ap₂, ◌∙◌, sym, subst, fun_ext}
use mathlib.Core.Logic.{◌⊎◌, inl, inr}
use mathlib.Core.Bool.{Bool, true, false, cond}
use mathlib.Core.List.{List}
use Rattle.model.specs.Places.{at}
use Rattle.model.specs.Net.{Net, nodes, transistors, is_input, Stand, stand, stand_at, source_state, new, step}
use Rattle.model.specs.Alike.{Copy, Held, Alike}
use Rattle.model.specs.Ways.{Frame, Lawful, Joins, Way, source, pass, Definite, Unblocked, From}
use Rattle.model.specs.Tables.{fresh}
use Rattle.model.specs.RuleOne.{frame}
use Rattle.laws.proofs.Places.{tab_cong}
use Rattle.laws.proofs.Agreed.{agreed_cong}
use Rattle.laws.proofs.Ways.{none, none_from, from_none}
use Rattle.laws.proofs.RuleOne.{lawful, new_by_ways}

-- a frame with other transistors between the same nodes
abbrev pub rewired : Frame → ℕ → (ℕ → ℕ) → (ℕ → ℕ) → (ℕ → ℕ) → Frame
rewired F links left right ceiling =
    record { size = F.size; links = links; input = F.input; left = left; right = right; own = F.own; ceiling = ceiling; top = F.top }

-- what passes over a transistor of the one passes over one of the other: between the same ends, up to the same ceiling
pub record Like (F : Frame) (links : ℕ) (left right ceiling : ℕ → ℕ) (how how' : ℕ → Stand) (t : ℕ) : Type 0 where
  pub wire : ℕ
  pub joins : (v w : ℕ) → Joins F t v w → Joins (rewired F links left right ceiling) wire v w
  pub ceilings : ceiling wire ≡ F.ceiling t
  pub stands : how' wire ≡ how t

module _ (F : Frame) (links : ℕ) (left right ceiling : ℕ → ℕ) (how how' : ℕ → Stand) (like : (t : ℕ) → t < F.links → Like F links left right ceiling how how' t) where
  abbrev G : Frame
  G = rewired F links left right ceiling

  -- a way over the transistors of the one is a way over those of the other
  way_over : {ok ok' : ℕ → Type 0} {fine fine' : ℕ → ℕ → Type 0} → ((t : ℕ) (l : t < F.links) → ok t → ok' (like t l).wire) → ((x j : ℕ) → fine x j → fine' x j)
      → {u v k : ℕ} → Way F ok fine u v k → Way G ok' fine' u v k
  way_over f g {u} (source l h) = source l (λ i. g u (F.own u) (h i))
  way_over {ok} {ok'} {fine} {fine'} f g {u} (pass {k = k} p t v i j o h) =
      let c = like t j.0 in
      let e : min k (ceiling c.wire) ≡ min k (F.ceiling t) = ap (min k) c.ceilings in
      subst (λ (m : ℕ). Way G ok' fine' u v m) e (pass (way_over {ok' = ok'} {fine' = fine'} f g p) c.wire v i (c.joins v _ j) (f t j.0 o) (subst (fine' v) (sym e) (g v (min k (F.ceiling t)) h)))

  definite-over : {u v k : ℕ} → Definite F how u v k → Definite G how' u v k
  definite-over p = way_over (λ t l o. (like t l).stands ∙ o) (λ x j h. h) p

  -- where definite ways lead back, an unblocked one stays unblocked
  unblocked_over : ((u v k : ℕ) → Definite G how' u v k → Definite F how u v k) → {u v k : ℕ} → Unblocked F how u v k → Unblocked G how' u v k
  unblocked_over back p = way_over (λ t l o e. o (sym (like t l).stands ∙ e)) (λ x j h w i d. h w i (back w x i d)) p

-- both ways: the new states are the same
module _ (F : Frame) (L : Lawful F) (links : ℕ) (left right ceiling : ℕ → ℕ) (M : Lawful (rewired F links left right ceiling)) (how how' : ℕ → Stand) (val : ℕ → ℕ)
    (there : (t : ℕ) → t < F.links → Like F links left right ceiling how how' t)
    (back : (t : ℕ) → t < links → Like (rewired F links left right ceiling) F.links F.left F.right F.ceiling how' how t) where
  abbrev H : Frame
  H = rewired F links left right ceiling

  from_there : (b v : ℕ) → From F how val b v → From H how' val b v
  from_there b v f u k p =
      f u k (unblocked_over H F.links F.left F.right F.ceiling how' how back (λ x y j d. definite-over F links left right ceiling how how' there d) p)

  from_back : (b v : ℕ) → From H how' val b v → From F how val b v
  from_back b v f u k p =
      f u k (unblocked_over F links left right ceiling how how' there (λ x y j d. definite-over H F.links F.left F.right F.ceiling how' how back d) p)

  pub fresh_alike : (v : ℕ) → v < F.size → fresh F how val v ≡ fresh H how' val v
  unfolding fresh
  fresh_alike v l =
      agreed_cong (none F L how val v) (none H M how' val v)
      (λ b lb. (λ e. from_none H M how' val b v l (from_there b v (none_from F L how val b v l e)), λ e. from_none F L how val b v l (from_back b v (none_from H M how' val b v l e))))

-- `other` has the kinds of `net`, literally, and transistors of its own
module _ (net : Net) (ts gs ss ds : List ℕ) where
  abbrev pub other : Net
  other = record { kinds = net.kinds; types = ts; gates = gs; sources = ss; drains = ds }

  like_of : Held net other → (s : List ℕ) (t : ℕ) → t < transistors net → Like (frame net) (transistors other) (at ss) (at ds) (λ i. 3) (stand_at net s) (stand_at other s) t
  like_of held s t l =
      record { wire = c.wire; joins = λ v w j. (c.below, ends v w c.ended j.1); ceilings = refl; stands = ap₂ stand c.typed (ap (at s) c.gated) }
    where
      c : Copy net other t
      c = held t l

      ends : (v w : ℕ) → ((at ss c.wire ≡ at net.sources t) × (at ds c.wire ≡ at net.drains t)) ⊎ ((at ds c.wire ≡ at net.sources t) × (at ss c.wire ≡ at net.drains t))
          → ((at net.sources t ≡ v) × (at net.drains t ≡ w)) ⊎ ((at net.drains t ≡ v) × (at net.sources t ≡ w))
          → ((at ss c.wire ≡ v) × (at ds c.wire ≡ w)) ⊎ ((at ds c.wire ≡ v) × (at ss c.wire ≡ w))
      ends v w (inl h) (inl e) = inl (h.0 ∙ e.0, h.1 ∙ e.1)
      ends v w (inl h) (inr e) = inr (h.1 ∙ e.0, h.0 ∙ e.1)
      ends v w (inr h) (inl e) = inr (h.0 ∙ e.0, h.1 ∙ e.1)
      ends v w (inr h) (inr e) = inl (h.1 ∙ e.0, h.0 ∙ e.1)

module _ (net : Net) (ts gs ss ds : List ℕ) (there : Held net (other net ts gs ss ds)) (back : Held (other net ts gs ss ds) net) (s : List ℕ) where
  abbrev twin : Net
  twin = other net ts gs ss ds

  new-same : (v : ℕ) → v < nodes net → is_input net v ≡ false → new net s v ≡ new twin s v
  new-same v l i =
      new_by_ways net s v (l, i)
      ∙ fresh_alike (frame net) (lawful net) (transistors twin) (at ss) (at ds) (λ t. 3) (lawful twin) (stand_at net s) (stand_at twin s) (source_state net s)
      (like_of net ts gs ss ds there s) (like_of twin net.types net.gates net.sources net.drains back s) v l
      ∙ sym (new_by_ways twin s v (l, i))

  step_same : step net s ≡ step twin s
  unfolding step
  step_same = tab_cong (nodes net) _ _ (λ v l. go v l (is_input net v) refl)
    where
      go : (v : ℕ) → v < nodes net → (b : Bool) → is_input net v ≡ b → cond b (at s v) (new net s v) ≡ cond b (at s v) (new twin s v)
      go v l true i = refl
      go v l false i = new-same v l i

-- what holds of every network with literally the kinds of `net`, and copies of its transistors, holds of one alike
pub over_kinds : (net twin : Net) → Alike net twin → (P : Net → Type 0)
    → ((ts gs ss ds : List ℕ) → Held net (other net ts gs ss ds) → Held (other net ts gs ss ds) net → P (other net ts gs ss ds)) → P twin
over_kinds net twin a P f =
    subst (λ (k : List ℕ). Held net (of k) → Held (of k) net → P (of k)) a.kinds (f twin.types twin.gates twin.sources twin.drains) a.there a.back
  where
    of : List ℕ → Net
    of k = record { kinds = k; types = twin.types; gates = twin.gates; sources = twin.sources; drains = twin.drains }

-- alike networks have the same step
pub step_alike : (net twin : Net) → Alike net twin → step net ≡ step twin
step_alike net twin a =
    over_kinds net twin a (λ (x : Net). step net ≡ step x) (λ ts gs ss ds there back. fun_ext (λ s. step_same net ts gs ss ds there back s))

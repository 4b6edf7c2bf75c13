-- The cells of the nodes as inputs give, one transistor after the other. Assumes nothing.
use Prim.Native.Nat.{ℕ, ◌+◌, ◌*◌, ◌≤◌, ◌<◌}
use native.Mathlib.Omega.{arith}
use native.Mathlib.Decide.{ℕ_discrete}
use mathlib.Core.Path.{◌≡◌, refl, sym, ap, ◌∙◌, subst}
use mathlib.Core.Logic.{◌⊎◌, inl, inr}
use mathlib.Core.Bool.{Bool, true, false, not, ◌&&◌, true≢false}
use mathlib.Core.List.{List}
use lib.ListN.{length}
use Rattle.model.specs.Places.{at}
use Rattle.model.specs.Net.{Net, Stand, opened, closed, unknown, nodes, is_input, stand_at}
use Rattle.model.specs.Ways.{Inside, Joins, choose}
use Rattle.model.specs.RuleOne.{frame}
use Rattle.branches.specs.Code.{telling, mark_of}
use Rattle.layout.specs.Layout.{shut, doubtful, Source, Tells, Offered, LaidOut}
use Rattle.layout.specs.Look.{brought}
use Rattle.layout.proofs.Gifts.{Quiet, Brings, sources_same, sources_more, offers_same, offers_more}
use Rattle.layout.proofs.Gave.{gave_here, gave_else}

-- a transistor that is closed or unknown is not open
pub closed_passes : (x : Stand) → choose x false ≡ true → choose x true ≡ true
closed_passes opened e = e
closed_passes closed e = e
closed_passes unknown e = refl

pub doubtful_passes : (x : Stand) → (choose x true && not (choose x false)) ≡ true → choose x true ≡ true
doubtful_passes opened e = e
doubtful_passes closed e = refl
doubtful_passes unknown e = refl

-- one that is not open is unsure where it is not closed
pub stand_unsure : (x : Stand) (unsure : Bool) → choose x true ≡ true → unsure ≡ not (choose x false) → (choose x true && not (choose x false)) ≡ unsure
stand_unsure opened unsure o e = absurd (true≢false (sym o))
stand_unsure closed unsure o e = sym e
stand_unsure unknown unsure o e = sym e

stand_sure : (x : Stand) → choose x true ≡ true → false ≡ not (choose x false) → choose x false ≡ true
stand_sure opened o e = absurd (true≢false (sym o))
stand_sure closed o e = refl
stand_sure unknown o e = absurd (true≢false (sym e))

stand_doubt : (x : Stand) → true ≡ not (choose x false) → choose x false ≡ false
stand_doubt opened e = refl
stand_doubt closed e = absurd (true≢false e)
stand_doubt unknown e = refl

-- the cells of the nodes, after the transistors below `upto`
pub record Told (net : Net) (s : List ℕ) (upto : ℕ) (w : List ℕ) : Type 0 where
  pub sources : (v : ℕ) → Inside (frame net) v → Tells (Source net s upto v) (at w (nodes net + v))
  pub offers : (v : ℕ) → Inside (frame net) v → Offered net s upto v (at w v)
  pub inputs : (v : ℕ) → v < nodes net → is_input net v ≡ true → (at w (nodes net + v) ≡ 0) × (at w v ≡ 0)

pub told : {net : Net} {s : List ℕ} {upto : ℕ} {w₀ w : List ℕ} → LaidOut net s upto w₀ w → Told net s upto w
told z = record { sources = z.sources; offers = z.offers; inputs = z.inputs }

module _ (net : Net) (s : List ℕ) (t : ℕ) where
  abbrev n : ℕ
  n = nodes net

  -- a transistor that is open or brings no node anything
  pub told_same : {w w' : List ℕ} → ((v : ℕ) → Inside (frame net) v → Quiet net s (λ i. choose (stand_at net s i) true) t v) → ((j : ℕ) → j < 2 * n → at w' j ≡ at w j)
      → Told net s t w → Told net s (t + 1) w'
  told_same q e z = record {
    sources = λ v i. rw (e (n + v) (omega (arith, i.0))) (sources_same net s (λ w j p o. q v i w j p (closed_passes (stand_at net s t) o)) (z.sources v i));
    offers = λ v i. rw (e v (omega (arith, i.0))) (offers_same net s (λ w j p o. q v i w j p (doubtful_passes (stand_at net s t) o)) (z.offers v i));
    inputs = λ v l p. (e (n + v) (omega arith) ∙ (z.inputs v l p).0, e v (omega arith) ∙ (z.inputs v l p).1);
  }

  -- one that joins node a to the input u, and no other node to an input
  module _ (a u : ℕ) (i : Inside (frame net) a) (l : u < nodes net) (j : Joins (frame net) t a u) (p : is_input net u ≡ true)
      (only : (v x : ℕ) → Inside (frame net) v → Joins (frame net) t v x → is_input net x ≡ true → (v ≡ a) × (x ≡ u))
      (w : List ℕ) (room : 2 * nodes net ≤ length w) (z : Told net s t w) where
    abbrev gift : ℕ
    gift = telling 3 (mark_of (at s u))

    brings : {ok : ℕ → Bool} → ok t ≡ true → Brings net s ok t a u
    brings o = record { joins = j; inside = l; input = p; passes = o; only = λ x k q. (only a x i k q).1 }

    quiet : (ok : ℕ → Bool) (v : ℕ) → Inside (frame net) v → (v ≡ a → ⊥) → Quiet net s ok t v
    quiet ok v h d x k q o = d (only v x h k q).0

    other : (v : ℕ) → is_input net v ≡ true → v ≡ a → ⊥
    other v q e = true≢false (sym q ∙ ap (is_input net) e ∙ i.1)

    told_unsure : doubtful net s t ≡ true → shut net s t ≡ false → Told net s (t + 1) (brought true n a (at s u) w)
    told_unsure d f = record {
      sources = λ v h. rw (same (n + v) (omega (arith, i.0))) (sources_same net s (λ x k q o. true≢false (sym o ∙ f)) (z.sources v h));
      offers = λ v h. offers_go v h (ℕ_discrete v a);
      inputs = λ v b q. (same (n + v) (omega (arith, i.0)) ∙ (z.inputs v b q).0, same v (other v q) ∙ (z.inputs v b q).1);
    }
      where
        same : (k : ℕ) → (k ≡ a → ⊥) → at (brought true n a (at s u) w) k ≡ at w k
        same k = gave_else a gift w k

        offers_go : (v : ℕ) → Inside (frame net) v → Dec (v ≡ a) → Offered net s (t + 1) v (at (brought true n a (at s u) w) v)
        offers_go v h (yes e) = subst (λ (v : ℕ). Offered net s (t + 1) v (at (brought true n a (at s u) w) v)) (sym e)
            (rw (gave_here a gift w (omega (arith, i.0))) (offers_more net s (brings d) (z.offers a i)))
        offers_go v h (no e) = rw (same v e) (offers_same net s (quiet (doubtful net s) v h e) (z.offers v h))

    told_sure : doubtful net s t ≡ false → shut net s t ≡ true → Told net s (t + 1) (brought false n a (at s u) w)
    told_sure d f = record {
      sources = λ v h. sources_go v h (ℕ_discrete v a);
      offers = λ v h. rw (same v (omega (arith, h.0))) (offers_same net s (λ x k q o. true≢false (sym o ∙ d)) (z.offers v h));
      inputs = λ v b q. (same (n + v) (λ e. other v q (omega arith)) ∙ (z.inputs v b q).0, same v (omega arith) ∙ (z.inputs v b q).1);
    }
      where
        same : (k : ℕ) → (k ≡ n + a → ⊥) → at (brought false n a (at s u) w) k ≡ at w k
        same k = gave_else (n + a) gift w k

        sources_go : (v : ℕ) → Inside (frame net) v → Dec (v ≡ a) → Tells (Source net s (t + 1) v) (at (brought false n a (at s u) w) (n + v))
        sources_go v h (yes e) = subst (λ (v : ℕ). Tells (Source net s (t + 1) v) (at (brought false n a (at s u) w) (n + v))) (sym e)
            (rw (gave_here (n + a) gift w (omega (arith, i.0))) (sources_more net s (brings f) (z.sources a i)))
        sources_go v h (no e) = rw (same (n + v) (λ q. e (omega arith))) (sources_same net s (quiet (shut net s) v h e) (z.sources v h))

    pub told_gift : (unsure : Bool) → choose (stand_at net s t) true ≡ true → unsure ≡ not (choose (stand_at net s t) false) → Told net s (t + 1) (brought unsure n a (at s u) w)
    told_gift true o e = told_unsure (stand_unsure (stand_at net s t) true o e) (stand_doubt (stand_at net s t) e)
    told_gift false o e = told_sure (stand_unsure (stand_at net s t) false o e) (stand_sure (stand_at net s t) o e)

  -- the nodes that transistor t joins to inputs, by its ends
  pub ends_none : is_input net (at net.sources t) ≡ is_input net (at net.drains t) → (v u : ℕ) → Inside (frame net) v → Joins (frame net) t v u → is_input net u ≡ true → ⊥
  ends_none e v u i j p = go j.1
    where
      go : ((at net.sources t ≡ v) × (at net.drains t ≡ u)) ⊎ ((at net.drains t ≡ v) × (at net.sources t ≡ u)) → ⊥
      go (inl q) = true≢false (sym p ∙ sym (ap (is_input net) q.1) ∙ sym e ∙ ap (is_input net) q.0 ∙ i.1)
      go (inr q) = true≢false (sym p ∙ sym (ap (is_input net) q.1) ∙ e ∙ ap (is_input net) q.0 ∙ i.1)

  pub ends_down : is_input net (at net.sources t) ≡ true → (v u : ℕ) → Inside (frame net) v → Joins (frame net) t v u → is_input net u ≡ true
      → (v ≡ at net.drains t) × (u ≡ at net.sources t)
  ends_down e v u i j p = go j.1
    where
      go : ((at net.sources t ≡ v) × (at net.drains t ≡ u)) ⊎ ((at net.drains t ≡ v) × (at net.sources t ≡ u)) → (v ≡ at net.drains t) × (u ≡ at net.sources t)
      go (inl q) = absurd (true≢false (sym e ∙ ap (is_input net) q.0 ∙ i.1))
      go (inr q) = (sym q.0, sym q.1)

  pub ends_up : is_input net (at net.drains t) ≡ true → (v u : ℕ) → Inside (frame net) v → Joins (frame net) t v u → is_input net u ≡ true
      → (v ≡ at net.sources t) × (u ≡ at net.drains t)
  ends_up e v u i j p = go j.1
    where
      go : ((at net.sources t ≡ v) × (at net.drains t ≡ u)) ⊎ ((at net.drains t ≡ v) × (at net.sources t ≡ u)) → (v ≡ at net.sources t) × (u ≡ at net.drains t)
      go (inl q) = (sym q.0, sym q.1)
      go (inr q) = absurd (true≢false (sym e ∙ ap (is_input net) q.0 ∙ i.1))

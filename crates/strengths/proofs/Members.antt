-- The nodes that take part: where they are read, and that they stay. Assumes nothing.
use Prim.Native.Nat.{ℕ, ◌+◌, ◌≤◌, ◌<◌}
use native.Mathlib.Omega.{arith}
use mathlib.Core.Path.{◌≡◌, refl, sym, ◌∙◌}
use mathlib.Core.Logic.{◌⊎◌, inl, inr}
use mathlib.Core.List.{List}
use lib.ListN.{length}
use Rattle.std.specs.Prelude.{Option, None, Some}
use Rattle.model.specs.Places.{at}
use Rattle.branches.specs.Branch.{Wires}
use Rattle.branches.proofs.Lists.{linked-same}
use Rattle.strengths.specs.Spread.{member_at, Apart, Ready}

-- cells change in the table and in the queue alone: the members stay
module _ {G : Wires} {table : ℕ} {order : Option ℕ} {m queue : ℕ} {w : List ℕ} (R : Ready G table order m queue w) (u : List ℕ)
    (o : (j : ℕ) → (j < table) ⊎ (table + G.size ≤ j) → (j < queue) ⊎ (queue + m ≤ j) → at u j ≡ at w j) where
  pub member_same : (k : ℕ) → k < m → member_at order u k ≡ member_at order w k
  member_same k l = go order R.part.apart
    where
      clear : {first : ℕ} → (first + m ≤ queue) ⊎ (queue + m ≤ first) → (first + k < queue) ⊎ (queue + m ≤ first + k)
      clear (inl p) = inl (omega arith)
      clear (inr p) = inr (omega arith)

      go : (list : Option ℕ) → Apart list G.size m queue (length w) → member_at list u k ≡ member_at list w k
      go None _ = refl
      go (Some first) z = o (first + k) (inr (omega (arith, z.0, R.place))) (clear z.3)

  pub ready_same : length u ≡ length w → Ready G table order m queue u
  ready_same e = record {
    laid = rw e R.laid;
    linked = linked-same (λ j l. o j (inr (omega (arith, R.place))) (inr (omega (arith, R.part.fits)))) R.linked;
    place = R.place;
    part = record {
      nodes = λ k l. rw (member_same k l) (R.part.nodes k l);
      once = λ j k p l q. R.part.once j k p l (sym (member_same j (omega arith)) ∙ q ∙ member_same k l);
      closed = λ k h l hl a q. let z = R.part.closed k h l hl a (q ∙ member_same k l) in (z.0, z.1, member_same z.0 z.1 ∙ z.2);
      behind = R.part.behind;
      fits = R.part.fits;
      apart = rw e R.part.apart;
    };
  }

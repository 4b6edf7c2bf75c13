-- A table is filled by spreading among the nodes that are kept, or among all. Assumes nothing.
use Prim.Native.Nat.{ℕ, zero, suc, ◌+◌, ◌*◌, ◌≤◌, ◌<◌}
use native.Mathlib.Omega.{arith}
use native.Mathlib.Decide.{ℕ_discrete}
use mathlib.Core.Path.{◌≡◌, refl, sym, subst}
use mathlib.Core.Logic.{◌⊎◌, inl, inr}
use mathlib.Core.Bool.{true}
use mathlib.Core.List.{List}
use Rattle.std.specs.Prelude.{None, Some}
use Rattle.model.specs.Places.{at}
use Rattle.branches.specs.Branch.{Wires, near, far, branches, followed, amount}
use Rattle.branches.proofs.Ends.{followed-listed}
use Rattle.strengths.specs.Spread.{cell, Ready, Filled}
use Rattle.stepper.specs.Step.{Listing, Fillable, Full}

-- whether a node is in a list of cells
sought : (w : List ℕ) (first v m : ℕ) → ((j : ℕ) × (j < m) × (at w (first + j) ≡ v)) ⊎ ((j : ℕ) → j < m → at w (first + j) ≡ v → ⊥)
sought w first v zero = inr (λ j l. absurd (omega arith))
sought w first v (suc m) = go (sought w first v m) (ℕ_discrete (at w (first + m)) v)
  where
    go : ((j : ℕ) × (j < m) × (at w (first + j) ≡ v)) ⊎ ((j : ℕ) → j < m → at w (first + j) ≡ v → ⊥) → Dec (at w (first + m) ≡ v)
        → ((j : ℕ) × (j < suc m) × (at w (first + j) ≡ v)) ⊎ ((j : ℕ) → j < suc m → at w (first + j) ≡ v → ⊥)
    go (inl (j, l, e)) d = inl (j, omega arith, e)
    go (inr f) (yes e) = inl (m, omega arith, e)
    go (inr f) (no e) = inr (λ j l q. last j l q (ℕ_discrete j m))
      where
        last : (j : ℕ) → j < suc m → at w (first + j) ≡ v → Dec (j ≡ m) → ⊥
        last j l q (yes i) = e (subst (λ (i : ℕ). at w (first + i) ≡ v) i q)
        last j l q (no i) = f j (omega arith) q

module _ {G : Wires} {table kept : ℕ} {w : List ℕ} (R : Fillable G table kept w) where
  abbrev n : ℕ
  n = G.size

  -- among all nodes
  pub ready_all : Ready G table None n (2 * n) w
  ready_all = record {
    laid = R.laid;
    linked = R.linked;
    place = R.place;
    part = record {
      nodes = λ k l. l;
      once = λ j k a l e. omega arith;
      closed = λ k h a l o e. (far G h, R.laid.fars h l, refl);
      behind = omega arith;
      fits = omega arith;
      apart = tt;
    };
  }

  pub full_all : {w' : List ℕ} → (2 * kept ≤ n → ⊥) → Filled G true table None n (2 * n) 0 w w' → Full G table kept w w'
  full_all d z = record {
    other = λ j o l. z.other j o (inl l);
    list = λ l. absurd (d l);
    after = λ j l. z.other j (inr (omega (arith, R.place))) (inr (omega arith));
    above = z.above;
    sound = z.sound;
    shut = λ k h p l o e. z.shut (near G h) k h (R.laid.nears h l) p l o refl e;
  }

  -- among the kept
  module _ (room : 2 * kept ≤ n) where
    L : Listing G table kept w
    L = R.listing room

    pub ready_kept : Ready G table (Some (2 * n)) kept (2 * n + kept) w
    ready_kept = record {
      laid = R.laid;
      linked = R.linked;
      place = R.place;
      part = record {
        nodes = L.nodes;
        once = L.once;
        closed = L.closed;
        behind = omega arith;
        fits = omega arith;
        apart = (omega arith, omega (arith, R.laid.fits), omega (arith, R.laid.few_nodes), inl (omega arith));
      };
    }

    pub small_kept : (k : ℕ) → k < kept → cell w table (at w (2 * n + k)) ≤ 7
    small_kept k l = R.small _ (L.nodes k l)

    pub full_kept : {w' : List ℕ} → Filled G true table (Some (2 * n)) kept (2 * n + kept) 0 w w' → Full G table kept w w'
    full_kept {w'} z = record {
      other = λ j o l. z.other j o (inl (omega arith));
      list = λ r j l. z.other (2 * n + j) (inr (omega (arith, R.place))) (inl (omega arith));
      after = λ j l. z.other j (inr (omega (arith, R.place))) (inr (omega arith));
      above = z.above;
      sound = z.sound;
      shut = λ k h p l o e. go k h p l o e (sought w (2 * n) (near G h) kept);
    }
      where
        go : (k h : ℕ) → 0 < k → h < branches G → followed G true h ≡ true → cell w' table (near G h) ≡ 2 * k + 1
            → ((j : ℕ) × (j < kept) × (at w (2 * n + j) ≡ near G h)) ⊎ ((j : ℕ) → j < kept → at w (2 * n + j) ≡ near G h → ⊥) → 2 * amount G k h ≤ cell w' table (far G h)
        go k h p l o e (inl (j, a, q)) = z.shut j k h a p l o (sym q) e
        go k h p l o e (inr f) =
            let same : cell w' table (near G h) ≡ cell w table (near G h) = z.apart (near G h) (R.laid.nears h l) f in
            omega (arith, e, same, L.quiet h l (followed-listed G true h o) f, z.above (far G h) (R.laid.fars h l))

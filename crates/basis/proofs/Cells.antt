-- Cells stored one by one: what each store leaves, and a row of them. Assumes nothing.
use Prim.Native.Nat.{ℕ, ◌<◌}
use native.Mathlib.Omega.{arith}
use native.Mathlib.Decide.{ℕ_discrete}
use native.Mathlib.Nat.{zero-add}
use mathlib.Core.Path.{◌≡◌, sym, ◌∙◌}
use mathlib.Core.Logic.{◌≢◌}
use mathlib.Core.List.{List}
use lib.ListN.{length, set}
use lib.Seq.{get_or-set_same, get_or-set_other, ext_get_or}
use Rattle.model.specs.Places.{tab, at}
use Rattle.laws.proofs.Places.{length-tab, get_or-tab}
use Rattle.basis.specs.Cells.{Written}

-- a store at i, seen at k
pub data Stored (w : List ℕ) (i x k y : ℕ) : Type 0 where
  here : k ≡ i → y ≡ x → Stored w i x k y
  else : k ≢ i → y ≡ at w k → Stored w i x k y

pub stored : (w : List ℕ) (i x k : ℕ) → i < length w → Stored w i x k (at (set w i x) k)
stored w i x k l = go (ℕ_discrete k i)
  where
    go : Dec (k ≡ i) → Stored w i x k (at (set w i x) k)
    go (yes e) = here e (rw e (get_or-set_same w i x 0 l))
    go (no n) = else n (get_or-set_other w i k x 0 n)

-- a list that is written whole
pub written_all : {f : ℕ → ℕ} {w u : List ℕ} {i n : ℕ} → length u ≡ n → i ≡ n → Written f w 0 i u → u ≡ tab n f
written_all {f} {w} {u} {i} {n} e k z =
    ext_get_or 0 u (tab n f) (e ∙ sym (length-tab n f)) (λ j l. rw zero-add at (z.inside j (omega arith)) ∙ sym (get_or-tab n f 0 j (omega arith)))

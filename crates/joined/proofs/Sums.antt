-- Sums over the nodes that are taken: no more branches start there than there are. Assumes nothing.
use Prim.Native.Nat.{ℕ, ◌+◌, ◌≤◌, ◌<◌}
use native.Mathlib.Omega.{arith}
use native.Mathlib.Nat.{le_trans}
use mathlib.Core.Path.{◌≡◌, refl}
use mathlib.Core.Bool.{true}
use mathlib.Core.List.{List}
use lib.ListN.{length, set}
use lib.Seq.{get_or-set_same, get_or-set_other}
use lib.Dec.{ltb}
use borrow.Author.Tests.{lt-ltb, le-ltb, ltb-true}
use Rattle.model.specs.Places.{at}
use Rattle.branches.specs.Branch.{total, Wires, branches, degrees}
use Rattle.branches.specs.Code.{least_telling}
use Rattle.branches.proofs.Degrees.{total_ones, total-same, total_le, total_more, cond_le, degrees_bound}
use Rattle.joined.specs.Kept.{spent}

ltb_less : (a b : ℕ) → (a < least_telling → b < least_telling) → ltb a least_telling ≡ true → ltb b least_telling ≡ true
ltb_less a b h e = lt-ltb b least_telling (h (ltb-true a least_telling e))

-- the more nodes are taken, the greater is the sum
pub spent_le : (f : ℕ → ℕ) (w u : List ℕ) (q m : ℕ) → ((v : ℕ) → v < m → at w (q + v) < least_telling → at u (q + v) < least_telling) → spent f w q m ≤ spent f u q m
spent_le f w u q m h = total_le _ _ m (λ v l. cond_le (ltb (at w (q + v)) least_telling) (ltb (at u (q + v)) least_telling) (f v) (ltb_less (at w (q + v)) (at u (q + v)) (h v l)))

pub spent-same : (f : ℕ → ℕ) (w u : List ℕ) (q m : ℕ) → ((v : ℕ) → v < m → at u (q + v) ≡ at w (q + v)) → spent f u q m ≡ spent f w q m
spent-same f w u q m h = total-same _ _ m (λ v l. rw (h v l) refl)

-- a node that is taken adds its weight
pub spent_more : (f : ℕ → ℕ) (w : List ℕ) (q v m : ℕ) → q + v < length w → least_telling ≤ at w (q + v) → v < m → spent f (set w (q + v) 0) q m ≡ spent f w q m + f v
spent_more f w q v m l g h =
    total_more _ _ m v (f v)
    (λ k i d. rw (get_or-set_other w (q + v) (q + k) 0 0 (λ e. d (omega arith))) refl)
    h
    (rw (get_or-set_same w (q + v) 0 0 l, le-ltb (at w (q + v)) least_telling g) (omega arith))

-- it is no more than the sum over all nodes
spent-total : (f : ℕ → ℕ) (w : List ℕ) (q m : ℕ) → spent f w q m ≤ total f m
spent-total f w q m = total_le _ f m (λ v l. cond_le (ltb (at w (q + v)) least_telling) true (f v) (λ e. refl))

pub spent_few : (w : List ℕ) (q m : ℕ) → spent (λ v. 1) w q m ≤ m
spent_few w q m = omega (arith, total_ones m, spent-total (λ v. 1) w q m)

-- each branch starts at one node
pub spent-degrees : (G : Wires) (w : List ℕ) (q m : ℕ) → spent (degrees G) w q m ≤ branches G
spent-degrees G w q m = le_trans (spent-total (degrees G) w q m) (degrees_bound G {mem = λ v. v} (λ j k l i e. omega arith) (branches G))

-- The lists of branches: where they stand, and what their entries say. Assumes nothing.
use Prim.Native.Nat.{ℕ, ◌+◌, ◌*◌, ◌≤◌, ◌<◌}
use native.Mathlib.Omega.{arith}
use mathlib.Core.Path.{◌≡◌}
use mathlib.Core.List.{List}
use Rattle.model.specs.Places.{at}
use Rattle.branches.specs.Branch.{Wires, Last, none, some, Linked}
use Rattle.branches.proofs.Degrees.{cond_few}

-- the lists are in the cells from 3n on
pub linked-same : {G : Wires} {upto : ℕ} {w w' : List ℕ} → ((j : ℕ) → 3 * G.size ≤ j → at w' j ≡ at w j) → Linked G upto w → Linked G upto w'
linked-same {G} q z = record {
  first = λ v l. rw (q (3 * G.size + v) (omega arith)) (z.first v l);
  next = λ h l o. rw (q (4 * G.size + h) (omega arith)) (z.next h l o);
}

-- the entry of a branch below `upto` is lower than that of `upto`
pub last_low : {G : Wires} {v upto e : ℕ} → Last G v upto e → e < 2 * upto + 2
last_low (none q d) = omega arith
last_low {G} (some h q l n o d) = omega (arith, q, cond_few (G.unsure h))

-- `next_where` meets its contract: no byte that was passed over passes the test. Assumes nothing.
use Rattle.std.proofs.Common.{ℕ, ◌≡◌, ◌≤◌, ◌<◌, ◌-◌, length, false}
use Rattle.model.specs.Places.{at}
use Rattle.scanner.proofs.next_where.Given as goal

abbrev pub invariant-loop-i : goal.invariant-loop-i
invariant-loop-i g l =
    (l.from ≤ l.i) × (l.i ≤ length l.text) × ((k : ℕ) → l.from ≤ k → k < l.i → g.test (at l.text k) ≡ false)

abbrev pub decreases-loop-i : goal.decreases-loop-i
decreases-loop-i g l = length l.text - l.i

-- The bench set's ring never settles: at every limit that is accepted its unit run is OSCILLATES with the ring's node and the limit in force, and
-- leaves the states after exactly that many steps. Assumes nothing.
use Prim.Native.Nat.{ℕ, zero, suc, ◌≤◌}
use native.Mathlib.Omega.{arith}
use mathlib.Core.Path.{◌≡◌, refl, ap, sym, ◌∙◌}
use mathlib.Core.Bool.{Bool, true, false, not, cond}
use mathlib.Core.List.{List, [], ◌∷◌}
use lib.ListN.{length}
use borrow.Author.Tests.{le-ltb}
use Rattle.model.specs.Bounds.{highest_limit}
use Rattle.model.specs.Places.{iter, at}
use Rattle.model.specs.Net.{stands, linked, spread, joined, strength, set_state, new, step}
use Rattle.model.specs.Run.{changes_of, limit_of}
use Rattle.model.specs.Rules.{cells, wire_tests, change_tests, step_sizes, run_sizes, run_rules, unit_rules}
use Rattle.model.specs.Entries.{Outcome, first_changed, unit_outcome}
use Rattle.model.specs.Demands.{Clean}
use Rattle.model.specs.Bench.{RING}
use Rattle.model.specs.declared.Answer.TheVariants.{Oscillates}
use Rattle.laws.proofs.Judged.{clean}
use Rattle.laws.proofs.Demands.{unit-at_limit, unit-at_limit_when}

-- ground at 0, and the ring's node at 1 or at 0
abbrev pub ring : Bool → List ℕ
ring b = 0 ∷ cond b 1 0 ∷ []

-- a step turns the node over
turns : (b : Bool) → step RING (ring b) ≡ ring (not b)
unfolding stands linked spread joined strength set_state new step
turns true = refl
turns false = refl

turned_first : (b : Bool) → first_changed (ring b) (ring (not b)) ≡ 1
unfolding first_changed
turned_first true = refl
turned_first false = refl

turned : (b : Bool) → ring (not b) ≡ ring b → ⊥
turned true e = absurd (omega (arith, ap (λ (s : List ℕ). at s 1) e))
turned false e = absurd (omega (arith, ap (λ (s : List ℕ). at s 1) e))

-- and some way round it stands after any number of them
after : (k : ℕ) (b : Bool) → (c : Bool) × (iter k (step RING) (ring b) ≡ ring c)
after zero b = (b, refl)
after (suc k) b = let r = after k (not b) in (r.0, ap (iter k (step RING)) (turns b) ∙ r.1)

-- so no number of steps settles it, and each next step changes the node
unsettled : (k : ℕ) (b : Bool) → step RING (iter k (step RING) (ring b)) ≡ iter k (step RING) (ring b) → ⊥
unsettled zero b e = turned b (sym (turns b) ∙ e)
unsettled (suc k) b e = unsettled k (not b) (rw (turns b) at e)

next-changed : (k : ℕ) (b : Bool) → let s = iter k (step RING) (ring b) in first_changed s (step RING s) ≡ 1
next-changed k b = let r = after k b in rw (r.1, turns r.0) (turned_first r.0)

-- the unit run of the ring from 0, without changes
abbrev pub ring_run : ℕ → List ℕ → Outcome
ring_run limit w = unit_outcome RING (ring false) (changes_of [] []) limit w

module _ (limit : ℕ) (w : List ℕ) (low : limit ≤ highest_limit) (long : cells RING ≤ length w) where
  accepted : Clean (unit_rules RING (ring false) (changes_of [] []) limit w)
  unfolding wire_tests change_tests step_sizes run_sizes run_rules unit_rules
  accepted = clean (unit_rules RING (ring false) (changes_of [] []) limit w) (rw (le-ltb (length w) (cells RING) long, le-ltb highest_limit limit low))

  pub ring_at_limit : ((ring_run limit w).answer ≡ Oscillates 1 (limit_of limit)) × ((ring_run limit w).states ≡ iter (limit_of limit) (step RING) (ring false))
  ring_at_limit =
      let never = unit-at_limit_when RING (ring false) (changes_of [] []) limit w accepted (λ k l. unsettled k false) in
      let end = unit-at_limit RING (ring false) (changes_of [] []) limit w never in
      let left = end.1.states in
      let place = ap (λ (s : List ℕ). first_changed s (step RING s)) left ∙ next-changed (limit_of limit) false in
      (end.0 ∙ ap (λ (p : ℕ). Oscillates p (limit_of limit)) place, left)

-- limit 0 stands for 1,000, and 100 for itself
module _ (w : List ℕ) (long : cells RING ≤ length w) where
  pub ring_at_0 : ((ring_run 0 w).answer ≡ Oscillates 1 1000) × ((ring_run 0 w).states ≡ iter 1000 (step RING) (ring false))
  ring_at_0 = ring_at_limit 0 w (omega arith) long

  pub ring_at_100 : ((ring_run 100 w).answer ≡ Oscillates 1 100) × ((ring_run 100 w).states ≡ iter 100 (step RING) (ring false))
  ring_at_100 = ring_at_limit 100 w (omega arith) long

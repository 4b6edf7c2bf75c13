-- `strengths::Spread::spread_all` meets its contract: the strengths above s have spread. Assumes nothing.
use Prim.Native.Nat.{ℕ, ◌-◌}
use native.Mathlib.Omega.{arith}
use mathlib.Core.Path.{◌≡◌}
use mathlib.Core.Bool.{Bool}
use Rattle.strengths.specs.Spread.{Ready, wires_of}
use Rattle.strengths.proofs.Falls.{falling_start, falling_few, falling_next, falling_spreadable}
use Rattle.strengths.proofs.Spread.spread_all.Goals as goal

pub loop-s-init : goal.loop-s-init
loop-s-init c = (c.requires.4, λ listed unsure R. falling_start R c.requires.3)

pub spread-visits-requires : goal.spread-visits-requires
spread-visits-requires c =
    let R = c.requires.2 in
    (falling_spreadable c.args.self.now R (c.loop-s.invariant.1 _ _ R), omega (arith, c.loop-s.auto.s, c.requires.5))

pub overflow_add-visits : goal.overflow_add-visits
overflow_add-visits c =
    let R = c.requires.2 in
    let z = c.loop-s.invariant.1 _ _ R in
    omega (arith, falling_few R (falling_next R z (c.loop-s.s - 1) (omega arith) (c.spread-visits.ensures (falling_spreadable c.args.self.now R z))), R.laid.few_transistors)

pub loop-s-preserved : goal.loop-s-preserved
loop-s-preserved c =
    (omega arith, λ listed unsure R. let z = c.loop-s.invariant.1 listed unsure R in falling_next R z (c.loop-s.s - 1) (omega arith) (c.spread-visits.ensures (falling_spreadable c.args.self.now R z)))

pub returns : goal.returns
returns c =
    let R = c.requires.2 in
    let e : c.loop-s.s ≡ c.args.last = omega arith in
    (λ listed unsure R. rw e at (c.loop-s.invariant.1 listed unsure R).filled, falling_few R (c.loop-s.invariant.1 _ _ R))

-- the last strength was spread
pub returns-2 : goal.returns-2
returns-2 c =
    let R = c.requires.2 in
    let next = λ (listed unsure : ℕ → Bool) (R : Ready (wires_of c.args.self.now listed unsure) c.args.self.now.table c.args.self.now.order c.args.self.now.members c.args.self.now.queue c.args.work.now). let z = c.loop-s.invariant.1 listed unsure R in falling_next R z c.args.last (omega arith) (c.spread-visits.ensures (falling_spreadable c.args.self.now R z)) in
    (λ listed unsure R. (next listed unsure R).filled, falling_few R (next _ _ R))

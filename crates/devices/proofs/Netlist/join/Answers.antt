-- `join` meets its contract: a load writes its node's kind, any other device is one more transistor. Assumes nothing.
use native.Mathlib.Omega.{arith}
use Rattle.devices.proofs.Joining.{pulled_seen, wired_seen}
use Rattle.devices.proofs.Netlist.join.Goals as goal

pub returns-then-pulls_up : goal.returns-then-pulls_up
returns-then-pulls_up c = pulled_seen _ _ _ _ _ _ _ _ _ _ _ _ c.self.view_is c.requires.numbered.0 _ c.pulls_up.ensures c.if-pulls_up.true

pub returns : goal.returns
returns c =
    wired_seen _ _ _ _ _ _ _ _ _ _ _ _ c.self.view_is (omega arith) _ c.transistors-number.ensures.count (omega arith, omega arith, omega arith, omega arith) _ c.pulls_up.ensures c.if-pulls_up.false _ c.from.ensures

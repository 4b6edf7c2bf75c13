-- `network` meets its contract: the fronts of the tables. Assumes nothing.
use native.Mathlib.Omega.{arith}
use Rattle.devices.proofs.Joining.{network_seen, level_seen}
use Rattle.devices.proofs.Netlist.network.Goals as goal

pub returns-clause-net : goal.returns-clause-net
returns-clause-net c = network_seen _ _ _ _ _ _ _ _ c.self.view_is (omega arith) _ c.transistors-transistors.ensures.count _ c.count-nodes.ensures.count

pub returns-clause-level : goal.returns-clause-level
returns-clause-level c = level_seen _ _ _ _ _ _ _ _ c.self.view_is (omega arith) (omega arith, omega arith, omega arith, omega arith)

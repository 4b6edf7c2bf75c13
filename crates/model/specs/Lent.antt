-- What is lent, as the definitions have it. Assumes nothing.
use Rattle.model.specs.Net.{Net, net_of}
use Rattle.model.specs.Run.{Changes, changes_of}
use Rattle.model.specs.declared.Network.{Network}
use Rattle.model.specs.declared.ChangeList.{ChangeList}

-- the network whose tables are lent
abbrev pub lent : Network → Net
lent n = net_of n.kinds.now n.types.now n.gates.now n.sources.now n.drains.now

-- the changes that a list asks for
abbrev pub asked : ChangeList → Changes
asked c = changes_of c.nodes.now c.states.now

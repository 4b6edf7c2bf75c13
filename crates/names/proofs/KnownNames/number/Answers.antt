-- `number` meets its contract: its chain is made of the name's bytes. Assumes nothing.
use Rattle.names.proofs.Seen.{seen_chain}
use Rattle.names.proofs.KnownNames.number.Goals as goal

pub find-requires-clause-chained : goal.find-requires-clause-chained
find-requires-clause-chained c =
    let e = c.chain_of-chain.ensures in (e.within, seen_chain _ _ _ _ _ c.self.view_is _ _ c.of.ensures _ e.same)

pub enter-requires-clause-chained : goal.enter-requires-clause-chained
enter-requires-clause-chained c =
    let e = c.chain_of-chain.ensures in (e.within, seen_chain _ _ _ _ _ c.self.view_is _ _ c.of.ensures _ e.same)

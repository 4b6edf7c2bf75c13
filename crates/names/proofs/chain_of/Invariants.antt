-- `chain_of` meets its contract: what is left to mix is what is left of the definition. Assumes nothing.
use Rattle.std.proofs.Common.{◌≡◌, ◌<◌, drop}
use Rattle.names.specs.Chains.{mixed}
use Rattle.names.proofs.chain_of.Given as goal

abbrev pub invariant-loop-byte : goal.invariant-loop-byte
invariant-loop-byte l =
    (l.chain < 4096) × (mixed l.chain (drop l.byte-index l.name) ≡ mixed 0 l.name)

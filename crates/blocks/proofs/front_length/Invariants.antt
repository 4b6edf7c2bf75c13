-- `front_length` meets its contract: the wires and values so far are counted. Assumes nothing.
use Prim.Native.Nat.{◌+◌}
use mathlib.Core.Path.{◌≡◌}
use lib.ListN.{length}
use Rattle.model.specs.Places.{at}
use Rattle.waves.specs.Dump.{each, wire_line, value_line}
use Rattle.blocks.proofs.front_length.Given as goal

abbrev pub invariant-loop-node : goal.invariant-loop-node
invariant-loop-node l =
    l.size ≡ 97 + length (each l.node wire_line) + length (each l.node (λ v. value_line v (at l.states v)))

-- `put_header`: the lines so far are written. Assumes nothing.
use Rattle.waves.specs.Dump.{each, wire_line}
use Rattle.lettering.specs.Writing.{Writes}
use Rattle.blocks.proofs.put_header.Given as goal

abbrev pub invariant-loop-node : goal.invariant-loop-node
invariant-loop-node l = Writes l.initial.out (each l.node wire_line) l.out

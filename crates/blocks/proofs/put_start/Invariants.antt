-- `put_start`: the lines so far are written. Assumes nothing.
use Rattle.model.specs.Places.{at}
use Rattle.waves.specs.Dump.{each, value_line}
use Rattle.lettering.specs.Writing.{Writes}
use Rattle.blocks.proofs.put_start.Given as goal

abbrev pub invariant-loop-node : goal.invariant-loop-node
invariant-loop-node l = Writes l.initial.out (each l.node (λ v. value_line v (at l.states v))) l.out

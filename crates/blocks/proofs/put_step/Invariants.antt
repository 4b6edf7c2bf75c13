-- `put_step`: the lines so far are written. Assumes nothing.
use Rattle.waves.specs.Dump.{each, change_line}
use Rattle.lettering.specs.Writing.{Writes}
use Rattle.blocks.proofs.put_step.Given as goal

abbrev pub invariant-loop-node : goal.invariant-loop-node
invariant-loop-node l = Writes l.initial.out (each l.node (change_line l.states l.next)) l.out

-- `changes_length` meets its contract: the lines so far are counted. Assumes nothing.
use mathlib.Core.Path.{◌≡◌}
use lib.ListN.{length}
use Rattle.waves.specs.Dump.{each, change_line}
use Rattle.blocks.proofs.changes_length.Given as goal

abbrev pub invariant-loop-node : goal.invariant-loop-node
invariant-loop-node l = l.size ≡ length (each l.node (change_line l.states l.next))

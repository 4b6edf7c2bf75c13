-- `layout::begin_sources` meets its contract: each node passed has its cell, the others as they came. Assumes nothing.
use Rattle.basis.specs.Cells.{Written}
use Rattle.layout.specs.Look.{source_at}
use Rattle.layout.proofs.begin_sources.Given as goal

abbrev pub invariant-loop-v : goal.invariant-loop-v
invariant-loop-v l = Written (source_at l.kinds l.states) l.initial.work l.n l.v l.work

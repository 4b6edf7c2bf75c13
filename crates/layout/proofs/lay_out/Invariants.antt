-- `layout::lay_out` meets its contract: one transistor after the other. Assumes nothing.
use Rattle.model.specs.Lent.{lent}
use Rattle.layout.specs.Layout.{LaidOut}
use Rattle.layout.proofs.lay_out.Given as goal

abbrev pub invariant-loop-t : goal.invariant-loop-t
invariant-loop-t l = LaidOut (lent l.net) l.states l.t l.fn.work l.work

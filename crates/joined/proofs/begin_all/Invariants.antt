-- `joined::begin_all` meets its contract: the tables have begun at the nodes passed. Assumes nothing.
use Rattle.joined.specs.Floods.{BegunAll}
use Rattle.joined.proofs.begin_all.Given as goal

abbrev pub invariant-loop-k : goal.invariant-loop-k
invariant-loop-k l =
    BegunAll l.n l.code l.from l.initial.work l.k l.work

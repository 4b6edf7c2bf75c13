-- `next_where` meets its contract: it stops at the first byte that passes the test. Assumes nothing.
use Rattle.std.proofs.Common.{rules, arith}
use Rattle.textlaws.proofs.Scanning.{next_is}
use Rattle.scanner.proofs.next_where.Goals as goal

pub returns-then-passes-clause-found : goal.returns-then-passes-clause-found
returns-then-passes-clause-found g c =
    next_is _ _ _ _ (omega arith) _ (record { from = omega arith; below = omega arith; none = c.loop-i.invariant.2; found = λ m. search rules })

pub returns-clause-found : goal.returns-clause-found
returns-clause-found g c =
    next_is _ _ _ _ (omega arith) _ (record { from = omega arith; below = omega arith; none = λ k a b. c.loop-i.invariant.2 k a (omega arith); found = λ m. absurd (omega arith) })

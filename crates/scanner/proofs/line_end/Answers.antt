-- `line_end` meets its contract: the line of a device has the same end from behind its drain on. Assumes nothing.
use Rattle.std.proofs.Common.{◌∙◌, arith}
use Rattle.scanner.proofs.Ends.{drain_inside, drain_end}
use Rattle.scanner.proofs.line_end.Goals as goal

pub end-requires : goal.end-requires
end-requires c =
    let p = c.requires in
    omega (arith, (drain_inside _ _ p.0 _ p.1 _ _ c.in-Device.is).1)

pub next_feed-requires : goal.next_feed-requires
next_feed-requires c =
    let p = c.requires in
    rw c.end.ensures (drain_inside _ _ p.0 _ p.1 _ _ c.in-Device.is).1

pub returns-in-Device-clause-found : goal.returns-in-Device-clause-found
returns-in-Device-clause-found c =
    let p = c.requires in
    let found = rw c.end.ensures at c.next_feed.ensures.found in
    found ∙ drain_end _ _ p.0 _ p.1 _ _ c.in-Device.is

pub returns-in-Device-clause-within : goal.returns-in-Device-clause-within
returns-in-Device-clause-within c =
    let p = c.requires in
    let drain = drain_inside _ _ p.0 _ p.1 _ _ c.in-Device.is in
    let n = c.next_feed.ensures.within in
    (omega (arith, n.0, drain.0, c.end.ensures), n.1)

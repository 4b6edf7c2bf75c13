-- `States` shows a letter for each state that it has passed. Assumes nothing.
use Rattle.std.specs.List.{flat_map}
use Rattle.std.proofs.Common.{take}
use Rattle.std.specs.Fmt.{HasWritten, IsPlainFormatter}
use Rattle.lines.specs.Letter.{letter}
use Rattle.lines.proofs.StatesDisplay.fmt.Given as goal

abbrev pub invariant-loop-state : goal.invariant-loop-state
invariant-loop-state g l =
    IsPlainFormatter l.initial.f → HasWritten g.W.Write.write_str_gives l.initial.f (flat_map letter (take l.state-index l.state-items)) l.f

-- `read_lines` meets its contract: what is left to read, with what was read, is the whole reading. Assumes nothing.
use Prim.Native.Nat.{◌-◌}
use mathlib.Core.Path.{◌≡◌}
use lib.ListN.{length}
use Rattle.devices.proofs.Midway.{Midway}
use Rattle.devices.proofs.Netlist.read_lines.Given as goal

abbrev pub invariant-loop-from : goal.invariant-loop-from
invariant-loop-from l =
    record {
      of_text : l.self.text ≡ l.text;
      text_is : l.text ≡ l.fn.self.text;
      midway : Midway l.text l.node_room l.transistor_room l.from l.line_number l.self.list;
    }

abbrev pub decreases-loop-from : goal.decreases-loop-from
decreases-loop-from l =
    length l.text - l.from

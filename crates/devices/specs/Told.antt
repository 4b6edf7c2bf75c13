-- How a reading ended, as the code has it. Assumes nothing.
use Rattle.std.specs.Prelude.{Result, Ok, Err}
use Rattle.text.specs.Netlist.{Netlist, Reading, taken, refused}
use Rattle.devices.specs.declared.BadLine.{BadLine}

abbrev pub told : Result (Unit {0}) BadLine → Netlist → Reading
told (Ok _) list = taken list
told (Err bad) list = refused bad.line

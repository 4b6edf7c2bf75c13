-- Rule one as a frame: sources of strength 1, 2 and 3, and transistors that let all pass. Assumes nothing.
use Rattle.std.specs.Prelude.{ℕ, cond, List}
use Rattle.model.specs.Places.{at}
use Rattle.model.specs.Net.{Net, nodes, transistors, is_input, is_pullup, source_state, stand_at}
use Rattle.model.specs.Ways.{Frame}
use Rattle.model.specs.Tables.{step_by}

-- the strength of a node that is no input, as a source
abbrev pub own_strength : Net → ℕ → ℕ
own_strength net v = cond (is_pullup net v) 2 1

abbrev pub frame : Net → Frame
frame net =
    record {
      size = nodes net;
      links = transistors net;
      input = is_input net;
      left = at net.sources;
      right = at net.drains;
      own = λ v. cond (is_input net v) 3 (own_strength net v);
      ceiling = λ t. 3;
      top = 3;
    }

-- the step by its three tables, which computes where the choices are too many
unfoldable pub quick_step : Net → List ℕ → List ℕ
quick_step net s = step_by (frame net) (stand_at net s) (source_state net s) s

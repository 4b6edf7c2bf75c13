-- The bounds on what is lent, each by name and in one place. Assumes nothing.
use Rattle.std.specs.Prelude.{ℕ, ◌+◌, ◌*◌}

abbrev pub most_nodes : ℕ
most_nodes = 4096

abbrev pub most_transistors : ℕ
most_transistors = 8192

abbrev pub most_changes : ℕ
most_changes = 4096

-- kinds: 0 normal, 1 pullup, 2 input, and the rails, which are inputs too: 3 ground, 4 power
abbrev pub highest_kind : ℕ
highest_kind = 4

-- types: 0 n, 1 p, 2 d
abbrev pub highest_type : ℕ
highest_type = 2

-- states: 0 low, 1 high, 2 unknown, written X
abbrev pub highest_state : ℕ
highest_state = 2

abbrev pub highest_limit : ℕ
highest_limit = 10000

-- what the limit 0 stands for
abbrev pub default_limit : ℕ
default_limit = 1000

-- the work cells that a network of n nodes and t transistors needs
abbrev pub cells_for : ℕ → ℕ → ℕ
cells_for n t = 4 * n + 2 * t

-- the bytes of a text, and those of a name in it
abbrev pub most_bytes : ℕ
most_bytes = 65535

abbrev pub most_name : ℕ
most_name = 63

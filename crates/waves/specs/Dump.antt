-- The value change dump of a run (IEEE 1364), byte for byte: a wire for each node, all states at time 0, then a time for each step with the nodes that it
-- changed. Assumes nothing.
use Rattle.std.specs.Prelude.{ℕ, zero, suc, ◌+◌, ◌*◌, ◌/◌, ◌%◌, true, false, cond, List, [], ◌∷◌, ◌++◌, map, reverse, length, ltb}
use Rattle.model.specs.Places.{iter, at}
use Rattle.text.specs.Bytes.{bytes}
use Rattle.model.specs.Run.{Changes, entered, changed, unit_steps}

-- the texts f 0, f 1 .. f (n - 1), one after the other
abbrev pub each : ℕ → (ℕ → List ℕ) → List ℕ
each zero f = []
each (suc n) f = f zero ++ each n (λ i. f (suc i))

-- the digits of a number, lowest first, no needless high digit; at most one more than `fuel`
abbrev pub digits_in : ℕ → ℕ → ℕ → List ℕ
digits_in base zero n = n ∷ []
digits_in base (suc fuel) n = elim (ltb n base) [ true ↦ n ∷ [] | false ↦ n % base ∷ digits_in base fuel (n / base) ]

-- no number n has more than n + 1 digits
unfoldable pub digits : ℕ → ℕ → List ℕ
digits base n = digits_in base n n

-- the identifier code of a node: its number in base 94, in the characters 33 to 126, lowest digit first
unfoldable pub code : ℕ → List ℕ
code v = map (λ d. 33 + d) (digits 94 v)

-- a number as it is written, highest digit first
unfoldable pub decimal : ℕ → List ℕ
decimal n = map (λ d. 48 + d) (reverse (digits 10 n))

-- the name of a node's wire: n and its number
unfoldable pub wire_name : ℕ → List ℕ
wire_name v = bytes "n" ++ decimal v

-- a state's letter: 0, 1, x
abbrev pub letter : ℕ → ℕ
letter zero = 48
letter (suc zero) = 49
letter (suc (suc x)) = 120

-- the wire of node v
unfoldable pub wire_line : ℕ → List ℕ
wire_line v = bytes "$var wire 1 " ++ (code v ++ (bytes " " ++ (wire_name v ++ bytes " $end\n")))

-- node v is in the state x
unfoldable pub value_line : ℕ → ℕ → List ℕ
value_line v x = letter x ∷ code v ++ bytes "\n"

-- what stands before time 0, of n nodes
unfoldable pub header : ℕ → List ℕ
header n = bytes "$timescale 1 ns $end\n$scope module mos $end\n" ++ (each n wire_line ++ bytes "$upscope $end\n$enddefinitions $end\n")

-- time 0: all states
unfoldable pub start_block : List ℕ → List ℕ
start_block s = bytes "#0\n$dumpvars\n" ++ (each (length s) (λ v. value_line v (at s v)) ++ bytes "$end\n")

unfoldable pub time_line : ℕ → List ℕ
time_line k = bytes "#" ++ (decimal k ++ bytes "\n")

-- node v, if its state is changed
unfoldable pub change_line : List ℕ → List ℕ → ℕ → List ℕ
change_line old new v = cond (changed old new v) (value_line v (at new v)) []

-- time k: the changed nodes only, in node order
unfoldable pub step_block : ℕ → List ℕ → List ℕ → List ℕ
step_block k old new = time_line k ++ each (length old) (change_line old new)

-- of a run of steps f from the states s: the step after k of them
unfoldable pub block_after : (List ℕ → List ℕ) → List ℕ → ℕ → List ℕ
block_after f s k = step_block (suc k) (iter k f s) (f (iter k f s))

-- so many steps f from the states s
unfoldable pub dump_of : (List ℕ → List ℕ) → List ℕ → ℕ → List ℕ
dump_of f s count = header (length s) ++ (start_block s ++ each count (block_after f s))

-- a unit run: time 0 has the changes entered, the last time is the reported count
unfoldable pub unit_dump : (List ℕ → List ℕ) → List ℕ → Changes → ℕ → List ℕ
unit_dump f s ch limit = dump_of f (entered s ch) (unit_steps f s ch limit).count

-- no dump of n nodes, within the bounds, and of so many steps is longer
abbrev pub most_dump : ℕ → ℕ → ℕ
most_dump n steps = 97 + 30 * n + steps * (7 + 4 * n)

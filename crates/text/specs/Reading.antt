-- What reading a text answers and leaves in the lent tables, and which part of the text is a node's name, on every input. Assumes nothing.
use Rattle.std.specs.Prelude.{ℕ, Bool, cond, ◌||◌, List, ◌∷◌, ◌++◌, map, length, drop, ltb}
use Rattle.model.specs.Bounds.{most_nodes, most_transistors, most_bytes}
use Rattle.model.specs.Places.{any}
use Rattle.model.specs.Net.{Net, net_of, nodes, transistors}
use Rattle.model.specs.Rules.{check_sizes}
use Rattle.model.specs.declared.Answer.{Answer}
use Rattle.model.specs.declared.Answer.TheVariants.{Done, Size, Text}
use Rattle.text.specs.Bytes.{empty_part, span_at}
use Rattle.text.specs.Netlist.{Netlist, Reading, taken, refused, reading}
use Rattle.text.specs.declared.Span.{Span}

-- the front of a table written anew, the rest as it came
unfoldable pub over : List ℕ → List ℕ → List ℕ
over new table = new ++ drop (length new) table

-- the answer, with both counts, to a text that is taken
abbrev pub counted : Netlist → Answer
counted m = Done 0 (length m.names) (transistors m.net)

-- reading: the answer, and what is left in the five tables
pub record Read : Type 0 where
  pub answer : Answer
  pub tables : Net

abbrev pub read_by : Answer → Net → Read
read_by answer tables = record { answer = answer; tables = tables }

abbrev pub filled : Net → Net → Net
filled new net =
    net_of (over new.kinds net.kinds) (over new.types net.types) (over new.gates net.gates) (over new.sources net.sources)
    (over new.drains net.drains)

unfoldable pub read_into : Reading → Net → Read
read_into (taken m) net = read_by (counted m) (filled m.net net)
read_into (refused line) net = read_by (Text line) net

-- SIZE: the text is too long, or the lent tables, which are the room for what is read, are not within the bounds of a network
unfoldable pub read_sizes : List ℕ → Net → List Bool
read_sizes text net = ltb most_bytes (length text) ∷ check_sizes net

unfoldable pub read_outcome : List ℕ → Net → Read
read_outcome text net = cond (any (read_sizes text net)) (read_by Size net) (read_into (reading text (nodes net) (transistors net)) net)

-- the reading of a text in the largest tables that may be lent
unfoldable pub full_reading : List ℕ → Reading
full_reading text = reading text most_nodes most_transistors

-- where the name of node k first appears; the empty part for an unused number
abbrev pub name_in : Reading → ℕ → Span
name_in (taken m) k = span_at m.names k
name_in (refused line) k = empty_part

-- and for a text that is too long, or that no tables could take
unfoldable pub name_part : List ℕ → ℕ → Span
name_part text k = cond (ltb most_bytes (length text)) empty_part (name_in (full_reading text) k)

-- all names: the answer, and what is left in the two tables
pub record Listed : Type 0 where
  pub answer : Answer
  pub starts : List ℕ
  pub sizes : List ℕ

abbrev pub listed_by : Answer → List ℕ → List ℕ → Listed
listed_by answer starts sizes = record { answer = answer; starts = starts; sizes = sizes }

abbrev pub starts_of : List Span → List ℕ
starts_of names = map (λ s. s.start) names

abbrev pub sizes_of : List Span → List ℕ
sizes_of names = map (λ s. s.size) names

-- both tables have to hold all names
unfoldable pub list_into : Reading → List ℕ → List ℕ → Listed
list_into (taken m) starts sizes =
    cond (ltb (length starts) (length m.names) || ltb (length sizes) (length m.names))
    (listed_by Size starts sizes)
    (listed_by (counted m) (over (starts_of m.names) starts) (over (sizes_of m.names) sizes))
list_into (refused line) starts sizes = listed_by (Text line) starts sizes

unfoldable pub names_outcome : List ℕ → List ℕ → List ℕ → Listed
names_outcome text starts sizes = cond (ltb most_bytes (length text)) (listed_by Size starts sizes) (list_into (full_reading text) starts sizes)

-- What a caller may rely on of a text that is taken; the crate textlaws proves it. Assumes nothing.
use Rattle.std.specs.Prelude.{ℕ, ◌≤◌, ◌<◌, ◌≡◌, List, [], ◌∷◌, ◌++◌, length}
use Rattle.model.specs.Bounds.{most_name, highest_kind, highest_type}
use Rattle.model.specs.Places.{at}
use Rattle.model.specs.Net.{Net, nodes, transistors}
use Rattle.text.specs.Bytes.{past, part, span_at}
use Rattle.text.specs.Lines.{line_starts, line_at}
use Rattle.text.specs.Netlist.{Netlist}
use Rattle.text.specs.declared.Span.{Span}
use Rattle.text.specs.declared.Line.{Line}
use Rattle.text.specs.declared.Line.TheVariants.{Device, Skip, Bad}

-- a network that may be run, as far as its numbers go: `check` takes it if it has a node
pub record Whole (net : Net) : Type 0 where
  pub gates_level : length net.gates ≡ transistors net
  pub sources_level : length net.sources ≡ transistors net
  pub drains_level : length net.drains ≡ transistors net
  pub kind_is : (v : ℕ) → v < nodes net → at net.kinds v ≤ highest_kind
  pub type_is : (t : ℕ) → t < transistors net → at net.types t ≤ highest_type
  pub gate_is : (t : ℕ) → t < transistors net → at net.gates t < nodes net
  pub source_is : (t : ℕ) → t < transistors net → at net.sources t < nodes net
  pub drain_is : (t : ℕ) → t < transistors net → at net.drains t < nodes net

-- a name that a node may have, in a text or a line that ends at e
pub record Fits (e : ℕ) (s : Span) : Type 0 where
  pub inside : past s ≤ e
  pub some_bytes : 1 ≤ s.size
  pub few_bytes : s.size ≤ most_name

-- the names in device lines: gate, source and drain of each, in the order of the text
abbrev pub names_in : Line → List Span
names_in (Device t ns) = ns.gate ∷ ns.source ∷ ns.drain ∷ []
names_in Skip = []
names_in Bad = []

unfoldable pub names_on : List ℕ → List ℕ → List Span
names_on text [] = []
names_on text (i ∷ starts) = names_in (line_at text i) ++ names_on text starts

abbrev pub appearances : List ℕ → List Span
appearances text = names_on text (line_starts text)

-- s stands at that place among these names, and none before it has the same bytes
pub record First (text : List ℕ) (names : List Span) (place : ℕ) (s : Span) : Type 0 where
  pub there : place < length names
  pub is : span_at names place ≡ s
  pub none : (q : ℕ) → q < place → part text (span_at names q) ≡ part text s → ⊥

-- of a text that is taken
pub record Promised (text : List ℕ) (m : Netlist) : Type 0 where
  pub whole : Whole m.net
  -- each node has a name, which is a part of the text and not empty, and no two have the same
  pub names_level : length m.names ≡ nodes m.net
  pub name_fits : (k : ℕ) → k < length m.names → Fits (length text) (span_at m.names k)
  pub names_differ : (j k : ℕ) → j < k → k < length m.names → part text (span_at m.names j) ≡ part text (span_at m.names k) → ⊥
  -- each name that appears is that of a node
  pub every_name : (q : ℕ) → q < length (appearances text) → (k : ℕ) × (k < length m.names) × (part text (span_at m.names k) ≡ part text (span_at (appearances text) q))
  -- a node's name is the first appearance of that name in a device line, and nodes are numbered in the order of these
  pub place : ℕ → ℕ
  pub name_first : (k : ℕ) → k < length m.names → First text (appearances text) (place k) (span_at m.names k)
  pub in_order : (j k : ℕ) → j < k → k < length m.names → place j < place k

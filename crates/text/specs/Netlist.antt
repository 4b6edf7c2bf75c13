-- What the lines of a text add up to: nodes numbered by first appearance, their kinds, and transistors. Assumes nothing.
use Rattle.std.specs.Prelude.{ℕ, suc, Bool, true, false, cond, not, ◌&&◌, ◌||◌, List, [], ◌∷◌, ◌++◌, length, set, eqb, ltb}
use Rattle.model.specs.Places.{first, at, same}
use Rattle.model.specs.Net.{Net, net_of, alone, transistors, ground, power}
use Rattle.text.specs.Bytes.{bytes, part, span_at}
use Rattle.text.specs.Lines.{line_starts, line_at}
use Rattle.text.specs.declared.DeviceType.{DeviceType}
use Rattle.text.specs.declared.DeviceType.TheVariants.{N, P, D}
use Rattle.text.specs.declared.Span.{Span}
use Rattle.text.specs.declared.Names.{Names}
use Rattle.text.specs.declared.Line.{Line}
use Rattle.text.specs.declared.Line.TheVariants.{Device, Skip, Bad}

-- the nodes so far, by number: where the name of each first appears, and its kind
pub record Nodes : Type 0 where
  pub names : List Span
  pub kinds : List ℕ

-- the number of a name: that of the node that has it, or the next number
unfoldable pub number_of : List ℕ → List Span → Span → ℕ
number_of text names s = first (length names) (λ k. same (part text (span_at names k)) (part text s))

-- Vdd, so spelt, is power and Gnd ground; others are normal
unfoldable pub kind_of : List ℕ → ℕ
kind_of name = cond (same name (bytes "Vdd")) power (cond (same name (bytes "Gnd")) ground 0)

-- the nodes, with one for the name s if there is none yet
unfoldable pub named : List ℕ → Nodes → Span → Nodes
named text m s =
    cond (ltb (number_of text m.names s) (length m.names)) m
    (record { names = m.names ++ s ∷ []; kinds = m.kinds ++ kind_of (part text s) ∷ [] })

abbrev pub type_number : DeviceType → ℕ
type_number N = 0
type_number P = 1
type_number D = 2

abbrev pub rail : ℕ → Bool
rail kind = eqb kind ground || eqb kind power

-- a d device with one end at Vdd and its gate at the other end, that end neither rail
unfoldable pub pulls : DeviceType → ℕ → ℕ → ℕ → List ℕ → Bool
pulls N g s d kinds = false
pulls P g s d kinds = false
pulls D g s d kinds = (eqb (at kinds s) power && eqb g d || eqb (at kinds d) power && eqb g s) && not (rail (at kinds g))

-- a device between the nodes g, s and d: it makes g, the end that it pulls, a pullup and is no transistor; or it is one more transistor
unfoldable pub joined : DeviceType → ℕ → ℕ → ℕ → Net → Net
joined t g s d net =
    cond (pulls t g s d net.kinds)
    (net_of (set net.kinds g 1) net.types net.gates net.sources net.drains)
    (net_of net.kinds (net.types ++ type_number t ∷ []) (net.gates ++ g ∷ []) (net.sources ++ s ∷ []) (net.drains ++ d ∷ []))

-- what was read: a network, and where the name of each node first appears
pub record Netlist : Type 0 where
  pub names : List Span
  pub net : Net

abbrev pub nodes_of : Netlist → Nodes
nodes_of m = record { names = m.names; kinds = m.net.kinds }

abbrev pub nothing : Netlist
nothing = record { names = []; net = alone [] }

-- a device: its gate is numbered before its source before its drain
unfoldable pub device : List ℕ → DeviceType → Names → Netlist → Netlist
device text t ns m =
    let b = named text (nodes_of m) ns.gate in
    let c = named text b ns.source in
    let r = named text c ns.drain in
    record {
      names = r.names;
      net =
          joined t (number_of text m.names ns.gate) (number_of text b.names ns.source) (number_of text c.names ns.drain)
          (net_of r.kinds m.net.types m.net.gates m.net.sources m.net.drains);
    }

-- what a line adds
unfoldable pub added : List ℕ → Line → Netlist → Netlist
added text (Device t ns) m = device text t ns m
added text Skip m = m
added text Bad m = m

abbrev pub bad : Line → Bool
bad (Device t ns) = false
bad Skip = false
bad Bad = true

-- a line offends that is bad, or with which there are more than n nodes or more than t transistors
unfoldable pub offends : ℕ → ℕ → Line → Netlist → Bool
offends n t l m = bad l || (ltb n (length m.names) || ltb t (transistors m.net))

-- a text is taken, or refused at its first line that offends, counted from 0
pub data Reading : Type 0 where
  taken : Netlist → Reading
  refused : ℕ → Reading

-- the lines that start at these places read on, the first of them being line k, with m read before
unfoldable pub read_on : List ℕ → ℕ → ℕ → ℕ → Netlist → List ℕ → Reading
read_on text n t k m [] = taken m
read_on text n t k m (i ∷ starts) =
    let l = line_at text i in
    let r = added text l m in
    cond (offends n t l r) (refused k) (read_on text n t (suc k) r starts)

-- the reading of a text with room for n nodes and t transistors
unfoldable pub reading : List ℕ → ℕ → ℕ → Reading
reading text n t = read_on text n t 0 nothing (line_starts text)

-- What was read of a text so far, as it stands in tables with room: the front of each, up to the counts. Assumes nothing.
use Rattle.std.specs.Prelude.{ℕ, ◌≤◌, ◌≡◌, List, length, take}
use Rattle.model.specs.Net.{Net, net_of, nodes, transistors}
use Rattle.text.specs.Netlist.{Nodes, Netlist}
use Rattle.names.specs.Known.{Known}

pub record SoFar : Type 0 where
  pub text : List ℕ
  pub list : Netlist

abbrev pub so_far : List ℕ → Netlist → SoFar
so_far text list = record { text = text; list = list }

-- the fronts of the tables
abbrev pub net_at : ℕ → ℕ → Net → Net
net_at n t net = net_of (take n net.kinds) (take t net.types) (take t net.gates) (take t net.sources) (take t net.drains)

-- by the names that are known, the tables and the number of transistors
abbrev pub in_tables : Known → Net → ℕ → SoFar
in_tables k net t = so_far k.text (record { names = k.names; net = net_at (length k.names) t net })

-- the tables have room for the most nodes and transistors, and for one device more
pub record Roomed (k : Known) (net : Net) (t : ℕ) : Type 0 where
  pub kinds_long : length net.kinds ≡ 4099
  pub types_long : length net.types ≡ 8193
  pub gates_long : length net.gates ≡ 8193
  pub sources_long : length net.sources ≡ 8193
  pub drains_long : length net.drains ≡ 8193
  pub few_nodes : length k.names ≤ 4099
  pub few_transistors : t ≤ 8193

-- with another network; with other nodes
abbrev pub with_net : SoFar → Net → SoFar
with_net r net = so_far r.text (record { names = r.list.names; net = net })

abbrev pub with_nodes : SoFar → Nodes → SoFar
with_nodes r m =
    let net = r.list.net in
    so_far r.text (record { names = m.names; net = net_of m.kinds net.types net.gates net.sources net.drains })

-- each node has a kind, each transistor a gate, a source and a drain
pub record Level (m : Netlist) : Type 0 where
  pub kinds : nodes m.net ≡ length m.names
  pub gates : length m.net.gates ≡ transistors m.net
  pub sources : length m.net.sources ≡ transistors m.net
  pub drains : length m.net.drains ≡ transistors m.net

-- What may be relied on of tables that are lent, once they were accepted. Assumes nothing.
use Rattle.std.specs.Prelude.{ℕ, ◌≤◌, ◌<◌, ◌≡◌, List, length}
use Rattle.model.specs.Bounds.{most_nodes, most_transistors, most_changes, highest_kind, highest_type, highest_state}
use Rattle.model.specs.Places.{at}
use Rattle.model.specs.Net.{Net, nodes, transistors}
use Rattle.model.specs.Run.{Changes}
use Rattle.model.specs.Rules.{cells}

-- the four transistor tables are of equal length
pub record Level (net : Net) : Type 0 where
  pub gates_level : length net.gates ≡ transistors net
  pub sources_level : length net.sources ≡ transistors net
  pub drains_level : length net.drains ≡ transistors net

-- a network within the bounds
pub record Sized (net : Net) : Type 0 where
  pub some_nodes : 1 ≤ nodes net
  pub few_nodes : nodes net ≤ most_nodes
  pub few_transistors : transistors net ≤ most_transistors
  pub level : Level net

-- changes within the bounds
pub record SizedChanges (ch : Changes) : Type 0 where
  pub values_level : length ch.values ≡ length ch.places
  pub few_changes : length ch.places ≤ most_changes

-- a network that is accepted
pub record Sound (net : Net) : Type 0 where
  pub sized : Sized net
  pub kind_is : (v : ℕ) → v < nodes net → at net.kinds v ≤ highest_kind
  pub type_is : (t : ℕ) → t < transistors net → at net.types t ≤ highest_type
  pub gate_is : (t : ℕ) → t < transistors net → at net.gates t < nodes net
  pub source_is : (t : ℕ) → t < transistors net → at net.sources t < nodes net
  pub drain_is : (t : ℕ) → t < transistors net → at net.drains t < nodes net

-- with states and a work area for it
pub record Fit (net : Net) (s w : List ℕ) : Type 0 where
  pub sound : Sound net
  pub states_level : length s ≡ nodes net
  pub state_is : (v : ℕ) → v < nodes net → at s v ≤ highest_state
  pub room : cells net ≤ length w

-- the three nodes that a transistor names are there
pub record Wired (net : Net) (t : ℕ) : Type 0 where
  pub gate : at net.gates t < nodes net
  pub source : at net.sources t < nodes net
  pub drain : at net.drains t < nodes net

-- what a step asks for: tables that fit one another and the bounds, whatever the states are, and room enough in the work area
pub record Checked (net : Net) (s : List ℕ) (room : ℕ) : Type 0 where
  pub states : length s ≡ nodes net
  pub gates : length net.gates ≡ transistors net
  pub sources : length net.sources ≡ transistors net
  pub drains : length net.drains ≡ transistors net
  pub wired : (t : ℕ) → t < transistors net → Wired net t
  pub kinds : (v : ℕ) → v < nodes net → at net.kinds v ≤ highest_kind
  pub few_nodes : nodes net ≤ most_nodes
  pub few_transistors : transistors net ≤ most_transistors
  pub fits : cells net ≤ room

-- what entering the changes asks for: a state for each entry, and entries that name nodes below n
pub record Named (ch : Changes) (n : ℕ) : Type 0 where
  pub lengths : length ch.values ≡ length ch.places
  pub below : (e : ℕ) → e < length ch.places → at ch.places e < n

-- no node is named twice
abbrev pub Once : Changes → Type 0
Once ch = (k e : ℕ) → k < e → e < length ch.places → at ch.places k ≡ at ch.places e → ⊥

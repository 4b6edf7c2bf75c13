-- What each part of one look at a transistor leaves. Assumes nothing.
use Rattle.std.specs.Prelude.{ℕ, ◌+◌, ◌*◌, ◌≤◌, ◌<◌, ◌≡◌, Bool, true, false, not, cond, List, [], ◌∷◌, length, set}
use Rattle.model.specs.Bounds.{most_nodes, most_transistors}
use Rattle.model.specs.Places.{at}
use Rattle.model.specs.Net as net
use Rattle.model.specs.Net.{Net, opened, closed, unknown, alone, input_kind, inputs, source_state, stand_at}
use Rattle.model.specs.Ways.{choose}
use Rattle.model.specs.RuleOne.{own_strength}
use Rattle.branches.specs.Code.{telling, mark_of, together}
use Rattle.layout.specs.declared.Stand.{Stand}
use Rattle.layout.specs.declared.Stand.TheVariants.{Open, Closed, Unknown}

-- how a transistor stands, in the definitions' words
abbrev pub meant : Stand → net.Stand
meant Open = opened
meant Closed = closed
meant Unknown = unknown

-- whether one that is not open may be so
abbrev pub unsure : Stand → Bool
unsure Open = false
unsure Closed = false
unsure Unknown = true

-- what the cell of a node of this kind, in this state, tells before any transistor: the node alone is its source; 0 for an input
unfoldable pub source_of : ℕ → ℕ → ℕ
source_of kind state =
    let node = alone (kind ∷ []) in
    cond (input_kind kind) 0 (telling (own_strength node 0) (mark_of (source_state node (state ∷ []) 0)))

abbrev pub source_at : List ℕ → List ℕ → ℕ → ℕ
source_at kinds s v = source_of (at kinds v) (at s v)

-- the cell at `place` tells of the sources of x too
unfoldable pub gave : ℕ → ℕ → List ℕ → List ℕ
gave place x w = set w place (together (at w place) x)

-- an input at the state x brings it to v, where n nodes are, through a transistor that is closed or unknown
abbrev pub brought : Bool → ℕ → ℕ → ℕ → List ℕ → List ℕ
brought unsure n v x w = gave (cond unsure v (n + v)) (telling 3 (mark_of x)) w

-- how the lists name branch h
abbrev pub entry_of : ℕ → Bool → ℕ
entry_of h unsure = 2 * h + 2 + cond unsure 1 0

-- branch h put before the list of node v, where n nodes are
unfoldable pub pushed : ℕ → ℕ → ℕ → Bool → List ℕ → List ℕ
pushed n v h unsure w = set (set w (4 * n + h) (at w (3 * n + v))) (3 * n + v) (entry_of h unsure)

-- the ends of transistor t are nodes, and there is room for its branches
pub record Seated (kinds s sources drains : List ℕ) (t room : ℕ) : Type 0 where
  pub states : length s ≡ length kinds
  pub in_sources : t < length sources
  pub in_drains : t < length drains
  pub source : at sources t < length kinds
  pub drain : at drains t < length kinds
  pub few_nodes : length kinds ≤ most_nodes
  pub few_transistors : t < most_transistors
  pub fits : 4 * length kinds + 2 * t + 2 ≤ room

-- transistor t, which is not open and has the ends a and b, is between two inputs, between an input and another node, or between other nodes
pub data LaidOne (kinds s : List ℕ) (a b t : ℕ) (unsure : Bool) (w w' : List ℕ) : Type 0 where
  apart : inputs kinds a ≡ true → inputs kinds b ≡ true → w' ≡ w → LaidOne kinds s a b t unsure w w'
  down : inputs kinds a ≡ true → inputs kinds b ≡ false → w' ≡ brought unsure (length kinds) b (at s a) w → LaidOne kinds s a b t unsure w w'
  up : inputs kinds a ≡ false → inputs kinds b ≡ true → w' ≡ brought unsure (length kinds) a (at s b) w → LaidOne kinds s a b t unsure w w'
  inner : inputs kinds a ≡ false → inputs kinds b ≡ false → w' ≡ pushed (length kinds) b (2 * t + 1) unsure (pushed (length kinds) a (2 * t) unsure w)
      → LaidOne kinds s a b t unsure w w'

-- transistor t, if it is not open
pub data LaidNext (net : Net) (s : List ℕ) (t : ℕ) (w w' : List ℕ) : Type 0 where
  off : choose (stand_at net s t) true ≡ false → w' ≡ w → LaidNext net s t w w'
  on : (unsure : Bool) → choose (stand_at net s t) true ≡ true → unsure ≡ not (choose (stand_at net s t) false)
      → LaidOne net.kinds s (at net.sources t) (at net.drains t) t unsure w w' → LaidNext net s t w w'

-- One look at each transistor: inputs give at once, in cells that tell of sources, and what is not open between other nodes is listed. Assumes nothing.
use Rattle.std.specs.Prelude.{ℕ, ◌+◌, ◌*◌, ◌/◌, ◌≤◌, ◌<◌, ◌≡◌, Bool, true, false, not, ◌&&◌, List}
use Rattle.model.specs.Places.{at}
use Rattle.model.specs.Net.{Net, nodes, is_input, inputs, stand_at, source_state}
use Rattle.model.specs.Rules.{cells}
use Rattle.model.specs.Ways.{Inside, Joins, choose}
use Rattle.model.specs.RuleOne.{frame}
use Rattle.branches.specs.Branch.{Wires, end_of, Linked}
use Rattle.branches.specs.Code.{telling, unlike}

-- the transistor t is closed, or unknown
abbrev pub shut : Net → List ℕ → ℕ → Bool
shut net s t = choose (stand_at net s t) false

abbrev pub doubtful : Net → List ℕ → ℕ → Bool
doubtful net s t = choose (stand_at net s t) true && not (choose (stand_at net s t) false)

-- the branches of transistors that are not open and have no input at either end
abbrev pub wires : Net → List ℕ → List ℕ → Wires
wires net s ceilings =
    record {
      size = nodes net;
      sources = net.sources;
      drains = net.drains;
      ceilings = ceilings;
      listed = λ h. choose (stand_at net s (h / 2)) true && (not (inputs net.kinds (end_of net.sources net.drains h)) && not (inputs net.kinds (end_of net.drains net.sources h)));
      unsure = λ h. doubtful net s (h / 2);
    }

module _ (net : Net) (s : List ℕ) where
  -- an input at the state x is behind one of the transistors below `upto` at v that `ok` marks
  pub data Behind (ok : ℕ → Bool) (upto v x : ℕ) : Type 0 where
    behind : (t w : ℕ) → t < upto → Joins (frame net) t v w → w < nodes net → is_input net w ≡ true → ok t ≡ true → x ≡ source_state net s w → Behind ok upto v x

  -- a source at v of the strength k and the state x: the node itself, or an input behind a closed transistor below `upto`
  pub data Source (upto v k x : ℕ) : Type 0 where
    itself : k ≡ (frame net).own v → x ≡ source_state net s v → Source upto v k x
    given : k ≡ 3 → Behind (shut net s) upto v x → Source upto v k x

-- the cell c tells of the sources that P marks, by strength and state: how strong the strongest are, and at what states
pub record Tells (P : ℕ → ℕ → Type 0) (c : ℕ) : Type 0 where
  pub k : ℕ
  pub m : ℕ
  pub is : c ≡ telling k m
  pub strength : (1 ≤ k) × (k ≤ 3)
  pub marked : (1 ≤ m) × (m ≤ 3)
  pub most : (j x : ℕ) → P j x → j ≤ k
  pub there : (b : ℕ) → b ≤ 1 → unlike b m ≡ true → (x : ℕ) × P k x × (x ≡ b → ⊥)
  pub all : (b x : ℕ) → b ≤ 1 → P k x → (x ≡ b → ⊥) → unlike b m ≡ true

module _ (net : Net) (s : List ℕ) where
  -- u is 0 where no input is behind an unknown transistor below `upto` at v, else it tells of these inputs
  pub data Offered (upto v u : ℕ) : Type 0 where
    nothing : u ≡ 0 → ((x : ℕ) → Behind net s (doubtful net s) upto v x → ⊥) → Offered upto v u
    something : Tells (λ k x. (k ≡ 3) × Behind net s (doubtful net s) upto v x) u → Offered upto v u

  -- after the transistors below `upto`: what each node's cells tell, and the lists; inputs have 0, and the cells past the network's are as they came
  pub record LaidOut (upto : ℕ) (w w' : List ℕ) : Type 0 where
    pub sources : (v : ℕ) → Inside (frame net) v → Tells (Source net s upto v) (at w' (nodes net + v))
    pub offers : (v : ℕ) → Inside (frame net) v → Offered upto v (at w' v)
    pub inputs : (v : ℕ) → v < nodes net → is_input net v ≡ true → (at w' (nodes net + v) ≡ 0) × (at w' v ≡ 0)
    pub linked : (ceilings : List ℕ) → Linked (wires net s ceilings) (2 * upto) w'
    pub after : (j : ℕ) → cells net ≤ j → at w' j ≡ at w j

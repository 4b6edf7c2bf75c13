-- A network, how its transistors stand, and one unit step: the rule of the step, as functions that compute on any tables. Assumes nothing.
use Rattle.std.specs.Prelude.{ℕ, zero, suc, Bool, true, false, not, cond, ◌&&◌, ◌||◌, List, [], ◌∷◌, length, get_or, eqb, ltb}
use Rattle.model.specs.Places.{tab, iter, every, some, most, imp, at}

-- the tables: a kind for each node; a type, a gate, a source and a drain for each transistor
pub record Net : Type 0 where
  pub kinds : List ℕ
  pub types : List ℕ
  pub gates : List ℕ
  pub sources : List ℕ
  pub drains : List ℕ

-- the lent tables as a network
abbrev pub net_of : List ℕ → List ℕ → List ℕ → List ℕ → List ℕ → Net
net_of kinds types gates sources drains = record { kinds = kinds; types = types; gates = gates; sources = sources; drains = drains }

-- the nodes alone, with no transistor: what a node is by itself
abbrev pub alone : List ℕ → Net
alone kinds = net_of kinds [] [] [] []

abbrev pub nodes : Net → ℕ
nodes net = length net.kinds

abbrev pub transistors : Net → ℕ
transistors net = length net.types

-- the kinds of the rails: inputs that come up with a state of their own
abbrev pub ground : ℕ
ground = 3

abbrev pub power : ℕ
power = 4

-- the one place that says which kinds are inputs: 2 and both rails, and so all from 2 on, since KIND refuses what is above power
abbrev pub input_kind : ℕ → Bool
input_kind kind = ltb 1 kind

-- by the kinds alone
abbrev pub inputs : List ℕ → ℕ → Bool
inputs kinds v = input_kind (at kinds v)

abbrev pub is_input : Net → ℕ → Bool
is_input net v = inputs net.kinds v

abbrev pub is_pullup : Net → ℕ → Bool
is_pullup net v = eqb (at net.kinds v) 1

-- how a transistor stands
pub data Stand : Type 0 where
  opened closed unknown : Stand

-- by its type and its gate's state
abbrev pub stand : ℕ → ℕ → Stand
stand zero zero = opened
stand zero (suc zero) = closed
stand zero (suc (suc x)) = unknown
stand (suc zero) zero = closed
stand (suc zero) (suc zero) = opened
stand (suc zero) (suc (suc x)) = unknown
stand (suc (suc d)) g = closed

abbrev pub stand_at : Net → List ℕ → ℕ → Stand
stand_at net s t = stand (at net.types t) (at s (at net.gates t))

unfoldable pub stands : Net → List ℕ → List Stand
stands net s = tab (transistors net) (stand_at net s)

-- the test passes for every choice of open (false) or closed (true) for the unknown transistors
abbrev pub every_choice : List Stand → (List Bool → Bool) → Bool
every_choice [] p = p []
every_choice (opened ∷ r) p = every_choice r (λ c. p (false ∷ c))
every_choice (closed ∷ r) p = every_choice r (λ c. p (true ∷ c))
every_choice (unknown ∷ r) p = every_choice r (λ c. p (false ∷ c)) && every_choice r (λ c. p (true ∷ c))

-- under the choice c a closed transistor links w to a member of m
unfoldable pub linked : Net → List Bool → List Bool → ℕ → Bool
linked net c m w =
    some (transistors net) (λ t. get_or c t false && (eqb (at net.sources t) w && get_or m (at net.drains t) false || eqb (at net.drains t) w && get_or m (at net.sources t) false))

-- the members of m, with the nodes that are no inputs and are linked to one
unfoldable pub spread : Net → List Bool → List Bool → List Bool
spread net c m = tab (nodes net) (λ w. get_or m w false || not (is_input net w) && linked net c m w)

-- the joined set of v: no chain is longer than there are nodes
unfoldable pub joined : Net → List Bool → ℕ → List Bool
joined net c v = iter (nodes net) (spread net c) (tab (nodes net) (λ w. eqb w v))

-- as a source of the set m: 3 for an input that touches it, 2 for a pullup node of it, 1 for a normal node of it; 0: i is no source of it
unfoldable pub strength : Net → List Bool → List Bool → ℕ → ℕ
strength net c m i = cond (is_input net i) (cond (linked net c m i) 3 0) (cond (get_or m i false) (cond (is_pullup net i) 2 1) 0)

-- the state of a source: a pullup's is 1, whatever it stores
abbrev pub source_state : Net → List ℕ → ℕ → ℕ
source_state net s i = cond (is_pullup net i) 1 (at s i)

-- 0 if all are 0, 1 if all are 1, otherwise X
abbrev pub agreed : (ℕ → Bool) → ℕ
agreed all = cond (all 0) 0 (cond (all 1) 1 2)

-- the state of the set m: its strongest sources alone count
unfoldable pub set_state : Net → List ℕ → List Bool → List Bool → ℕ
set_state net s c m =
    let top = most (nodes net) (strength net c m) in
    agreed (λ b. every (nodes net) (λ i. imp (eqb (strength net c m i) top) (eqb (source_state net s i) b)))

-- the new state of the node v: what every choice gives it
unfoldable pub new : Net → List ℕ → ℕ → ℕ
new net s v = agreed (λ b. every_choice (stands net s) (λ c. eqb (set_state net s c (joined net c v)) b))

-- one unit step: all new states from the same old ones, inputs as they are
unfoldable pub step : Net → List ℕ → List ℕ
step net s = tab (nodes net) (λ v. cond (is_input net v) (at s v) (new net s v))

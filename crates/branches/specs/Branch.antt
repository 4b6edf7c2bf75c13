-- Branches: each transistor seen from either of its ends. The lists of the branches at each node. Assumes nothing.
use Rattle.std.specs.Prelude.{ℕ, zero, suc, min, ◌+◌, ◌*◌, ◌/◌, ◌%◌, ◌≤◌, ◌<◌, ◌≡◌, Bool, true, not, cond, ◌&&◌, ◌||◌, List, length, get_or, eqb}
use Rattle.model.specs.Places.{at}

-- the sum of f over the numbers below n
unfoldable pub total : (ℕ → ℕ) → ℕ → ℕ
total f zero = 0
total f (suc n) = total f n + f n

-- f summed over the first t nodes of a queue that starts at q
abbrev pub prefix : (ℕ → ℕ) → List ℕ → ℕ → ℕ → ℕ
prefix f w q t = total (λ j. f (at w (q + j))) t

-- branch 2t starts at the source of transistor t and leads to its drain, branch 2t + 1 the other way round.
-- Where a branch starts, by the tables of sources and drains; with the two changed over, where it leads
unfoldable pub end_of : List ℕ → List ℕ → ℕ → ℕ
end_of A B h = cond (eqb (h % 2) 0) (at A (h / 2)) (at B (h / 2))

-- the most that a transistor lets pass: all that there is, 3, where no ceiling is lent
unfoldable pub ceiling_of : List ℕ → ℕ → ℕ
ceiling_of ceilings t = get_or ceilings t 3

-- what strengths spread along: how many nodes there are, the ends of the transistors and their ceilings, which branches are in the lists, and which of
-- these are unsure, for their transistor is unknown
pub record Wires : Type 0 where
  pub size : ℕ
  pub sources : List ℕ
  pub drains : List ℕ
  pub ceilings : List ℕ
  pub listed : ℕ → Bool
  pub unsure : ℕ → Bool

module _ (G : Wires) where
  -- where a branch starts, and where it leads
  abbrev pub near : ℕ → ℕ
  near h = end_of G.sources G.drains h

  abbrev pub far : ℕ → ℕ
  far h = end_of G.drains G.sources h

  abbrev pub branches : ℕ
  branches = 2 * length G.sources

  -- the branches that are followed: all that are listed, or the sure ones alone
  abbrev pub followed : Bool → ℕ → Bool
  followed all h = G.listed h && (all || not (G.unsure h))

  -- what branch h brings of the strength s
  abbrev pub amount : ℕ → ℕ → ℕ
  amount s h = min s (ceiling_of G.ceilings (h / 2))

  -- how many of the listed branches below h start at v
  unfoldable pub degree : ℕ → ℕ → ℕ
  degree v zero = 0
  degree v (suc h) = degree v h + cond (eqb (near h) v && G.listed h) 1 0

  abbrev pub degrees : ℕ → ℕ
  degrees v = degree v branches

  -- the other branch of the same transistor
  pub record Mirror (h g : ℕ) : Type 0 where
    pub there : g < branches
    pub back : near g ≡ far h
    pub home : far g ≡ near h
    pub listed : G.listed g ≡ true
    pub unsure : G.unsure g ≡ G.unsure h

  -- wires that name nodes, within the bounds, in a work area with room for four tables and the lists
  pub record Laid (room : ℕ) : Type 0 where
    pub drains : length G.drains ≡ length G.sources
    pub nears : (h : ℕ) → h < branches → near h < G.size
    pub fars : (h : ℕ) → h < branches → far h < G.size
    pub mirrors : (h : ℕ) → h < branches → G.listed h ≡ true → (g : ℕ) × Mirror h g
    pub few_nodes : G.size ≤ 4096
    pub few_transistors : length G.sources ≤ 8192
    pub fits : 4 * G.size + branches ≤ room

  -- how the lists name branch h
  abbrev pub entry : ℕ → ℕ
  entry h = 2 * h + 2 + cond (G.unsure h) 1 0

  -- e is 0 where no listed branch below `upto` starts at v, else the entry of the last of them
  pub data Last (v upto e : ℕ) : Type 0 where
    none : e ≡ 0 → ((g : ℕ) → g < upto → near g ≡ v → G.listed g ≡ true → ⊥) → Last v upto e
    some : (h : ℕ) → e ≡ entry h → h < upto → near h ≡ v → G.listed h ≡ true → ((g : ℕ) → h < g → g < upto → near g ≡ v → G.listed g ≡ true → ⊥) → Last v upto e

  -- the cells from 3n on hold the last branch of each node, those from 4n on the one before each at the same node: as far as branches below `upto` go
  pub record Linked (upto : ℕ) (w : List ℕ) : Type 0 where
    pub first : (v : ℕ) → v < G.size → Last v upto (at w (3 * G.size + v))
    pub next : (h : ℕ) → h < upto → G.listed h ≡ true → Last (near h) h (at w (4 * G.size + h))

-- the wires over given tables, for lists of any branches
abbrev pub wires_by : ℕ → List ℕ → List ℕ → List ℕ → (ℕ → Bool) → (ℕ → Bool) → Wires
wires_by n sources drains ceilings listed unsure =
    record { size = n; sources = sources; drains = drains; ceilings = ceilings; listed = listed; unsure = unsure }

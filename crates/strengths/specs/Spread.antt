-- One table of the work area whose strengths spread along branches, one level after the other, among some of the nodes. Assumes nothing.
-- A node's cell is 2k + 1 where it has the strength k, and 2k where it has none and nothing up to k may come to it.
use Rattle.std.specs.Prelude.{ℕ, ◌+◌, ◌*◌, ◌≤◌, ◌<◌, ◌≡◌, ◌⊎◌, Bool, true, Option, None, Some, List, length}
use Rattle.model.specs.Places.{at}
use Rattle.branches.specs.Branch.{Wires, near, far, branches, followed, amount, Laid, Linked, wires_by}
use Rattle.strengths.specs.declared.Spread.{Spread}

-- the table whose first cell is `table`: what it has at node v
abbrev pub cell : List ℕ → ℕ → ℕ → ℕ
cell w table v = at w (table + v)

-- the k-th of the nodes that take part: node k where they have no list, else by the list that begins at the cell `first`
abbrev pub member_at : Option ℕ → List ℕ → ℕ → ℕ
member_at None w k = k
member_at (Some first) w k = at w (first + k)

-- if there is a list, it has a k-th cell
abbrev pub HasMember : Option ℕ → ℕ → List ℕ → Type 0
HasMember None k w = Unit {0}
HasMember (Some first) k w = (first + k < length w) × (first + k < 65535)

-- a list of m nodes lies behind two tables of n cells, apart from the queue
abbrev pub Apart : Option ℕ → (n m queue room : ℕ) → Type 0
Apart None n m queue room = Unit {0}
Apart (Some first) n m queue room = (2 * n ≤ first) × (first + m ≤ room) × (first + m ≤ 65535) × ((first + m ≤ queue) ⊎ (queue + m ≤ first))

module _ (G : Wires) where
  -- m nodes take part, none twice, and no listed branch leads from them to others; the queue and their list lie behind two tables, apart from one another
  -- and from the lists of branches
  pub record Part (order : Option ℕ) (m queue : ℕ) (w : List ℕ) : Type 0 where
    pub nodes : (k : ℕ) → k < m → member_at order w k < G.size
    pub once : (j k : ℕ) → j < k → k < m → member_at order w j ≡ member_at order w k → ⊥
    pub closed : (k h : ℕ) → k < m → h < branches G → G.listed h ≡ true → near G h ≡ member_at order w k → (j : ℕ) × (j < m) × (member_at order w j ≡ far G h)
    pub behind : 2 * G.size ≤ queue
    pub fits : queue + m ≤ 3 * G.size
    pub apart : Apart order G.size m queue (length w)

  -- lists of branches, in which the strengths of the table at `table` may spread among the nodes that take part
  pub record Ready (table : ℕ) (order : Option ℕ) (m queue : ℕ) (w : List ℕ) : Type 0 where
    pub laid : Laid G (length w)
    pub linked : Linked G (branches G) w
    pub place : table ≤ G.size
    pub part : Part order m queue w

  -- what came to a node from the cells x, where `all` says whether unsure branches are followed: it was there, or came along a branch to where more was wanting
  pub data Rose (all : Bool) (x : ℕ → ℕ) : ℕ → ℕ → Type 0 where
    began : (v : ℕ) → v < G.size → Rose all x v (x v)
    over : (k h : ℕ) → Rose all x (near G h) (2 * k + 1) → h < branches G → followed G all h ≡ true → x (far G h) < 2 * amount G k h → Rose all x (far G h) (2 * amount G k h + 1)

  -- w' is w with all strengths above `last` spread in the table at `table`, among the nodes that take part; all other cells but the queue's stay
  pub record Filled (all : Bool) (table : ℕ) (order : Option ℕ) (m queue last : ℕ) (w w' : List ℕ) : Type 0 where
    pub other : (j : ℕ) → (j < table) ⊎ (table + G.size ≤ j) → (j < queue) ⊎ (queue + m ≤ j) → at w' j ≡ at w j
    pub apart : (v : ℕ) → v < G.size → ((k : ℕ) → k < m → member_at order w k ≡ v → ⊥) → cell w' table v ≡ cell w table v
    pub above : (v : ℕ) → v < G.size → cell w table v ≤ cell w' table v
    pub sound : (v : ℕ) → v < G.size → Rose all (cell w table) v (cell w' table v)
    pub shut : (j k h : ℕ) → j < m → last < k → h < branches G → followed G all h ≡ true → near G h ≡ member_at order w j → cell w' table (near G h) ≡ 2 * k + 1
        → 2 * amount G k h ≤ cell w' table (far G h)

-- what the caller of `spread_all` brings, and what it gets: of any branches that fit the lists
module _ (S : Spread) where
  abbrev pub wires_of : (ℕ → Bool) → (ℕ → Bool) → Wires
  wires_of = wires_by S.wiring.nodes S.wiring.sources.now S.wiring.drains.now S.ceilings.now

  abbrev pub Told : (last top : ℕ) → List ℕ → Type 0
  Told last top w =
      (listed : ℕ → Bool) × (unsure : ℕ → Bool) × Ready (wires_of listed unsure) S.table S.order S.members S.queue w
      × ((k : ℕ) → k < S.members → cell w S.table (member_at S.order w k) ≤ 2 * top + 1) × (last ≤ top) × (top ≤ 255)

  abbrev pub FilledAny : ℕ → List ℕ → List ℕ → Type 0
  FilledAny last w w' =
      (listed unsure : ℕ → Bool) → Ready (wires_of listed unsure) S.table S.order S.members S.queue w
      → Filled (wires_of listed unsure) S.all S.table S.order S.members S.queue last w w'

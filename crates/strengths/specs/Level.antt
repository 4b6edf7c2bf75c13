-- One strength that spreads: what a visit to a branch does, what the visits of one node's branches do, and those of all nodes that have it. Assumes nothing.
use Rattle.std.specs.Prelude.{ℕ, min, ◌+◌, ◌*◌, ◌-◌, ◌/◌, ◌%◌, ◌≤◌, ◌<◌, ◌≡◌, ◌⊎◌, Bool, true, false, cond, ◌||◌, Option, List, length, set, eqb}
use Rattle.model.specs.Places.{at}
use Rattle.branches.specs.Branch.{total, prefix, Wires, end_of, ceiling_of, near, far, branches, followed, amount, degrees, Laid, Linked}
use Rattle.strengths.specs.declared.Spread.{Spread}
use Rattle.strengths.specs.Spread.{cell, member_at, Rose, Ready, wires_of}

-- f v where the table has c at v, and 0 elsewhere
abbrev pub share : (ℕ → ℕ) → List ℕ → ℕ → ℕ → ℕ → ℕ
share f w table c v = cond (eqb (cell w table v) c) (f v) 0

-- f summed over those of the m nodes mem 0, mem 1, .. at which the table has c
abbrev pub weigh : (ℕ → ℕ) → (ℕ → ℕ) → ℕ → List ℕ → ℕ → ℕ → ℕ
weigh f mem m w table c = total (λ k. share f w table c (mem k)) m

-- branch h may be visited: where it leads has a cell, and the queue has room if that node is put there
pub record Visitable (S : Spread) (s h : ℕ) (w : List ℕ) (tail : ℕ) : Type 0 where
  pub ends : length S.wiring.drains.now ≡ length S.wiring.sources.now
  pub there : h < 2 * length S.wiring.sources.now
  pub few : end_of S.wiring.drains.now S.wiring.sources.now h < 4096
  pub place : S.table ≤ 4096
  pub known : S.table + end_of S.wiring.drains.now S.wiring.sources.now h < length w
  pub strength : s ≤ 255
  pub room : at w (S.table + end_of S.wiring.drains.now S.wiring.sources.now h) < 2 * s → (S.queue + tail < length w) × (S.queue + tail < 12288)

-- x is brought to node b: nothing more than is there, or less than s, or s, and then b is put at the queue's end
pub data Visited (table queue s b x : ℕ) (w : List ℕ) (tail : ℕ) : List ℕ → ℕ → Type 0 where
  still : 2 * x ≤ cell w table b → Visited table queue s b x w tail w tail
  less : x < s → cell w table b < 2 * x → Visited table queue s b x w tail (set w (table + b) (2 * x + 1)) tail
  whole : x ≡ s → cell w table b < 2 * s → Visited table queue s b x w tail (set (set w (table + b) (2 * s + 1)) (queue + tail) b) (tail + 1)

-- the entry e is followed or passed over
pub data Followed (S : Spread) (s e : ℕ) (w : List ℕ) (tail : ℕ) (w' : List ℕ) (t : ℕ) : Type 0 where
  passed : (S.all || eqb (e % 2) 0) ≡ false → w' ≡ w → t ≡ tail → Followed S s e w tail w' t
  went : (S.all || eqb (e % 2) 0) ≡ true
      → Visited S.table S.queue s (end_of S.wiring.drains.now S.wiring.sources.now (e / 2 - 1)) (min s (ceiling_of S.ceilings.now ((e / 2 - 1) / 2))) w tail w' t
      → Followed S s e w tail w' t

-- v is put at the queue's end if its cell is c
pub data Noted (table queue c v : ℕ) (w : List ℕ) (tail : ℕ) : List ℕ → ℕ → Type 0 where
  other : (cell w table v ≡ c → ⊥) → Noted table queue c v w tail w tail
  noted : cell w table v ≡ c → Noted table queue c v w tail (set w (queue + tail) v) (tail + 1)

-- the queue holds those of the first k nodes that take part whose cell is c
pub record Gathered (table : ℕ) (order : Option ℕ) (m queue c : ℕ) (w : List ℕ) (k : ℕ) (w' : List ℕ) (tail : ℕ) : Type 0 where
  pub long : length w' ≡ length w
  pub other : (j : ℕ) → (j < queue) ⊎ (queue + m ≤ j) → at w' j ≡ at w j
  pub sum : (f : ℕ → ℕ) → prefix f w' queue tail ≡ weigh f (member_at order w) k w table c
  pub queued : (j : ℕ) → j < tail → (i : ℕ) × (i < k) × (at w' (queue + j) ≡ member_at order w i) × (cell w table (member_at order w i) ≡ c)
  pub full : (i : ℕ) → i < k → cell w table (member_at order w i) ≡ c → (j : ℕ) × (j < tail) × (at w' (queue + j) ≡ member_at order w i)

module _ (G : Wires) where
  -- the lists and the nodes that take part while the strength s spreads: the queue is as long as there are nodes that have it
  pub record Held (mem : ℕ → ℕ) (m table queue s : ℕ) (w : List ℕ) (tail : ℕ) : Type 0 where
    pub laid : Laid G (length w)
    pub linked : Linked G (branches G) w
    pub place : table ≤ G.size
    pub nodes : (k : ℕ) → k < m → mem k < G.size
    pub once : (j k : ℕ) → j < k → k < m → mem j ≡ mem k → ⊥
    pub closed : (k h : ℕ) → k < m → h < branches G → G.listed h ≡ true → near G h ≡ mem k → (j : ℕ) × (j < m) × (mem j ≡ far G h)
    pub behind : 2 * G.size ≤ queue
    pub fits : queue + m ≤ 3 * G.size
    pub counted : tail ≡ weigh (λ v. 1) mem m w table (2 * s + 1)

  -- branch h has nothing to bring from a node of the strength s
  abbrev pub Done : ℕ → ℕ → List ℕ → ℕ → Type 0
  Done table s w h = 2 * amount G s h ≤ cell w table (far G h)

  module _ (all : Bool) where
    -- no branch that is followed and starts at a has anything to bring
    abbrev pub Expanded : ℕ → ℕ → List ℕ → ℕ → Type 0
    Expanded table s w a = (h : ℕ) → h < branches G → near G h ≡ a → followed G all h ≡ true → Done table s w h

    -- what visits did to w, whose queue ended at k: it is now w', and its queue ends at t
    pub record Moved (mem : ℕ → ℕ) (m table queue s : ℕ) (w : List ℕ) (k : ℕ) (w' : List ℕ) (t : ℕ) : Type 0 where
      pub long : length w' ≡ length w
      pub other : (j : ℕ) → (j < table) ⊎ (table + G.size ≤ j) → (j < queue) ⊎ (queue + m ≤ j) → at w' j ≡ at w j
      pub apart : (v : ℕ) → v < G.size → ((i : ℕ) → i < m → mem i ≡ v → ⊥) → cell w' table v ≡ cell w table v
      pub above : (v : ℕ) → v < G.size → cell w table v ≤ cell w' table v
      pub sound : (v : ℕ) → v < G.size → Rose G all (cell w table) v (cell w' table v)
      pub kept : (v : ℕ) → v < G.size → 2 * s + 1 < cell w' table v → cell w table v ≡ cell w' table v
      pub stays : (v : ℕ) → v < G.size → cell w table v ≡ 2 * s + 1 → cell w' table v ≡ 2 * s + 1
      pub more : k ≤ t
      pub old : (j : ℕ) → j < k → at w' (queue + j) ≡ at w (queue + j)
      pub sum : (f : ℕ → ℕ) → prefix f w queue k ≡ weigh f mem m w table (2 * s + 1) → prefix f w' queue t ≡ weigh f mem m w' table (2 * s + 1)
      pub fresh : (j : ℕ) → k ≤ j → j < t → (i : ℕ) × (i < m) × (at w' (queue + j) ≡ mem i) × (cell w' table (mem i) ≡ 2 * s + 1)
      pub came : (v : ℕ) → v < G.size → cell w' table v ≡ 2 * s + 1 → (cell w table v ≡ 2 * s + 1) ⊎ ((j : ℕ) × (k ≤ j) × (j < t) × (at w' (queue + j) ≡ v))

    -- all branches that start at a were visited
    pub record Fanned (mem : ℕ → ℕ) (m table queue s a : ℕ) (w : List ℕ) (k : ℕ) (w' : List ℕ) (t visits : ℕ) : Type 0 where
      pub moved : Moved mem m table queue s w k w' t
      pub expanded : Expanded table s w' a
      pub counted : visits ≡ degrees G a

    -- all branches that start at nodes of the queue were visited
    pub record Emptied (mem : ℕ → ℕ) (m table queue s : ℕ) (w : List ℕ) (k : ℕ) (w' : List ℕ) (t visits : ℕ) : Type 0 where
      pub moved : Moved mem m table queue s w k w' t
      pub expanded : (j : ℕ) → j < t → Expanded table s w' (at w' (queue + j))
      pub counted : visits ≡ prefix (degrees G) w' queue t

    -- the strength s has spread from w to w'
    pub record Level (table : ℕ) (order : Option ℕ) (m queue s : ℕ) (w w' : List ℕ) (visits : ℕ) : Type 0 where
      pub long : length w' ≡ length w
      pub other : (j : ℕ) → (j < table) ⊎ (table + G.size ≤ j) → (j < queue) ⊎ (queue + m ≤ j) → at w' j ≡ at w j
      pub apart : (v : ℕ) → v < G.size → ((i : ℕ) → i < m → member_at order w i ≡ v → ⊥) → cell w' table v ≡ cell w table v
      pub above : (v : ℕ) → v < G.size → cell w table v ≤ cell w' table v
      pub sound : (v : ℕ) → v < G.size → Rose G all (cell w table) v (cell w' table v)
      pub kept : (v : ℕ) → v < G.size → 2 * s + 1 < cell w' table v → cell w table v ≡ cell w' table v
      pub full : (i h : ℕ) → i < m → h < branches G → followed G all h ≡ true → near G h ≡ member_at order w i → cell w' table (near G h) ≡ 2 * s + 1 → Done table s w' h
      pub counted : visits ≡ weigh (degrees G) (member_at order w) m w' table (2 * s + 1)

-- lists and members that fit the work area w: with a node from which the strength s spreads, with a queue of such nodes, with none of these; and what
-- then holds, whichever lists and members these are
module _ (S : Spread) where
  pub record Fannable (s a : ℕ) (w : List ℕ) (tail : ℕ) : Type 0 where
    pub listed : ℕ → Bool
    pub unsure : ℕ → Bool
    pub mem : ℕ → ℕ
    pub m : ℕ
    pub held : Held (wires_of S listed unsure) mem m S.table S.queue s w tail
    pub place : ℕ
    pub inside : place < m
    pub member : mem place ≡ a
    pub strong : cell w S.table a ≡ 2 * s + 1

  abbrev pub FannedAny : (s a : ℕ) (w : List ℕ) (end : ℕ) (w' : List ℕ) (tail visits : ℕ) → Type 0
  FannedAny s a w end w' tail visits =
      (z : Fannable s a w end) → Fanned (wires_of S z.listed z.unsure) S.all z.mem z.m S.table S.queue s a w end w' tail visits

  pub record Waiting (s : ℕ) (w : List ℕ) (tail : ℕ) : Type 0 where
    pub listed : ℕ → Bool
    pub unsure : ℕ → Bool
    pub mem : ℕ → ℕ
    pub m : ℕ
    pub held : Held (wires_of S listed unsure) mem m S.table S.queue s w tail
    pub sum : (f : ℕ → ℕ) → prefix f w S.queue tail ≡ weigh f mem m w S.table (2 * s + 1)
    pub queued : (j : ℕ) → j < tail → (i : ℕ) × (i < m) × (at w (S.queue + j) ≡ mem i) × (cell w S.table (mem i) ≡ 2 * s + 1)

  abbrev pub EmptiedAny : (s : ℕ) (w : List ℕ) (end : ℕ) (w' : List ℕ) (tail visits : ℕ) → Type 0
  EmptiedAny s w end w' tail visits =
      (z : Waiting s w end) → Emptied (wires_of S z.listed z.unsure) S.all z.mem z.m S.table S.queue s w end w' tail visits

  pub record Spreadable (w : List ℕ) : Type 0 where
    pub listed : ℕ → Bool
    pub unsure : ℕ → Bool
    pub ready : Ready (wires_of S listed unsure) S.table S.order S.members S.queue w

  abbrev pub LevelAny : (s : ℕ) (w w' : List ℕ) (visits : ℕ) → Type 0
  LevelAny s w w' visits =
      (z : Spreadable w) → Level (wires_of S z.listed z.unsure) S.all S.table S.order S.members S.queue s w w' visits

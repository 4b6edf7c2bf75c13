-- What holds while nodes are parted into sets: which are taken, what is written at them, and how many branches were visited. Assumes nothing.
use Rattle.std.specs.Prelude.{ℕ, ◌+◌, ◌*◌, ◌-◌, ◌/◌, ◌≤◌, ◌<◌, ◌≡◌, Bool, true, false, cond, List, ◌⊎◌, length, ltb}
use Rattle.model.specs.Places.{at}
use Rattle.branches.specs.Branch.{total, prefix, Wires, near, far, branches, degrees, followed, end_of, Laid, Linked}
use Rattle.branches.specs.declared.Wiring.{Wiring}
use Rattle.branches.specs.Code.{least_telling, telling, mark, Within}
use Rattle.joined.specs.declared.Found.{Found}
use Rattle.joined.specs.declared.Parts.{Parts}
use Rattle.joined.specs.Sets.{Joined, Untaken, Startable, Sum, SetOf, wired}

-- the sum of f over the nodes below m that are taken; their cells start at q
abbrev pub spent : (ℕ → ℕ) → List ℕ → ℕ → ℕ → ℕ
spent f w q m = total (λ v. cond (ltb (at w (q + v)) least_telling) (f v) 0) m

-- the queue holds nodes that are taken, each once: so there is room for one that is not
pub record Room (n : ℕ) (w : List ℕ) (tail : ℕ) : Type 0 where
  pub few : n ≤ 4096
  pub fits : 4 * n ≤ length w
  pub counted : tail ≤ spent (λ v. 1) w n n

-- e is the entry of a branch that leads to a node, and there is room to visit it
pub record Visitable (W : Wiring) (e : ℕ) (w : List ℕ) (f : Found) : Type 0 where
  pub room : Room W.nodes w f.tail
  pub fits : 4 * W.nodes + 2 * length W.sources.now ≤ length w
  pub drains : length W.drains.now ≡ length W.sources.now
  pub least : 2 ≤ e
  pub branch : e / 2 - 1 < 2 * length W.sources.now
  pub end : end_of W.drains.now W.sources.now (e / 2 - 1) < W.nodes
  pub few : f.visits < 16384

-- distinct nodes stand in the queue from `from` to `to`
pub record Listed (n from to : ℕ) (w : List ℕ) : Type 0 where
  pub few : n ≤ 4096
  pub fits : 4 * n ≤ length w
  pub short : to ≤ n
  pub ordered : from ≤ to
  pub nodes : (j : ℕ) → from ≤ j → j < to → at w (2 * n + j) < n
  pub once : (i j : ℕ) → from ≤ i → i < j → j < to → at w (2 * n + i) ≡ at w (2 * n + j) → ⊥

-- what tells of sources
abbrev pub Telling : ℕ → Type 0
Telling c = (telling 1 1 ≤ c) × (c ≤ telling 3 3) × (1 ≤ mark c)

module _ (G : Wires) where
  -- lists of branches, between nodes of which whole sets were taken
  pub record Ready (w : List ℕ) : Type 0 where
    pub laid : Laid G (length w)
    pub linked : Linked G (branches G) w
    pub told : (v : ℕ) → Untaken G w v → Telling (at w (G.size + v))
    pub closed : (h : ℕ) → h < branches G → followed G false h ≡ true → Untaken G w (near G h) → Untaken G w (far G h)

  -- u stands in the queue from `from` to `to`
  abbrev pub Member : List ℕ → ℕ → ℕ → ℕ → Type 0
  Member w from to u = (j : ℕ) × (from ≤ j) × (j < to) × (at w (2 * G.size + j) ≡ u)

  -- what stands at k of the queue
  abbrev pub queue : List ℕ → ℕ → ℕ
  queue w k = at w (2 * G.size + k)

  -- while the set of v is flooded: w₀ is the work area before, and the nodes of the set stand in the queue from `from` on
  pub record Spread (w₀ : List ℕ) (v from : ℕ) (w : List ℕ) (tail code : ℕ) : Type 0 where
    pub long : length w ≡ length w₀
    pub offers : (j : ℕ) → j < G.size → at w j ≡ at w₀ j
    pub front : (j : ℕ) → j < from → queue w j ≡ queue w₀ j
    pub after : (j : ℕ) → 3 * G.size ≤ j → at w j ≡ at w₀ j
    pub ordered : from ≤ tail
    pub members : (j : ℕ) → from ≤ j → j < tail → Untaken G w₀ (queue w j) × Joined G v (queue w j) × (at w (G.size + queue w j) < least_telling)
    pub others : (u : ℕ) → u < G.size → Member w from tail u ⊎ (at w (G.size + u) ≡ at w₀ (G.size + u))
    pub once : (i j : ℕ) → from ≤ i → i < j → j < tail → queue w i ≡ queue w j → ⊥
    pub sum : Sum G w₀ v code
    pub whole : (j : ℕ) → from ≤ j → j < tail → Within (at w₀ (G.size + queue w j)) code
    pub told : Telling code
    pub worth : (g : ℕ → ℕ) → prefix g w (2 * G.size) tail ≤ spent g w G.size G.size

  -- branch h was visited: where it is sure its end is in the queue, else the set is not sure
  abbrev pub Done : ℕ → List ℕ → Found → ℕ → Type 0
  Done from w f h = (G.unsure h ≡ false → Member w from f.tail (far G h)) × (f.sure ≡ true → G.unsure h ≡ false)

  -- the nodes of the queue from `from` to k are done with: all their branches were visited
  pub record Emptying (w₀ : List ℕ) (v from k : ℕ) (w : List ℕ) (f : Found) : Type 0 where
    pub ready : Ready w₀
    pub spread : Spread w₀ v from w f.tail f.code
    pub low : from ≤ k
    pub high : k ≤ f.tail
    pub self : Member w from f.tail v
    pub done : (j h : ℕ) → from ≤ j → j < k → h < branches G → G.listed h ≡ true → near G h ≡ queue w j → Done from w f h
    pub quiet : f.sure ≡ true → (j : ℕ) → from ≤ j → j < k → at w₀ (queue w j) ≡ 0
    pub paid : f.visits + prefix (degrees G) w (2 * G.size) f.tail ≤ spent (degrees G) w G.size G.size + prefix (degrees G) w (2 * G.size) k

  -- u stands among the first `kept` nodes of the queue
  abbrev pub Kept : List ℕ → ℕ → ℕ → Type 0
  Kept w kept u = (i : ℕ) × (i < kept) × (queue w i ≡ u)

  -- all branches at u are sure, and nothing could pass along them
  abbrev pub Quiet : List ℕ → ℕ → Type 0
  Quiet w u =
      (h : ℕ) → h < branches G → G.listed h ≡ true → near G h ≡ u
      → (G.unsure h ≡ false) × (at w (G.size + near G h) ≡ at w (G.size + far G h)) × (at w (near G h) ≡ at w (far G h))

  -- the sets of the nodes below v were taken; w₀ is the work area before all
  pub record Taking (w₀ : List ℕ) (v : ℕ) (w : List ℕ) (p : Parts) : Type 0 where
    pub long : length w ≡ length w₀
    pub after : (j : ℕ) → 3 * G.size ≤ j → at w j ≡ at w₀ j
    pub untaken : (u : ℕ) → Untaken G w u → (at w (G.size + u) ≡ at w₀ (G.size + u)) × (at w u ≡ at w₀ u)
    pub others : (u : ℕ) → u < G.size → (Untaken G w₀ u → ⊥) → (at w (G.size + u) ≡ at w₀ (G.size + u)) × (at w u ≡ at w₀ u)
    pub below : (u : ℕ) → u < v → at w (G.size + u) < least_telling
    pub closed : (h : ℕ) → h < branches G → followed G false h ≡ true → Untaken G w (near G h) → Untaken G w (far G h)
    pub worth : (g : ℕ → ℕ) → prefix g w (2 * G.size) p.kept ≤ spent g w G.size G.size
    pub paid : p.visits ≤ spent (degrees G) w G.size G.size
    pub sets : (u : ℕ) → Untaken G w₀ u → at w (G.size + u) < least_telling → SetOf G w₀ w u
    pub nodes : (j : ℕ) → j < p.kept → Untaken G w₀ (queue w j) × (at w (G.size + queue w j) < least_telling)
    pub once : (i j : ℕ) → i < j → j < p.kept → queue w i ≡ queue w j → ⊥
    pub sorted : (u : ℕ) → Untaken G w₀ u → at w (G.size + u) < least_telling → Kept w p.kept u ⊎ Quiet w u
    pub spread : (j h : ℕ) → j < p.kept → h < branches G → followed G false h ≡ true → near G h ≡ queue w j → Kept w p.kept (far G h)

-- some branches are listed and some are unsure so that the flood of a set has come to node a, which waits in the queue
pub record Fannable (W : Wiring) (a : ℕ) (w : List ℕ) (f : Found) : Type 0 where
  pub listed : ℕ → Bool
  pub unsure : ℕ → Bool
  pub before : List ℕ
  pub v : ℕ
  pub from : ℕ
  pub k : ℕ
  pub emptying : Emptying (wired W listed unsure) before v from k w f
  pub waits : k < f.tail
  pub node : a ≡ at w (2 * W.nodes + k)

-- that the set of v, which is not taken, can be flooded
pub record Floodable (W : Wiring) (v : ℕ) (w : List ℕ) (f : Found) : Type 0 where
  pub listed : ℕ → Bool
  pub unsure : ℕ → Bool
  pub ready : Ready (wired W listed unsure) w
  pub untaken : Untaken (wired W listed unsure) w v
  pub code : f.code ≡ at w (W.nodes + v)
  pub worth : (g : ℕ → ℕ) → prefix g w (2 * W.nodes) f.tail ≤ spent g w W.nodes W.nodes
  pub paid : f.visits ≤ spent (degrees (wired W listed unsure)) w W.nodes W.nodes

-- that the sets of the nodes below v were taken
pub record Turnable (W : Wiring) (v : ℕ) (w : List ℕ) (p : Parts) : Type 0 where
  pub listed : ℕ → Bool
  pub unsure : ℕ → Bool
  pub before : List ℕ
  pub startable : Startable (wired W listed unsure) before
  pub taking : Taking (wired W listed unsure) before v w p
  pub inside : v < W.nodes

-- The sets of nodes that sure branches join, what their cells tell together, and what both tables begin with there. Assumes nothing.
use Rattle.std.specs.Prelude.{ℕ, ◌+◌, ◌*◌, ◌≤◌, ◌<◌, ◌≡◌, Bool, true, false, List, [], length}
use Rattle.model.specs.Places.{at}
use Rattle.branches.specs.Branch.{Wires, near, far, branches, followed, Laid, Linked, wires_by}
use Rattle.branches.specs.declared.Wiring.{Wiring}
use Rattle.branches.specs.Code.{least_telling, telling, mark, together, Within, begin}

module _ (G : Wires) where
  -- sure branches lead from v to a node
  pub data Joined (v : ℕ) : ℕ → Type 0 where
    here : Joined v v
    on : (h : ℕ) → Joined v (near G h) → h < branches G → followed G false h ≡ true → Joined v (far G h)

  -- a node whose cell still tells of its sources
  abbrev pub Untaken : List ℕ → ℕ → Type 0
  Untaken w v = (v < G.size) × (least_telling ≤ at w (G.size + v))

  -- lists of branches between nodes whose cells tell of sources
  pub record Startable (w : List ℕ) : Type 0 where
    pub laid : Laid G (length w)
    pub linked : Linked G (branches G) w
    pub ends : (h : ℕ) → h < branches G → G.listed h ≡ true → Untaken w (near G h)
    pub told : (v : ℕ) → Untaken w v → (telling 1 1 ≤ at w (G.size + v)) × (at w (G.size + v) ≤ telling 3 3) × (1 ≤ mark (at w (G.size + v)))

  -- c is what the cells of nodes that are joined to v tell together
  pub data Sum (w : List ℕ) (v : ℕ) : ℕ → Type 0 where
    one : (u : ℕ) → Joined v u → u < G.size → Sum w v (at w (G.size + u))
    both : {a b : ℕ} → Sum w v a → Sum w v b → Sum w v (together a b)

  -- the set of v, as its cells are afterwards: c is what all its cells told together
  pub record SetOf (w w' : List ℕ) (v : ℕ) : Type 0 where
    pub c : ℕ
    pub sum : Sum w v c
    pub whole : (u : ℕ) → Joined v u → Within (at w (G.size + u)) c
    pub against0 : at w' (G.size + v) ≡ begin 0 c (at w v)
    pub against1 : at w' v ≡ begin 1 c (at w v)

  -- the first `kept` nodes of the list at 2n: the sets that unknown transistors touch
  abbrev pub kept_at : List ℕ → ℕ → ℕ
  kept_at w j = at w (2 * G.size + j)

  pub record Parted (w w' : List ℕ) (kept : ℕ) : Type 0 where
    pub sets : (v : ℕ) → Untaken w v → SetOf w w' v
    pub few : kept ≤ G.size
    pub nodes : (j : ℕ) → j < kept → Untaken w (kept_at w' j)
    pub once : (i j : ℕ) → i < j → j < kept → kept_at w' i ≡ kept_at w' j → ⊥
    -- no listed branch leads out of them
    pub closed : (j h : ℕ) → j < kept → h < branches G → G.listed h ≡ true → near G h ≡ kept_at w' j → (i : ℕ) × (i < kept) × (kept_at w' i ≡ far G h)
    -- and along any other nothing could pass
    pub quiet : (h : ℕ) → h < branches G → G.listed h ≡ true → ((j : ℕ) → j < kept → kept_at w' j ≡ near G h → ⊥)
        → (at w' (G.size + near G h) ≡ at w' (G.size + far G h)) × (at w' (near G h) ≡ at w' (far G h))
    -- the cells of nodes that tell of no sources, and those behind the list, stay
    pub others : (v : ℕ) → v < G.size → (Untaken w v → ⊥) → (at w' (G.size + v) ≡ at w (G.size + v)) × (at w' v ≡ at w v)
    pub after : (j : ℕ) → 3 * G.size ≤ j → at w' j ≡ at w j

-- what the caller of `part_all` brings, and what it gets, over a given wiring: of any branches that fit the lists
module _ (W : Wiring) where
  abbrev pub wired : (ℕ → Bool) → (ℕ → Bool) → Wires
  wired = wires_by W.nodes W.sources.now W.drains.now []

  abbrev pub StartableSome : List ℕ → Type 0
  StartableSome w = (listed : ℕ → Bool) × (unsure : ℕ → Bool) × Startable (wired listed unsure) w

  abbrev pub PartedAny : List ℕ → List ℕ → ℕ → Type 0
  PartedAny w w' kept = (listed unsure : ℕ → Bool) → Startable (wired listed unsure) w → Parted (wired listed unsure) w w' kept

-- One table of a step: filled among the nodes that are kept, and read off at the end. Assumes nothing.
use Rattle.std.specs.Prelude.{ℕ, ◌+◌, ◌*◌, ◌%◌, ◌≤◌, ◌<◌, ◌≡◌, ◌⊎◌, Bool, true, cond, List, [], length, eqb}
use Rattle.model.specs.Places.{at}
use Rattle.model.specs.Net.{Net, is_input}
use Rattle.branches.specs.Branch.{Wires, near, far, branches, followed, amount, Laid, Linked, wires_by}
use Rattle.branches.specs.declared.Wiring.{Wiring}
use Rattle.strengths.specs.Spread.{cell, Rose}

module _ (G : Wires) (table kept : ℕ) where
  -- the nodes that are kept stand in a list at 2n: no listed branch leads out of them, and along any other nothing could pass
  pub record Listing (w : List ℕ) : Type 0 where
    pub nodes : (j : ℕ) → j < kept → at w (2 * G.size + j) < G.size
    pub once : (i j : ℕ) → i < j → j < kept → at w (2 * G.size + i) ≡ at w (2 * G.size + j) → ⊥
    pub closed : (j h : ℕ) → j < kept → h < branches G → G.listed h ≡ true → near G h ≡ at w (2 * G.size + j) → (i : ℕ) × (i < kept) × (at w (2 * G.size + i) ≡ far G h)
    pub quiet : (h : ℕ) → h < branches G → G.listed h ≡ true → ((j : ℕ) → j < kept → at w (2 * G.size + j) ≡ near G h → ⊥) → cell w table (near G h) ≡ cell w table (far G h)

  -- a table may be filled: by the list of the kept where this leaves room for a queue, else among all nodes
  pub record Fillable (w : List ℕ) : Type 0 where
    pub laid : Laid G (length w)
    pub linked : Linked G (branches G) w
    pub place : table ≤ G.size
    pub small : (v : ℕ) → v < G.size → cell w table v ≤ 7
    pub listing : 2 * kept ≤ G.size → Listing w

  -- a table was filled: its cells rose along branches, and none can rise further; the other cells stay, but for those behind the list
  pub record Full (w w' : List ℕ) : Type 0 where
    pub other : (j : ℕ) → (j < table) ⊎ (table + G.size ≤ j) → j < 2 * G.size → at w' j ≡ at w j
    pub list : 2 * kept ≤ G.size → (j : ℕ) → j < kept → at w' (2 * G.size + j) ≡ at w (2 * G.size + j)
    pub after : (j : ℕ) → 3 * G.size ≤ j → at w' j ≡ at w j
    pub above : (v : ℕ) → v < G.size → cell w table v ≤ cell w' table v
    pub sound : (v : ℕ) → v < G.size → Rose G true (cell w table) v (cell w' table v)
    pub shut : (k h : ℕ) → 0 < k → h < branches G → followed G true h ≡ true → cell w' table (near G h) ≡ 2 * k + 1 → 2 * amount G k h ≤ cell w' table (far G h)

-- over a wiring, with no ceilings: of some branches that fit the lists, and of any
module _ (W : Wiring) (table kept : ℕ) where
  abbrev pub wires_of : (ℕ → Bool) → (ℕ → Bool) → Wires
  wires_of = wires_by W.nodes W.sources.now W.drains.now []

  abbrev pub FillableSome : List ℕ → Type 0
  FillableSome w = (listed : ℕ → Bool) × (unsure : ℕ → Bool) × Fillable (wires_of listed unsure) table kept w

  abbrev pub FullAny : List ℕ → List ℕ → Type 0
  FullAny w w' = (listed unsure : ℕ → Bool) → Fillable (wires_of listed unsure) table kept w → Full (wires_of listed unsure) table kept w w'

-- a node's next state by the cells of the tables against 0 and against 1: 0 where nothing stands against 0, 1 where nothing stands against 1, else X
abbrev pub decided : ℕ → ℕ → ℕ
decided x y = cond (eqb (x % 2) 0) 0 (1 + y % 2)

abbrev pub next : Net → List ℕ → List ℕ → ℕ → ℕ
next net s w v = cond (is_input net v) (at s v) (decided (at w (length net.kinds + v)) (at w v))

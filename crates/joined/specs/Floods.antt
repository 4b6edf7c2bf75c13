-- What the code does to the work cells of n nodes, one store after the other: a set is flooded, then both tables begin at its nodes. Assumes nothing.
use Rattle.std.specs.Prelude.{ℕ, ◌+◌, ◌*◌, ◌-◌, ◌/◌, ◌%◌, ◌≤◌, ◌<◌, ◌≡◌, Bool, true, false, ◌&&◌, List, length, set, eqb}
use Rattle.model.specs.Places.{at}
use Rattle.branches.specs.Branch.{end_of}
use Rattle.branches.specs.declared.Wiring.{Wiring}
use Rattle.branches.specs.Code.{least_telling, together, begin}
use Rattle.joined.specs.declared.Found.{Found}
use Rattle.joined.specs.declared.Parts.{Parts}

-- what is put at the queue's end: its cell is taken, and told with the others
abbrev pub queued : ℕ → ℕ → List ℕ → ℕ → List ℕ
queued n b w tail = set (set w (n + b) 0) (2 * n + tail) b

abbrev pub joining : ℕ → Found → Found
joining m f = record { tail = f.tail + 1; code = together f.code m; sure = f.sure; visits = f.visits }

-- one branch more was visited, and one that is not sure
abbrev pub visited : Found → Found
visited f = record { tail = f.tail; code = f.code; sure = f.sure; visits = f.visits + 1 }

abbrev pub touched : Bool → Found → Found
touched b f = record { tail = f.tail; code = f.code; sure = b; visits = f.visits }

-- before the set of a node whose cell is m is flooded
abbrev pub opened : ℕ → Parts → Found
opened m p = record { tail = p.kept; code = m; sure = true; visits = p.visits }

module _ (n : ℕ) where
  -- node b joins the queue, unless it was taken
  pub data Reached (b : ℕ) (w : List ℕ) (f : Found) : List ℕ → Found → Type 0 where
    taken : at w (n + b) < least_telling → Reached b w f w f
    joins : least_telling ≤ at w (n + b) → Reached b w f (queued n b w f.tail) (joining (at w (n + b)) f)

  -- both tables begin at node a
  pub data Begun (a code : ℕ) (w : List ℕ) : List ℕ → Type 0 where
    begun : Begun a code w (set (set w a (begin 1 code (at w a))) (n + a) (begin 0 code (at w a)))

  -- they begin at the nodes from `from` to k of the queue, and nothing else is written
  pub record BegunAll (code from : ℕ) (w : List ℕ) (k : ℕ) (w' : List ℕ) : Type 0 where
    pub against0 : (j : ℕ) → from ≤ j → j < k → at w' (n + at w (2 * n + j)) ≡ begin 0 code (at w (at w (2 * n + j)))
    pub against1 : (j : ℕ) → from ≤ j → j < k → at w' (at w (2 * n + j)) ≡ begin 1 code (at w (at w (2 * n + j)))
    pub others : (u : ℕ) → u < n → ((j : ℕ) → from ≤ j → j < k → at w (2 * n + j) ≡ u → ⊥) → (at w' (n + u) ≡ at w (n + u)) × (at w' u ≡ at w u)
    pub after : (j : ℕ) → 2 * n ≤ j → at w' j ≡ at w j
    pub long : length w' ≡ length w

module _ (W : Wiring) where
  -- one entry of a list
  pub data Followed (e : ℕ) (w : List ℕ) (f : Found) : List ℕ → Found → Type 0 where
    passed : e % 2 ≡ 1 → Followed e w f w (visited (touched false f))
    along : {u : List ℕ} {g : Found} (b : ℕ) → (e % 2 ≡ 1 → ⊥) → b ≡ end_of W.drains.now W.sources.now (e / 2 - 1) → Reached W.nodes b w f u g → Followed e w f u (visited g)

  -- the list of node a, down to the entry that is next
  pub data Chain (a : ℕ) (w : List ℕ) (f : Found) : List ℕ → Found → ℕ → Type 0 where
    start : Chain a w f w f (at w (3 * W.nodes + a))
    next : {u x : List ℕ} {g h : Found} {e : ℕ} → Chain a w f u g e → (e ≡ 0 → ⊥) → Followed e u g x h → Chain a w f x h (at x (4 * W.nodes + (e / 2 - 1)))

  -- all of it
  pub data Fanned (a : ℕ) (w : List ℕ) (f : Found) (w' : List ℕ) (g : Found) : Type 0 where
    fanned : (b : Bool) → b ≡ (f.sure && eqb (at w a) 0) → {e : ℕ} → Chain a w (touched b f) w' g e → e ≡ 0 → Fanned a w f w' g

  -- nodes are taken from the queue, from `from` to k
  pub data Emptied (from : ℕ) (w : List ℕ) (f : Found) : List ℕ → Found → ℕ → Type 0 where
    begins : Emptied from w f w f from
    takes : {u x : List ℕ} {g h : Found} {k : ℕ} → Emptied from w f u g k → k < g.tail → Fanned (at u (2 * W.nodes + k)) u g x h → Emptied from w f x h (k + 1)

  -- until none waits
  pub data Flooded (v : ℕ) (w : List ℕ) (f : Found) (w' : List ℕ) (g : Found) : Type 0 where
    flooded : {u : List ℕ} {h : Found} {k : ℕ} → Reached W.nodes v w f u h → Emptied f.tail u h w' g k → g.tail ≤ k → Flooded v w f w' g

  -- the set of node v
  pub data Turned (v : ℕ) (w : List ℕ) (p : Parts) : List ℕ → Parts → Type 0 where
    past : at w (W.nodes + v) < least_telling → Turned v w p w p
    alone : {x : List ℕ} → least_telling ≤ at w (W.nodes + v) → at w (3 * W.nodes + v) ≡ 0 → Begun W.nodes v (at w (W.nodes + v)) w x → Turned v w p x p
    quiet : {u x : List ℕ} {f : Found} → least_telling ≤ at w (W.nodes + v) → Flooded v w (opened (at w (W.nodes + v)) p) u f → BegunAll W.nodes f.code p.kept u f.tail x → f.sure ≡ true
        → Turned v w p x (record { kept = p.kept; visits = f.visits })
    keeps : {u x : List ℕ} {f : Found} → least_telling ≤ at w (W.nodes + v) → Flooded v w (opened (at w (W.nodes + v)) p) u f → BegunAll W.nodes f.code p.kept u f.tail x
        → Turned v w p x (record { kept = f.tail; visits = f.visits })

  -- the sets of the nodes below v
  pub data Turns (w : List ℕ) : ℕ → List ℕ → Parts → Type 0 where
    nothing : Turns w 0 w (record { kept = 0; visits = 0 })
    turn : {u x : List ℕ} {p q : Parts} {v : ℕ} → Turns w v u p → v < W.nodes → Turned v u p x q → Turns w (v + 1) x q

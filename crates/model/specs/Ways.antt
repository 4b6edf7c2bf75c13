-- Ways from sources to nodes, their strength, and when one is blocked: over any source strengths and any ceilings of transistors. Assumes nothing.
use Rattle.std.specs.Prelude.{ℕ, min, ◌≤◌, ◌<◌, ◌≡◌, Bool, true, false, ◌⊎◌}
use Rattle.model.specs.Net.{Stand, opened, closed, unknown}

-- what stays the same in every step: nodes and transistors by number, their ends, and strengths; 0 is no strength
pub record Frame : Type 0 where
  pub size : ℕ
  pub links : ℕ
  pub input : ℕ → Bool
  pub left : ℕ → ℕ
  pub right : ℕ → ℕ
  -- the strength of a node as a source, the most that a transistor lets pass, and the greatest strength
  pub own : ℕ → ℕ
  pub ceiling : ℕ → ℕ
  pub top : ℕ

pub record Lawful (F : Frame) : Type 0 where
  pub own_pos : (v : ℕ) → 1 ≤ F.own v
  pub own_top : (v : ℕ) → F.own v ≤ F.top
  pub ceiling_pos : (t : ℕ) → 1 ≤ F.ceiling t

-- v is a node and no input
abbrev pub Inside : Frame → ℕ → Type 0
Inside F v = (v < F.size) × (F.input v ≡ false)

-- the transistor t has the ends v and w
abbrev pub Joins : Frame → ℕ → ℕ → ℕ → Type 0
Joins F t v w = (t < F.links) × (((F.left t ≡ v) × (F.right t ≡ w)) ⊎ ((F.right t ≡ v) × (F.left t ≡ w)))

-- a way from u to a node, with its strength: the least of its source's and of what its transistors let pass. It passes through no input.
-- `ok`: the transistors that it may take. `fine`: with what strength it may be at a node that is no input
pub data Way (F : Frame) (ok : ℕ → Type 0) (fine : ℕ → ℕ → Type 0) (u : ℕ) : ℕ → ℕ → Type 0 where
  source : u < F.size → (F.input u ≡ false → fine u (F.own u)) → Way F ok fine u u (F.own u)
  pass : {w k : ℕ} → Way F ok fine u w k → (t v : ℕ) → Inside F v → Joins F t v w → ok t → fine v (min k (F.ceiling t)) → Way F ok fine u v (min k (F.ceiling t))

-- all its transistors are closed
abbrev pub Definite : Frame → (ℕ → Stand) → ℕ → ℕ → ℕ → Type 0
Definite F how u v k = Way F (λ t. how t ≡ closed) (λ x j. Unit {0}) u v k

-- none of its transistors is open, and at no node of it a definite way of greater strength ends
abbrev pub Unblocked : Frame → (ℕ → Stand) → ℕ → ℕ → ℕ → Type 0
Unblocked F how u v k = Way F (λ t. how t ≡ opened → ⊥) (λ x j. (w i : ℕ) → Definite F how w x i → i ≤ j) u v k

-- every unblocked way to v starts at the state b
abbrev pub From : Frame → (ℕ → Stand) → (ℕ → ℕ) → ℕ → ℕ → Type 0
From F how val b v = (u k : ℕ) → Unblocked F how u v k → val u ≡ b

-- whether a transistor conducts, where an unknown one does so as b says
abbrev pub choose : Stand → Bool → Bool
choose opened b = false
choose closed b = true
choose unknown b = b

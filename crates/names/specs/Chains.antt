-- Names as they stand in tables with room, and the chains in which they are sought. Nothing that the entries promise is said in these terms.
-- Assumes nothing.
use Rattle.std.specs.Prelude.{ℕ, ◌+◌, ◌*◌, ◌%◌, ◌≤◌, ◌<◌, ◌≡◌, List, [], ◌∷◌, length}
use Rattle.model.specs.Places.{tab, at}
use Rattle.text.specs.Bytes.{span, part}
use Rattle.text.specs.declared.Span.{Span}

-- n names, by where they start and by their sizes
unfoldable pub spans : ℕ → List ℕ → List ℕ → List Span
spans n starts sizes = tab n (λ k. span (at starts k) (at sizes k))

-- the number that bytes make, from h on
unfoldable pub mixed : ℕ → List ℕ → ℕ
mixed h [] = h
mixed h (b ∷ bs) = mixed ((h * 31 + b) % 4096) bs

-- the chain of a name
abbrev pub chain_of : List ℕ → ℕ
chain_of name = mixed 0 name

-- the name of node k
abbrev pub name_of : List ℕ → List ℕ → List ℕ → ℕ → List ℕ
name_of text starts sizes k = part text (span (at starts k) (at sizes k))

-- e is one more than the last node below n of the chain b, and 0 where there is none
pub record Last (text starts sizes : List ℕ) (b n e : ℕ) : Type 0 where
  pub found : (k : ℕ) → e ≡ k + 1 → (k < n) × (chain_of (name_of text starts sizes k) ≡ b)
  pub none : (g : ℕ) → e ≤ g → g < n → chain_of (name_of text starts sizes g) ≡ b → ⊥

-- n names are known of a text that is not too long: parts of it that differ; each chain has its last node, and each node the one before it in its chain
pub record Linked (text : List ℕ) (n : ℕ) (starts sizes heads nexts : List ℕ) : Type 0 where
  pub short : length text ≤ 65535
  pub starts_long : length starts ≡ 4099
  pub sizes_long : length sizes ≡ 4099
  pub heads_long : length heads ≡ 4096
  pub nexts_long : length nexts ≡ 4099
  pub few : n ≤ 4099
  pub inside : (k : ℕ) → k < n → at starts k + at sizes k ≤ length text
  pub differ : (j k : ℕ) → j < k → k < n → name_of text starts sizes j ≡ name_of text starts sizes k → ⊥
  pub head : (b : ℕ) → b < 4096 → Last text starts sizes b n (at heads b)
  pub next : (k : ℕ) → k < n → Last text starts sizes (chain_of (name_of text starts sizes k)) k (at nexts k)

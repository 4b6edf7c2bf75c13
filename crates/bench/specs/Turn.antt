-- Nodes in turn. Assumes nothing.
use Rattle.std.specs.Prelude.{ℕ, List, length, slice_index_or, ◌≡◌, ◌<◌, ◌+◌, ◌%◌}
use Rattle.model.specs.Bounds.{most_nodes}

-- so many, from the first on; after node 4,095 comes node 0
abbrev pub InTurn : ℕ → ℕ → List ℕ → Type 0
InTurn first count nodes = (length nodes ≡ count) × ((k d : ℕ) → k < count → slice_index_or nodes k d ≡ (first + k) % most_nodes)

-- The places passed have their nodes. Assumes nothing.
use Rattle.std.specs.Prelude.{ℕ, slice_index_or, ◌≡◌, ◌<◌, ◌+◌, ◌%◌}
use Rattle.model.specs.Bounds.{most_nodes}
use Rattle.bench.proofs.nodes_from.Given as goal

abbrev pub invariant-loop-place : goal.invariant-loop-place
invariant-loop-place l =
    (k d : ℕ) → k < l.place → slice_index_or l.node-items k d ≡ (l.first + k) % most_nodes

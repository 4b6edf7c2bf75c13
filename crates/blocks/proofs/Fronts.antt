-- How long the header and time 0 are, counted node by node. Assumes nothing.
use Prim.Native.Nat.{ℕ, ◌+◌, ◌*◌, ◌≤◌}
use native.Mathlib.Omega.{arith}
use native.Mathlib.Numerals.{add-one}
use mathlib.Core.Path.{◌≡◌, ap, ◌∙◌}
use mathlib.Core.List.{List}
use lib.ListN.{length}
use Rattle.model.specs.Bounds.{most_nodes}
use Rattle.model.specs.Places.{at}
use Rattle.waves.specs.Dump.{each, code, decimal, wire_line, value_line, header, start_block}
use Rattle.wavelaws.proofs.Rows.{each-longer, each_few}
use Rattle.wavelaws.proofs.Lengths.{wire_length, value_length, header-length, start_length, wire_few, value_few}

module _ (s : List ℕ) where
  abbrev values : ℕ → List ℕ
  values v = value_line v (at s v)

  -- of the first n nodes: few, one more, and all
  pub front_few : (n : ℕ) → n ≤ most_nodes → length (each n wire_line) + length (each n values) ≤ 30 * n
  front_few n l = omega (arith, each_few wire_line 26 n (λ v m. wire_few v (omega arith)), each_few values 4 n (λ v m. value_few v (at s v) (omega arith)))

  pub front_more : (n : ℕ) {size a b : ℕ} → size ≡ 97 + length (each n wire_line) + length (each n values) → a ≡ length (code n) → b ≡ length (decimal n)
      → size + (22 + 2 * a + b) ≡ 97 + length (each (n + 1) wire_line) + length (each (n + 1) values)
  front_more n e f g =
      rw add-one (omega (arith, each-longer n wire_line, each-longer n values, wire_length n, value_length n (at s n)))

  pub front_all : (n : ℕ) {size : ℕ} → n ≡ length s → size ≡ 97 + length (each n wire_line) + length (each n values) → size ≡ length (header (length s)) + length (start_block s)
  front_all n e h =
      h ∙ ap (λ (k : ℕ). 97 + length (each k wire_line) + length (each k values)) e ∙ omega (arith, header-length (length s), start_length s)

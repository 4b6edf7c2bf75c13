-- How long the lines and blocks of a dump are, and the most that a dump can have. Assumes nothing.
use Prim.Native.Nat.{ℕ, suc, ◌+◌, ◌*◌, ◌≤◌, ◌<◌}
use native.Mathlib.Omega.{arith}
use mathlib.Core.Path.{◌≡◌, refl}
use mathlib.Core.Bool.{Bool, true, false, cond}
use mathlib.Core.List.{List, [], ◌++◌}
use lib.ListN.{length, length-append}
use Rattle.model.specs.Bounds.{most_nodes, highest_limit}
use Rattle.model.specs.Places.{iter, at}
use Rattle.text.specs.Bytes.{bytes}
use Rattle.model.specs.Run.{changed}
use Rattle.waves.specs.Dump.{each, code, decimal, wire_name, wire_line, value_line, header, start_block, time_line, change_line, step_block, block_after, dump_of, most_dump}
use Rattle.wavelaws.proofs.Rows.{each_few}
use Rattle.wavelaws.proofs.Digits.{code_short, decimal_few}

pub wire_length : (v : ℕ) → length (wire_line v) ≡ length (code v) + length (decimal v) + 20
unfolding wire_line wire_name
wire_length v =
    omega (arith, length-append (code v) (bytes " " ++ ((bytes "n" ++ decimal v) ++ bytes " $end\n")), length-append (decimal v) (bytes " $end\n"))

pub value_length : (v x : ℕ) → length (value_line v x) ≡ length (code v) + 2
unfolding value_line
value_length v x = omega (arith, length-append (code v) (bytes "\n"))

pub change_length : (old new : List ℕ) (v : ℕ) → length (change_line old new v) ≡ cond (changed old new v) (length (code v) + 2) 0
unfolding change_line
change_length old new v = go (changed old new v)
  where
    go : (b : Bool) → length (cond b (value_line v (at new v)) []) ≡ cond b (length (code v) + 2) 0
    go true = value_length v (at new v)
    go false = refl

pub time_length : (k : ℕ) → length (time_line k) ≡ length (decimal k) + 2
unfolding time_line
time_length k = omega (arith, length-append (decimal k) (bytes "\n"))

pub header-length : (n : ℕ) → length (header n) ≡ length (each n wire_line) + 79
unfolding header
header-length n = omega (arith, length-append (each n wire_line) (bytes "$upscope $end\n$enddefinitions $end\n"))

pub start_length : (s : List ℕ) → length (start_block s) ≡ length (each (length s) (λ v. value_line v (at s v))) + 18
unfolding start_block
start_length s = omega (arith, length-append (each (length s) (λ v. value_line v (at s v))) (bytes "$end\n"))

pub step-length : (k : ℕ) (old new : List ℕ) → length (step_block k old new) ≡ length (time_line k) + length (each (length old) (change_line old new))
unfolding step_block
step-length k old new = length-append (time_line k) (each (length old) (change_line old new))

pub dump_length : (f : List ℕ → List ℕ) (s : List ℕ) (count : ℕ)
    → length (dump_of f s count) ≡ length (header (length s)) + length (start_block s) + length (each count (block_after f s))
unfolding dump_of
dump_length f s count =
    omega (arith, length-append (header (length s)) (start_block s ++ each count (block_after f s)), length-append (start_block s) (each count (block_after f s)))

-- of nodes within the bounds: a line of each kind, and what comes before the first step
pub wire_few : (v : ℕ) → v < most_nodes → length (wire_line v) ≤ 26
wire_few v l = omega (arith, wire_length v, code_short v (omega arith), decimal_few 3 v (omega arith))

pub value_few : (v x : ℕ) → v < most_nodes → length (value_line v x) ≤ 4
value_few v x l = omega (arith, value_length v x, code_short v (omega arith))

pub change_few : (old new : List ℕ) (v : ℕ) → v < most_nodes → length (change_line old new v) ≤ 4
unfolding change_line
change_few old new v l = go (changed old new v)
  where
    go : (b : Bool) → length (cond b (value_line v (at new v)) []) ≤ 4
    go true = value_few v (at new v) l
    go false = omega arith

front_few : (s : List ℕ) → length s ≤ most_nodes → length (header (length s)) + length (start_block s) ≤ 97 + 30 * length s
front_few s l =
    omega (
      arith,
      header-length (length s),
      start_length s,
      each_few wire_line 26 (length s) (λ v m. wire_few v (omega arith)),
      each_few (λ v. value_line v (at s v)) 4 (length s) (λ v m. value_few v (at s v) (omega arith)),
    )

-- one step, at a time within the bounds
pub step_few : (k : ℕ) (old new : List ℕ) → k ≤ highest_limit → length old ≤ most_nodes → length (step_block k old new) ≤ 7 + 4 * length old
step_few k old new h l =
    omega (
      arith,
      step-length k old new,
      time_length k,
      decimal_few 4 k (omega arith),
      each_few (change_line old new) 4 (length old) (λ v m. change_few old new v (omega arith)),
    )

-- a dump of so many nodes and steps
module _ (f : List ℕ → List ℕ) (s : List ℕ) (sized : (k : ℕ) → length (iter k f s) ≡ length s) (few : length s ≤ most_nodes) (count : ℕ) (low : count ≤ highest_limit) where
  blocks_few : length (each count (block_after f s)) ≤ count * (7 + 4 * length s)
  unfolding block_after
  blocks_few =
      each_few (block_after f s) (7 + 4 * length s) count
      (λ k m. let e = sized k in
      let r = step_few (suc k) (iter k f s) (f (iter k f s)) (omega arith) (omega arith) in
      omega arith)

  pub dump_few : length (dump_of f s count) ≤ most_dump (length s) count
  dump_few = omega (arith, dump_length f s count, front_few s few, blocks_few)

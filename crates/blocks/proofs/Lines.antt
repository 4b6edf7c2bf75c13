-- The lines and blocks of a dump, written part by part. Assumes nothing.
use Prim.Native.Nat.{ℕ}
use mathlib.Core.Path.{◌≡◌, refl, ap}
use mathlib.Core.Bool.{not, cond}
use mathlib.Core.List.{List, [], ◌∷◌, ◌++◌}
use lib.Dec.{eqb}
use lib.ListN.{length}
use Rattle.model.specs.Places.{at}
use Rattle.text.specs.Bytes.{bytes}
use Rattle.waves.specs.Dump.{each, code, decimal, letter, wire_name, wire_line, value_line, header, start_block, time_line, change_line, step_block}
use Rattle.wavelaws.proofs.Digits.{code_short}
use Rattle.wavelaws.proofs.Lengths.{wire_length, value_length, time_length, header-length, start_length, step-length}
use Rattle.lettering.specs.Writing.{Writes}
use Rattle.lettering.specs.declared.Writer.{Writer}
use Rattle.lettering.proofs.Writes.{writes_as, writes_then}

-- how long lines and blocks are
pub ruleset lengths = (code_short, wire_length, value_length, time_length, header-length, start_length, step-length)

-- a node's line in a step, by its two states
pub change_as : (old new : List ℕ) (v : ℕ) → cond (not (eqb (at old v) (at new v))) (value_line v (at new v)) [] ≡ change_line old new v
unfolding change_line
change_as old new v = refl

module _ {w₀ w₁ w₂ : Writer} where
  pub writes_step : (k : ℕ) (old new : List ℕ) → Writes w₀ (time_line k) w₁ → Writes w₁ (each (length old) (change_line old new)) w₂ → Writes w₀ (step_block k old new) w₂
  unfolding step_block
  writes_step k old new a b = writes_then a b

module _ {w₀ w₁ w₂ w₃ : Writer} where
  pub writes_value : (v x : ℕ) {l : ℕ} → l ≡ letter x → Writes w₀ (l ∷ []) w₁ → Writes w₁ (code v) w₂ → Writes w₂ (10 ∷ []) w₃ → Writes w₀ (value_line v x) w₃
  unfolding value_line
  writes_value v x e a b c = writes_as (ap (λ (n : ℕ). n ∷ code v ++ (10 ∷ [])) e) (writes_then a (writes_then b c))

  pub writes_time : (k : ℕ) → Writes w₀ (35 ∷ []) w₁ → Writes w₁ (decimal k) w₂ → Writes w₂ (10 ∷ []) w₃ → Writes w₀ (time_line k) w₃
  unfolding time_line
  writes_time k a b c = writes_then a (writes_then b c)

  pub writes_wire : {w₄ w₅ : Writer} (v : ℕ) → Writes w₀ (bytes "$var wire 1 ") w₁ → Writes w₁ (code v) w₂ → Writes w₂ (bytes " n") w₃ → Writes w₃ (decimal v) w₄
      → Writes w₄ (bytes " $end\n") w₅ → Writes w₀ (wire_line v) w₅
  unfolding wire_line wire_name
  writes_wire v a b c d e = writes_then a (writes_then b (writes_then c (writes_then d e)))

  pub writes_header : (n : ℕ) → Writes w₀ (bytes "$timescale 1 ns $end\n$scope module mos $end\n") w₁ → Writes w₁ (each n wire_line) w₂
      → Writes w₂ (bytes "$upscope $end\n$enddefinitions $end\n") w₃ → Writes w₀ (header n) w₃
  unfolding header
  writes_header n a b c = writes_then a (writes_then b c)

  pub writes_start : (s : List ℕ) → Writes w₀ (bytes "#0\n$dumpvars\n") w₁ → Writes w₁ (each (length s) (λ v. value_line v (at s v))) w₂
      → Writes w₂ (bytes "$end\n") w₃ → Writes w₀ (start_block s) w₃
  unfolding start_block
  writes_start s a b c = writes_then a (writes_then b c)

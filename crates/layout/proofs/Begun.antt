-- What each node's cell tells before any transistor. Assumes nothing.
use Prim.Native.Nat.{ℕ, ◌+◌}
use native.Mathlib.Omega.{arith}
use mathlib.Core.Path.{◌≡◌, refl, sym}
use mathlib.Core.Bool.{true, false}
use mathlib.Core.List.{List}
use borrow.Author.Tests.{eq-eqb, ne_eqb}
use Rattle.model.specs.Net.{alone, input_kind, inputs, source_state}
use Rattle.model.specs.RuleOne.{own_strength}
use Rattle.branches.specs.Code.{telling, mark_of}
use Rattle.branches.proofs.Codes.{mark_01}
use Rattle.layout.specs.Look.{source_of, source_at}

-- by a node's kind and state
module _ (kind state : ℕ) where
  pub source_input : input_kind kind ≡ true → 0 ≡ source_of kind state
  unfolding source_of
  source_input e = rw e refl

  pub source_pullup : input_kind kind ≡ false → kind ≡ 1 → 74 ≡ source_of kind state
  unfolding source_of
  source_pullup e q = rw (e, eq-eqb kind 1 q, sym (mark_01 1 (omega arith))) refl

  pub source_normal : (m : ℕ) → input_kind kind ≡ false → (kind ≡ 1 → ⊥) → m ≡ mark_of state → 68 + m ≡ source_of kind state
  unfolding source_of
  source_normal m e q f = rw (e, ne_eqb kind 1 q, f) refl

-- of a node
pub source_else : (kinds s : List ℕ) (v : ℕ) → inputs kinds v ≡ false → telling (own_strength (alone kinds) v) (mark_of (source_state (alone kinds) s v)) ≡ source_at kinds s v
unfolding source_of
source_else kinds s v e = rw e refl

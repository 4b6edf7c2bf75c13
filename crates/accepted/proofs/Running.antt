-- What an entry leaves that was accepted: rule one's outcomes, as those of any step. Assumes nothing.
use Prim.Native.Nat.{ℕ}
use mathlib.Core.Path.{◌≡◌}
use mathlib.Core.Bool.{true, false}
use mathlib.Core.List.{List}
use lib.ListN.{length}
use Rattle.model.specs.Net.{Net, step}
use Rattle.model.specs.Run.{Changes, settled, limit_of, unit_steps}
use Rattle.model.specs.Rules.{judge, cells, step_rules, unit_rules, ternary_rules}
use Rattle.model.specs.Entries.{cleared, step_outcome, unit_outcome, ternary_outcome, Leaves}
use Rattle.model.specs.declared.Answer.{Answer}
use Rattle.model.specs.declared.Answer.TheVariants.{Done, Start, Oscillates}
use Rattle.basis.specs.Cells.{Spared}
use Rattle.basis.specs.Steps.{rule_one, Stepped, Halved}
use Rattle.runs.specs.declared.Moving.{Moving}
use Rattle.runs.specs.Results.{EndedAs}
use Rattle.basis.proofs.Leaving as any_step
use Rattle.std.proofs.Common.{Result, Ok, Err}
use Rattle.std.specs.Prelude.{MatchResult}

module _ (net : Net) (s w w₁ w' : List ℕ) (same : length w₁ ≡ length w) (used : ℕ) (u : used ≡ cells net) (x : w' ≡ cleared used w₁) where
  pub step_leaves : judge (step_rules net s w) ≡ Ok tt → {p k : ℕ} {s' : List ℕ} → Stepped (rule_one net) s w p k s' w₁ → Leaves (step_outcome net s w) (Done p k 0) s' w'
  unfolding step_outcome
  step_leaves = any_step.step_leaves (rule_one net) s w w₁ w' same used u x (step_rules net s w)

  -- the answer of a unit run that ended as its result tells
  pub unit_leaves : (ch : Changes) (limit : ℕ) → judge (unit_rules net s ch limit w) ≡ Ok tt → (ran : Result ℕ Moving) {a : Answer} {s' : List ℕ}
      → EndedAs (rule_one net) (unit_steps (step net) s ch limit) w ran s' w₁
      → MatchResult ran (λ k. a ≡ Done 0 k 0) (λ m. a ≡ Oscillates m.place (limit_of limit)) → Leaves (unit_outcome net s ch limit w) a s' w'
  unfolding unit_outcome
  unit_leaves ch limit e (Ok k) en m = rw m (any_step.unit_leaves (rule_one net) s w w₁ w' same used u x (unit_rules net s ch limit w) e ch limit en)
  unit_leaves ch limit e (Err m) en m' = rw m' (any_step.unit_leaves (rule_one net) s w w₁ w' same used u x (unit_rules net s ch limit w) e ch limit en)

  module _ (ch : Changes) (e : judge (ternary_rules net s ch w) ≡ Ok tt) where
    pub start_leaves : settled (step net) s ≡ false → Spared (cells net) w w₁ → Leaves (ternary_outcome net s ch w) Start s w'
    unfolding ternary_outcome
    start_leaves = any_step.start_leaves (rule_one net) s w w₁ w' same used u x (ternary_rules net s ch w) e ch

    pub ternary_leaves : settled (step net) s ≡ true → {w₀ : List ℕ} → Spared (cells net) w w₀ → {k l : ℕ} {s' : List ℕ} → Halved (rule_one net) s ch w₀ k l s' w₁
        → Leaves (ternary_outcome net s ch w) (Done 0 k l) s' w'
    unfolding ternary_outcome
    ternary_leaves = any_step.ternary_leaves (rule_one net) s w w₁ w' same used u x (ternary_rules net s ch w) e ch

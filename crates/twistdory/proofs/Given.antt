-- What a verdict gives each of the entries: a refusal with nothing touched; for check and reset, what acceptance gives. Assumes nothing.
use Prim.Native.Nat.{ℕ}
use mathlib.Core.Path.{◌≡◌, refl}
use mathlib.Core.List.{List, []}
use Rattle.model.specs.Net.{Net}
use Rattle.model.specs.Run.{Changes}
use Rattle.model.specs.Rules.{Verdict, judge, check_rules, reset_rules, step_rules, unit_rules, ternary_rules}
use Rattle.model.specs.Entries.{untouched, reset_states, check_answer, reset_outcome, step_outcome, unit_outcome, ternary_outcome, Leaves}
use Rattle.model.specs.declared.Answer.TheVariants.{Done}
use Rattle.model.specs.declared.Answer.{Answer}
use Rattle.basis.proofs.Verdicts.{refused_gives, accepted_gives, leaves_at, refused_leaves}
use Rattle.std.proofs.Common.{Ok, Err}

module _ (v : Verdict) (a : Answer) (h : v ≡ Err a) where
  pub check_refused : (net : Net) → v ≡ judge (check_rules net) → a ≡ check_answer net
  unfolding check_answer
  check_refused net e = refused_gives (check_rules net) (λ b. b) (Done 0 0 0) v e a h

  pub reset_refused : (kinds s : List ℕ) → v ≡ judge (reset_rules kinds s) → Leaves (reset_outcome kinds s) a s []
  unfolding reset_outcome
  reset_refused kinds s e = refused_leaves (reset_rules kinds s) s [] _ v e a h

  pub step_refused : (net : Net) (s w : List ℕ) → v ≡ judge (step_rules net s w) → Leaves (step_outcome net s w) a s w
  unfolding step_outcome
  step_refused net s w e = refused_leaves (step_rules net s w) s w _ v e a h

  pub unit_refused : (net : Net) (s : List ℕ) (ch : Changes) (limit : ℕ) (w : List ℕ) → v ≡ judge (unit_rules net s ch limit w) → Leaves (unit_outcome net s ch limit w) a s w
  unfolding unit_outcome
  unit_refused net s ch limit w e = refused_leaves (unit_rules net s ch limit w) s w _ v e a h

  pub ternary_refused : (net : Net) (s : List ℕ) (ch : Changes) (w : List ℕ) → v ≡ judge (ternary_rules net s ch w) → Leaves (ternary_outcome net s ch w) a s w
  unfolding ternary_outcome
  ternary_refused net s ch w e = refused_leaves (ternary_rules net s ch w) s w _ v e a h

-- what check and reset give that accept
pub check_accepted : (v : Verdict) → v ≡ Ok tt → (net : Net) → v ≡ judge (check_rules net) → Done 0 0 0 ≡ check_answer net
unfolding check_answer
check_accepted v h net e = accepted_gives (check_rules net) (λ b. b) (Done 0 0 0) v e h

pub reset_accepted : (v : Verdict) → v ≡ Ok tt → (kinds s : List ℕ) → v ≡ judge (reset_rules kinds s) → (a : Answer) (x : List ℕ) → a ≡ Done 0 0 0 → x ≡ reset_states kinds → Leaves (reset_outcome kinds s) a x []
unfolding reset_outcome
reset_accepted v h kinds s e a x p q =
    leaves_at (accepted_gives (reset_rules kinds s) (untouched s []) (record { answer = Done 0 0 0; states = reset_states kinds; work = [] }) v e h) (record { answers = p; states_left = q; work_left = refl })

-- What a verdict gives an entry, the refusal's outcome or that of acceptance; and that an outcome admits one end. Assumes nothing.
use Prim.Native.Nat.{ℕ}
use mathlib.Core.Path.{◌≡◌, refl, ap, ◌∙◌, sym}
use mathlib.Core.List.{List}
use Rattle.model.specs.Rules.{Verdict, Rule, judge, given, judged}
use Rattle.model.specs.Entries.{Outcome, untouched, Leaves}
use Rattle.model.specs.declared.Answer.{Answer}
use Rattle.std.proofs.Common.{Ok, Err}

module _ {A : Type 0} (rs : List Rule) (refuse : Answer → A) (accept : A) (v : Verdict) (e : v ≡ judge rs) where
  pub refused_gives : (a : Answer) → v ≡ Err a → refuse a ≡ judged rs refuse accept
  refused_gives a h = ap (λ (x : Verdict). given x refuse accept) (sym h ∙ e)

  pub accepted_gives : v ≡ Ok tt → accept ≡ judged rs refuse accept
  accepted_gives h = ap (λ (x : Verdict). given x refuse accept) (sym h ∙ e)

pub leaves_at : {o p : Outcome} {a : Answer} {s w : List ℕ} → o ≡ p → Leaves o a s w → Leaves p a s w
leaves_at e h = rw e at h

-- an outcome is one answer, one list of states and one work area
pub leaves_one : {o : Outcome} {a b : Answer} {s t w v : List ℕ} → Leaves o a s w → Leaves o b t v → (a ≡ b) × (s ≡ t) × (w ≡ v)
leaves_one p q = (p.answers ∙ sym q.answers, p.states_left ∙ sym q.states_left, p.work_left ∙ sym q.work_left)

-- a refusal leaves states and work area as they came
pub refused_leaves : (rs : List Rule) (s w : List ℕ) (accept : Outcome) (v : Verdict) → v ≡ judge rs → (a : Answer) → v ≡ Err a → Leaves (judged rs (untouched s w) accept) a s w
refused_leaves rs s w accept v e a h = leaves_at (refused_gives rs (untouched s w) accept v e a h) (record { answers = refl; states_left = refl; work_left = refl })

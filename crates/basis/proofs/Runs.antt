-- From steps until settled to the unit run and the ternary run, of any step. Assumes nothing.
use Prim.Native.Nat.{ℕ, zero, suc, ◌≤◌, ◌<◌}
use native.Mathlib.Omega.{arith}
use mathlib.Core.Path.{◌≡◌, ap, ◌∙◌}
use mathlib.Core.Bool.{Bool}
use mathlib.Core.List.{List}
use lib.ListN.{length}
use Rattle.model.specs.Bounds.{highest_limit}
use Rattle.model.specs.Places.{at}
use Rattle.model.specs.Run.{Ran, put, raised, lowered, settle, limit_of, unit_steps, first_half, second_half, changes_of}
use Rattle.model.specs.Cover.{Stepper}
use Rattle.model.specs.Demands.{Enterable}
use Rattle.basis.specs.Steps.{Stepping, Ended, Halved}
use Rattle.basis.proofs.Acceptance.{named_of}
use Rattle.basis.proofs.Steps.{settle_keeps}
use Rattle.basis.proofs.Entering.{lowering}

pub limit_high : (limit : ℕ) → limit ≤ highest_limit → limit_of limit ≤ highest_limit
limit_high zero h = omega arith
limit_high (suc limit) h = h

-- steps within the limit in force, from the states with the changes entered
pub unit_ended : {by : Stepping} {s₁ s' w w' : List ℕ} {b : Bool} {p k r : ℕ} (s ps vs : List ℕ) (limit : ℕ) → s₁ ≡ put s ps vs → r ≡ limit_of limit → Ended by (settle by.next r 0 s₁) w b p k s' w'
    → Ended by (unit_steps by.next s (changes_of ps vs) limit) w b p k s' w'
unfolding unit_steps
unit_ended s ps vs limit e q h = rw (e, q) at h

-- steps from the raised states to a, and from there, with the changes entered, to z
module _ {by : Stepping} {input : ℕ → Bool} (st : Stepper by.size input by.next) {a₀ a a₁ z w₀ w₁ w₂ : List ℕ} {b c : Bool} {e k g l : ℕ} (s ps vs : List ℕ)
    (q : length vs ≡ length ps) (E : Enterable by.size input (changes_of ps vs)) (sized : length s ≡ by.size) (long : length a ≡ length s)
    (p₀ : a₀ ≡ raised s (put s ps vs)) (h₁ : Ended by (settle by.next by.size 0 a₀) w₀ b e k a w₁)
    (p₁ : a₁ ≡ put a ps vs) (h₂ : Ended by (settle by.next by.size 0 a₁) w₁ c g l z w₂) where
  abbrev n : ℕ
  n = by.size

  from : a ≡ (settle by.next n 0 (raised s (put s ps vs))).states
  from = h₁.states ∙ ap (λ (x : List ℕ). (settle by.next n 0 x).states) p₀

  held : (e : ℕ) → e < length ps → at a (at ps e) ≡ at (raised s (put s ps vs)) (at ps e)
  held e m = ap (λ (x : List ℕ). at x (at ps e)) from ∙ settle_keeps by.next n input st (at ps e) (E.below e m) (E.inputs e m) n 0 (raised s (put s ps vs))

  pub halved : Halved by s (changes_of ps vs) w₀ k l z w₂
  unfolding first_half second_half
  halved =
      let two : settle by.next n 0 a₁ ≡ second_half n by.next s (changes_of ps vs) =
      ap (settle by.next n 0) (p₁ ∙ lowering s a ps vs (named_of q E sized) E.once long held ∙ ap (lowered s (put s ps vs)) from) in
      record {
        first = h₁.count ∙ ap (λ (x : List ℕ). (settle by.next n 0 x).count) p₀;
        second = h₂.count ∙ ap (λ (x : Ran). x.count) two;
        states = h₂.states ∙ ap (λ (x : Ran). x.states) two;
        spared = λ j m. h₂.spared j m ∙ h₁.spared j m;
      }

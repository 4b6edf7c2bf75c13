-- The state that all agree on. Assumes nothing.
use Prim.Native.Nat.{ℕ, zero, suc, ◌≤◌, ◌<◌}
use native.Mathlib.Omega.{arith}
use mathlib.Core.Path.{◌≡◌, refl, ◌∙◌, sym}
use mathlib.Core.Logic.{inl, inr, ◌↔◌}
use mathlib.Core.Bool.{Bool, true, false, cond, false≢true}
use Rattle.model.specs.Net.{agreed}
use Rattle.model.specs.Order.{◌⊑◌}

-- below a Boolean state there is only itself
pub below_bit : (a b c : ℕ) → a ⊑ b → b ≡ c → c < 2 → a ≡ c
below_bit a b c (inl e) h l = e ∙ h
below_bit a b c (inr e) h l = omega arith

agreed_cases : (a b a' b' : Bool) → (a' ≡ true → a ≡ true) → (b' ≡ true → b ≡ true) → (a ≡ true → b ≡ true → ⊥)
    → cond a 0 (cond b 1 2) ⊑ cond a' 0 (cond b' 1 2)
agreed_cases true b true b' f g h = inl refl
agreed_cases false b true b' f g h = absurd (false≢true (f refl))
agreed_cases true true false true f g h = absurd (h refl refl)
agreed_cases false true false true f g h = inl refl
agreed_cases a false false true f g h = absurd (false≢true (g refl))
agreed_cases a b false false f g h = inr refl

pub agreed_mono : (q q' : ℕ → Bool) → ((b : ℕ) → b < 2 → q' b ≡ true → q b ≡ true) → (q 0 ≡ true → q 1 ≡ true → ⊥) → agreed q ⊑ agreed q'
agreed_mono q q' f h = agreed_cases (q 0) (q 1) (q' 0) (q' 1) (f 0 (omega arith)) (f 1 (omega arith)) h

bool_ext : (a b : Bool) → (a ≡ true → b ≡ true) → (b ≡ true → a ≡ true) → a ≡ b
bool_ext true b f g = sym (f refl)
bool_ext false true f g = g refl
bool_ext false false f g = refl

pub agreed_cong : (q r : ℕ → Bool) → ((b : ℕ) → b < 2 → (q b ≡ true → r b ≡ true) × (r b ≡ true → q b ≡ true)) → agreed q ≡ agreed r
agreed_cong q r h =
    let x : q 0 ≡ r 0 = bool_ext _ _ (h 0 (omega arith)).0 (h 0 (omega arith)).1 in
    let y : q 1 ≡ r 1 = bool_ext _ _ (h 1 (omega arith)).0 (h 1 (omega arith)).1 in
    rw (x, y)

pub agreed_says : (q : ℕ → Bool) → (q 0 ≡ true → q 1 ≡ true → ⊥) → (b : ℕ) → b < 2 → (agreed q ≡ b) ↔ (q b ≡ true)
agreed_says q h b l = go b l (q 0) refl (q 1) refl
  where
    go : (b : ℕ) → b < 2 → (x : Bool) → q 0 ≡ x → (y : Bool) → q 1 ≡ y → (cond x 0 (cond y 1 2) ≡ b) ↔ (q b ≡ true)
    go zero l true x y e = (λ z. x, λ z. refl)
    go zero l false x true e = (λ z. absurd (omega arith), λ z. absurd (false≢true (sym x ∙ z)))
    go zero l false x false e = (λ z. absurd (omega arith), λ z. absurd (false≢true (sym x ∙ z)))
    go (suc zero) l true x y e = (λ z. absurd (omega arith), λ z. absurd (h x z))
    go (suc zero) l false x true e = (λ z. e, λ z. refl)
    go (suc zero) l false x false e = (λ z. absurd (omega arith), λ z. absurd (false≢true (sym e ∙ z)))
    go (suc (suc b)) l x d y e = absurd (omega arith)

pub agreed_known : (q : ℕ → Bool) → agreed q ≤ 2
agreed_known q = go (q 0) (q 1)
  where
    go : (a b : Bool) → cond a 0 (cond b 1 2) ≤ 2
    go true b = omega arith
    go false true = omega arith
    go false false = omega arith

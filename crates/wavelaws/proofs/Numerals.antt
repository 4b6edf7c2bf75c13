-- Numbers that are written as digits are read back as they were, so no two nodes share a code. Assumes nothing.
use Prim.Native.Nat.{ℕ, zero, suc, ◌+◌, ◌-◌, ◌*◌, ◌/◌, ◌%◌, ◌≤◌, ◌<◌}
use native.Mathlib.Nat.{mul-zero, mod-add-div, div-lt_self}
use native.Mathlib.Omega.{arith}
use mathlib.Core.Path.{◌≡◌, refl, ap, ap₂, ◌∙◌, sym}
use mathlib.Core.Bool.{Bool, true, false}
use mathlib.Core.List.{List, [], ◌∷◌, map, reverse, reverse-reverse}
use lib.ListN.{length, length-map}
use lib.Dec.{ltb}
use borrow.Author.Tests.{ltb-false}
use Rattle.waves.specs.Dump.{digits_in, digits, code, decimal}
use Rattle.waves.specs.Viewer.{numeral, number_of}

-- the number that has a number's digits is that number
module _ (base : ℕ) (big : 1 < base) where
  numeral_in : (fuel n : ℕ) → n ≤ fuel → numeral base (digits_in base fuel n) ≡ n
  numeral_in zero n l = omega (arith, mul-zero base)
  numeral_in (suc fuel) n l = go (ltb n base) refl (numeral_in fuel (n / base))
    where
      fewer : base ≤ n → n / base ≤ fuel
      fewer h = let d : n / base < n = div-lt_self (omega arith) big in omega arith

      go : (b : Bool) → ltb n base ≡ b → (n / base ≤ fuel → numeral base (digits_in base fuel (n / base)) ≡ n / base)
          → numeral base (elim b [ true ↦ n ∷ [] | false ↦ n % base ∷ digits_in base fuel (n / base) ]) ≡ n
      go true e r = omega (arith, mul-zero base)
      go false e r = ap (λ (x : ℕ). n % base + base * x) (r (fewer (ltb-false n base e))) ∙ mod-add-div n base

  numeral-digits : (n : ℕ) → numeral base (digits base n) ≡ n
  unfolding digits
  numeral-digits n = numeral_in n n (omega arith)

-- the same through the characters that stand for digits: of a time, and of a node's code
unshifted : (k : ℕ) (ds : List ℕ) → map (λ c. c - k) (map (λ d. k + d) ds) ≡ ds
unshifted k [] = refl
unshifted k (d ∷ ds) = ap₂ ◌∷◌ (omega arith) (unshifted k ds)

pub number-decimal : (n : ℕ) → number_of (decimal n) ≡ n
unfolding number_of decimal
number-decimal n =
    ap (λ (ds : List ℕ). numeral 10 (reverse ds)) (unshifted 48 (reverse (digits 10 n)))
    ∙ ap (numeral 10) (reverse-reverse (digits 10 n))
    ∙ numeral-digits 10 (omega arith) n

number-code : (v : ℕ) → numeral 94 (map (λ c. c - 33) (code v)) ≡ v
unfolding code
number-code v = ap (numeral 94) (unshifted 33 (digits 94 v)) ∙ numeral-digits 94 (omega arith) v

pub code_distinct : (v u : ℕ) → code v ≡ code u → v ≡ u
code_distinct v u e = sym (number-code v) ∙ ap (λ (c : List ℕ). numeral 94 (map (λ x. x - 33) c)) e ∙ number-code u

-- a code is never empty
digits-some : (base fuel n : ℕ) → 1 ≤ length (digits_in base fuel n)
digits-some base zero n = omega arith
digits-some base (suc fuel) n = go (ltb n base)
  where
    go : (b : Bool) → 1 ≤ length {A = ℕ} (elim b [ true ↦ n ∷ [] | false ↦ n % base ∷ digits_in base fuel (n / base) ])
    go true = omega arith
    go false = omega arith

pub code-some : (v : ℕ) → 1 ≤ length (code v)
unfolding code digits
code-some v = rw length-map (digits-some 94 v v)

-- A code and a number as they are written, one digit at a time, and how many digits they have. Assumes nothing.
use Prim.Native.Nat.{ℕ, zero, suc, ◌+◌, ◌*◌, ◌/◌, ◌%◌, ◌≤◌, ◌<◌}
use native.Mathlib.Nat.{div-lt_self}
use native.Mathlib.Omega.{arith}
use mathlib.Core.Path.{◌≡◌, refl, ap, ◌∙◌, sym}
use mathlib.Core.Bool.{Bool, true, false}
use mathlib.Core.List.{List, [], ◌∷◌, ◌++◌, map, reverse, reverse-cons}
use lib.ListN.{length, length-append}
use lib.Dec.{ltb}
use borrow.Author.Tests.{ltb-true, ltb-false, lt-ltb, le-ltb}
use Rattle.waves.specs.Dump.{digits_in, digits, code, decimal}

module _ (base : ℕ) (big : 1 < base) where
  -- how much fuel there is does not show, if it is enough
  abbrev turn : ℕ → ℕ → Bool → List ℕ
  turn fuel n b = elim b [ true ↦ n ∷ [] | false ↦ n % base ∷ digits_in base fuel (n / base) ]

  fewer : (fuel n : ℕ) → n ≤ suc fuel → base ≤ n → n / base ≤ fuel
  fewer fuel n l h = let d : n / base < n = div-lt_self (omega arith) big in omega arith

  fuels : (f g n : ℕ) → n ≤ f → n ≤ g → digits_in base f n ≡ digits_in base g n
  fuels zero zero n l m = refl
  fuels zero (suc g) n l m = sym (ap (turn g n) (lt-ltb n base (omega arith)))
  fuels (suc f) zero n l m = ap (turn f n) (lt-ltb n base (omega arith))
  fuels (suc f) (suc g) n l m = go (ltb n base) refl (fuels f g (n / base))
    where
      go : (b : Bool) → ltb n base ≡ b → (n / base ≤ f → n / base ≤ g → digits_in base f (n / base) ≡ digits_in base g (n / base)) → turn f n b ≡ turn g n b
      go true e r = refl
      go false e r = let h = ltb-false n base e in ap (λ (d : List ℕ). n % base ∷ d) (r (fewer f n l h) (fewer g n m h))

  digits-one : (n : ℕ) → n < base → digits base n ≡ n ∷ []
  unfolding digits
  digits-one zero l = refl
  digits-one (suc n) l = ap (turn n (suc n)) (lt-ltb (suc n) base l)

  digits_more : (n : ℕ) → base ≤ n → digits base n ≡ n % base ∷ digits base (n / base)
  unfolding digits
  digits_more zero l = absurd (omega arith)
  digits_more (suc n) l =
      ap (turn n (suc n)) (le-ltb (suc n) base l)
      ∙ ap (λ (d : List ℕ). suc n % base ∷ d) (fuels n (suc n / base) (suc n / base) (fewer n (suc n) (omega arith) l) (omega arith))

-- a code: one character below 94, two below 94 times 94, the lowest digit first
pub code_one : (v : ℕ) → v < 94 → code v ≡ (33 + v) ∷ []
unfolding code
code_one v l = ap (map (λ d. 33 + d)) (digits-one 94 (omega arith) v l)

pub code_two : (v : ℕ) → 94 ≤ v → v < 8836 → code v ≡ (33 + v % 94) ∷ (33 + v / 94) ∷ []
unfolding code
code_two v l m =
    ap (map (λ d. 33 + d)) (digits_more 94 (omega arith) v l ∙ ap (λ (d : List ℕ). v % 94 ∷ d) (digits-one 94 (omega arith) (v / 94) (omega arith)))

pub code_short : (v : ℕ) → v < 8836 → length (code v) ≤ 2
code_short v m = go (ltb v 94) refl
  where
    go : (b : Bool) → ltb v 94 ≡ b → length (code v) ≤ 2
    go true e = rw (code_one v (ltb-true v 94 e)) (omega arith)
    go false e = rw (code_two v (ltb-false v 94 e) m) (omega arith)

-- a number: its last digit behind those of its tenth
map_last : (f : ℕ → ℕ) (l : List ℕ) (x : ℕ) → map f (l ++ (x ∷ [])) ≡ map f l ++ (f x ∷ [])
map_last f [] x = refl
map_last f (y ∷ l) x = ap (λ (m : List ℕ). f y ∷ m) (map_last f l x)

pub decimal-one : (n : ℕ) → n < 10 → decimal n ≡ (48 + n) ∷ []
unfolding decimal
decimal-one n l = ap (λ (d : List ℕ). map (λ x. 48 + x) (reverse d)) (digits-one 10 (omega arith) n l)

pub decimal_more : (n : ℕ) → 10 ≤ n → decimal n ≡ decimal (n / 10) ++ ((48 + n % 10) ∷ [])
unfolding decimal
decimal_more n l =
    ap (λ (d : List ℕ). map (λ x. 48 + x) (reverse d)) (digits_more 10 (omega arith) n l)
    ∙ ap (map (λ x. 48 + x)) (reverse-cons (n % 10) (digits 10 (n / 10)))
    ∙ map_last (λ x. 48 + x) (reverse (digits 10 (n / 10))) (n % 10)

pub length-one : (n : ℕ) → n < 10 → length (decimal n) ≡ 1
length-one n l = ap length (decimal-one n l)

pub length_more : (n : ℕ) → 10 ≤ n → length (decimal n) ≡ length (decimal (n / 10)) + 1
length_more n l = ap length (decimal_more n l) ∙ length-append (decimal (n / 10)) ((48 + n % 10) ∷ [])

pub length_two : (n : ℕ) → 10 ≤ n → n < 100 → length (decimal n) ≡ 2
length_two n l h = omega (arith, length_more n l, length-one (n / 10) (omega arith))

pub length_three : (n : ℕ) → 100 ≤ n → n < 1000 → length (decimal n) ≡ 3
length_three n l h = omega (arith, length_more n (omega arith), length_two (n / 10) (omega arith) (omega arith))

pub length_four : (n : ℕ) → 1000 ≤ n → n < 10000 → length (decimal n) ≡ 4
length_four n l h = omega (arith, length_more n (omega arith), length_three (n / 10) (omega arith) (omega arith))

pub length_five : (n : ℕ) → 10000 ≤ n → n < 100000 → length (decimal n) ≡ 5
length_five n l h = omega (arith, length_more n (omega arith), length_four (n / 10) (omega arith) (omega arith))

-- a number below ten times ten .. has as many digits at most
abbrev tens : ℕ → ℕ
tens zero = 10
tens (suc k) = 10 * tens k

pub decimal_few : (k n : ℕ) → n < tens k → length (decimal n) ≤ suc k
decimal_few zero n h = omega (arith, length-one n h)
decimal_few (suc k) n h = go (ltb n 10) refl (decimal_few k (n / 10))
  where
    go : (b : Bool) → ltb n 10 ≡ b → (n / 10 < tens k → length (decimal (n / 10)) ≤ suc k) → length (decimal n) ≤ suc (suc k)
    go true e r = omega (arith, length-one n (ltb-true n 10 e))
    go false e r = omega (arith, length_more n (ltb-false n 10 e), r (omega arith))

-- Codes and numbers, digit by digit, and a number as std writes it. Assumes nothing.
use Rattle.std.specs.Fmt as std
use Prim.Native.Nat.{ℕ, ◌+◌, ◌%◌, ◌^◌, ◌<◌}
use mathlib.Core.Path.{◌≡◌, ap, ◌∙◌, sym}
use mathlib.Core.List.{List, [], ◌∷◌, ◌++◌}
use Rattle.std.proofs.lemmas.Fmt.{decimal_by_steps}
use Rattle.waves.specs.Dump.{decimal}
use Rattle.wavelaws.proofs.Digits.{code_one, code_two, decimal-one, decimal_more, length-one, length_two, length_three, length_four, length_five}

-- the characters of a code, and how many digits a number has
pub ruleset digits = (code_one, code_two, length-one, length_two, length_three, length_four, length_five)

pub decimal_is : (n : ℕ) → n < 2 ^ 64 → std.decimal n ≡ decimal n
decimal_is =
    decimal_by_steps (λ n ds. ds ≡ decimal n)
    (λ n l. sym (decimal-one n l))
    (λ n ds l e. ap (λ (d : List ℕ). d ++ ((48 + n % 10) ∷ [])) e ∙ sym (decimal_more n l))

-- What a first field says, by its size and its first byte. Assumes nothing.
use Rattle.std.proofs.Common.{arith, ◌≡◌, refl, ℕ, Bool, true, false, cond, ◌&&◌, ◌||◌, eqb, List, [], ◌∷◌, length}
use borrow.Author.Tests.{ne_eqb}
use Rattle.model.specs.Places.{at, same}
use Rattle.text.specs.Lines.{opening}
use Rattle.text.specs.declared.DeviceType.TheVariants.{N, P, D}
use Rattle.text.specs.declared.Opening.{Opening}
use Rattle.text.specs.declared.Opening.TheVariants.{Of, Skipped, Other}

-- a field of one byte
abbrev pub of_byte : ℕ → Opening
of_byte b =
    cond (eqb b 101 || eqb b 110) (Of N)
    (cond (eqb b 112) (Of P)
    (cond (eqb b 100) (Of D)
    (cond (eqb b 124 || (eqb b 78 || (eqb b 67 || (eqb b 82 || eqb b 65)))) Skipped Other)))

abbrev pub by_first : ℕ → ℕ → Opening
by_first n b = cond (eqb n 0) Skipped (cond (eqb n 1) (of_byte b) (cond (eqb b 124) Skipped Other))

one : (b c : ℕ) → same (b ∷ []) (c ∷ []) ≡ eqb b c
one b c = go (eqb b c)
  where
    go : (x : Bool) → (x && true) ≡ x
    go true = refl
    go false = refl

longer : (b y : ℕ) (ys : List ℕ) (c : ℕ) → same (b ∷ y ∷ ys) (c ∷ []) ≡ false
longer b y ys c = go (eqb b c)
  where
    go : (x : Bool) → (x && false) ≡ false
    go true = refl
    go false = refl

or_none : (x : Bool) → (x || false) ≡ x
or_none true = refl
or_none false = refl

pub opening_is : (word : List ℕ) → opening word ≡ by_first (length word) (at word 0)
unfolding opening
opening_is [] = refl
opening_is (b ∷ []) = simp one
opening_is (b ∷ y ∷ ys) =
    let n = length (b ∷ y ∷ ys) in
    simp (longer, or_none, ne_eqb n 0 (λ e. omega arith), ne_eqb n 1 (λ e. omega arith))

-- What a search through a table says of its places: where a loop ends, and what std's searches through a list answer. Assumes nothing.
use Prim.Native.Nat.{ℕ, zero, suc, ◌+◌, ◌≤◌}
use native.Mathlib.Nat.{not-suc-le-zero, le_of_suc-le-suc}
use native.Mathlib.Omega.{arith}
use mathlib.Core.Path.{◌≡◌, refl, ap, ap₂, ◌∙◌, sym}
use mathlib.Core.Bool.{Bool, true, false, not, cond, ◌||◌}
use mathlib.Core.List.{List, [], ◌∷◌}
use borrow.Author.Tests.{lt-ltb, le-ltb, ltb-true, ltb-false}
use lib.ListN.{length, take}
use Rattle.std.proofs.Common.{Some, None}
use Rattle.std.specs.List.{position, position_or_len, list_any}
use Rattle.std.specs.Prelude.{Option, ltb}
use Rattle.std.specs.Prelude.{find}
use Rattle.std.specs.List.{range_with_len}
use Rattle.std.specs.Option.{option_map}
use Rattle.model.specs.Places.{some, first, at}
use Rattle.tables.specs.Place.{place_of}

-- `position`
position_first : (p : ℕ → Bool) (xs : List ℕ) → position_or_len p xs ≡ first (length xs) (λ k. p (at xs k))
position_first p [] = refl
position_first p (x ∷ xs) = go (p x) (position_first p xs)
  where
    rest : ℕ
    rest = first (length xs) (λ k. p (at xs k))

    go : (b : Bool) → position_or_len p xs ≡ rest → cond (not b) (1 + position_or_len p xs) 0 ≡ elim b as (λ c. ℕ) [ true ↦ zero | false ↦ suc rest ]
    go true e = refl
    go false e = omega arith

pub place_from_position : (p : ℕ → Bool) (xs : List ℕ) → position p xs ≡ place_of (length xs) (λ k. p (at xs k))
place_from_position p xs = rw (position_first p xs)

-- `contains`, in the front of a table
pub any_front : (p : ℕ → Bool) (e : ℕ) (xs : List ℕ) → e ≤ length xs → list_any p (take e xs) ≡ some e (λ k. p (at xs k))
any_front p zero xs l = refl
any_front p (suc e) [] l = absurd (not-suc-le-zero l)
any_front p (suc e) (x ∷ xs) l = ap (λ (b : Bool). p x || b) (any_front p e xs (le_of_suc-le-suc l))

plain : (a : ℕ) → a ≡ a + 0
plain a = omega arith

next : (a k : ℕ) → a + 1 + k ≡ a + suc k
next a k = omega arith

same_test : (k n : ℕ) (b : Bool) → ltb k n ≡ b → b ≡ ltb (suc k) (suc n)
same_test k n true e = sym (lt-ltb (suc k) (suc n) (omega (arith, ltb-true k n e)))
same_test k n false e = sym (le-ltb (suc k) (suc n) (omega (arith, ltb-false k n e)))

-- `find`, over the places below n
module _ (p : ℕ → Bool) where
  abbrev Found : (q : ℕ → Bool) (a n : ℕ) → Type 0
  Found q a n = find p (range_with_len a n) ≡ cond (ltb (first n q) n) (Some (a + first n q)) None

  one_more : (q : ℕ → Bool) (a n : ℕ) → p a ≡ q 0 → Found (λ k. q (suc k)) (a + 1) n → Found q a (suc n)
  one_more q a n e rest = go (q 0) e
    where
      later : ℕ
      later = first n (λ k. q (suc k))

      go : (b : Bool) → p a ≡ b
          → cond (p a) (Some a) (find p (range_with_len (a + 1) n)) ≡ (let k = elim b as (λ c. ℕ) [ true ↦ zero | false ↦ suc later ] in cond (ltb k (suc n)) (Some (a + k)) None)
      go true d = rw (d, lt-ltb 0 (suc n) (omega arith)) (ap Some (plain a))
      go false d = rw d (rest ∙ ap₂ (λ (c : Bool) (x : ℕ). cond c (Some x) None) (same_test later n _ refl) (next a later))

  find_from : (q : ℕ → Bool) (a n : ℕ) → ((k : ℕ) → p (a + k) ≡ q k) → Found q a n
  find_from q a zero h = refl
  find_from q a (suc n) h =
      one_more q a n (ap p (plain a) ∙ h 0) (find_from (λ k. q (suc k)) (a + 1) n (λ k. ap p (next a k) ∙ h (suc k)))

  pub place_from_find : (n : ℕ) → find p (range_with_len 0 n) ≡ place_of n p
  place_from_find n =
      find_from p 0 n (λ k. ap p (from_0 k)) ∙ ap (λ (x : ℕ). cond (ltb (first n p) n) (Some x) None) (from_0 (first n p))
    where
      from_0 : (k : ℕ) → 0 + k ≡ k
      from_0 k = omega arith

pub as_found : (r : Option ℕ) → r ≡ option_map (λ k. k) r
as_found None = refl
as_found (Some k) = refl

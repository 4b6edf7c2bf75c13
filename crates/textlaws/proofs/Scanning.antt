-- A scan of the text, told by the place at which it stops. Assumes nothing.
use Prim.Native.Nat.{ℕ, ◌+◌, ◌-◌, ◌≤◌, ◌<◌}
use native.Mathlib.Omega.{arith}
use native.Mathlib.Decide.{dec_lt, dec_le}
use mathlib.Core.Path.{◌≡◌, refl, sym, ap, subst, ◌∙◌}
use mathlib.Core.Logic.{inl, inr}
use mathlib.Core.Bool.{Bool, true, false, not, ◌||◌, true≢false}
use mathlib.Core.List.{List}
use borrow.Author.Tests.{eqb-true}
use lib.ListN.{length}
use Rattle.model.specs.Places.{at, first}
use Rattle.text.specs.Bytes.{next}
use Rattle.text.specs.Lines.{feed, blank, line_end}
use Rattle.laws.proofs.Judged.{Least, first_says}
use Rattle.basis.proofs.Finding.{first-at, first_none}
use Rattle.textlaws.proofs.Tests.{or_none}

-- r is the first place from i on and below e whose byte passes the test, or e, where there is none
pub record Next (test : ℕ → Bool) (text : List ℕ) (i e r : ℕ) : Type 0 where
  pub from : i ≤ r
  pub below : r ≤ e
  pub none : (k : ℕ) → i ≤ k → k < r → test (at text k) ≡ false
  pub found : r < e → test (at text r) ≡ true

module _ (test : ℕ → Bool) (text : List ℕ) (i e : ℕ) (l : i ≤ e) where
  abbrev passes : ℕ → Bool
  passes k = test (at text (i + k))

  pub next_says : Next test text i e (next test text i e)
  unfolding next
  next_says = go (first (e - i) passes) (first_says (e - i) passes)
    where
      none_before : (k : ℕ) → ((q : ℕ) → q < k → passes q ≡ false) → (j : ℕ) → i ≤ j → j < i + k → test (at text j) ≡ false
      none_before k f j a b = subst (λ (x : ℕ). test (at text x) ≡ false) (back a) (f (j - i) (omega arith))
        where
          back : i ≤ j → i + (j - i) ≡ j
          back a = omega arith

      go : (k : ℕ) → Least (e - i) passes k → Next test text i e (i + k)
      go k (inl h) = record { from = omega arith; below = omega (arith, h.0); none = none_before k h.2; found = λ m. h.1 }
      go k (inr h) = record { from = omega arith; below = omega (arith, h.0); none = none_before k (λ q m. h.1 q (omega (arith, h.0))); found = λ m. absurd (omega (arith, h.0)) }

  pub next_is : (r : ℕ) → Next test text i e r → r ≡ next test text i e
  unfolding next
  next_is r n = elim (dec_lt r e) [ yes h ↦ at_one h | no h ↦ at_end (omega arith) ]
    where
      back : i + (r - i) ≡ r
      back = omega (arith, n.from)

      none : (q : ℕ) → q < r - i → passes q ≡ false
      none q m = n.none (i + q) (omega arith) (omega arith)

      at_one : r < e → r ≡ i + first (e - i) passes
      at_one h = sym back ∙ ap (λ (k : ℕ). i + k) (first-at (e - i) passes (r - i) (omega (arith, n.from)) (subst (λ (x : ℕ). test (at text x) ≡ true) (sym back) (n.found h)) none)

      at_end : e ≤ r → r ≡ i + first (e - i) passes
      at_end h = sym back ∙ ap (λ (k : ℕ). i + k) (first_none (e - i) passes (r - i) (omega (arith, n.below)) (omega (arith, n.below)) none)

-- a line's end, and scans within the line that look for it on the way
module _ (text : List ℕ) (i : ℕ) (l : i ≤ length text) where
  pub end_says : Next feed text i (length text) (line_end text i)
  end_says = next_says feed text i (length text) l

  -- from any place of a line it has the same end
  pub end_kept : (j : ℕ) → i ≤ j → j ≤ line_end text i → line_end text j ≡ line_end text i
  end_kept j a b =
      sym
      (next_is feed text j (length text) (omega (arith, end_says.below)) (line_end text i)
      (record { from = b; below = end_says.below; none = λ k c d. end_says.none k (omega arith) d; found = end_says.found }))

  -- a scan that stops at a line feed too has no need of the line's end
  pub in_line : (test stops : ℕ → Bool) → ((b : ℕ) → stops b ≡ (test b || feed b)) → next stops text i (length text) ≡ next test text i (line_end text i)
  in_line test stops f = stopped (next stops text i (length text)) (next_says stops text i (length text) l)
    where
      or_one : (x y : Bool) → (x || y) ≡ true → y ≡ false → x ≡ true
      or_one true y h k = refl
      or_one false y h k = absurd (true≢false (sym h ∙ k))

      stopped : (r : ℕ) → Next stops text i (length text) r → r ≡ next test text i (line_end text i)
      stopped r n = next_is test text i (line_end text i) end_says.from r (record { from = n.from; below = before; none = λ k a b. (passed k a b).0; found = found })
        where
          passed : (k : ℕ) → i ≤ k → k < r → (test (at text k) ≡ false) × (feed (at text k) ≡ false)
          passed k a b = or_none (test (at text k)) (feed (at text k)) (sym (f (at text k)) ∙ n.none k a b)

          before : r ≤ line_end text i
          before = elim (dec_le r (line_end text i)) [ yes h ↦ h | no h ↦ absurd (true≢false (sym (end_says.found (omega (arith, n.below))) ∙ (passed (line_end text i) end_says.from (omega arith)).1)) ]

          found : r < line_end text i → test (at text r) ≡ true
          found h = or_one (test (at text r)) (feed (at text r)) (sym (f (at text r)) ∙ n.found (omega (arith, end_says.below))) (end_says.none r n.from h)

-- a line feed is no blank
pub word_stops : (b : ℕ) → not (blank b) ≡ (not (blank b) || feed b)
word_stops b = go (feed b) refl
  where
    or-false : (x : Bool) → x ≡ (x || false)
    or-false true = refl
    or-false false = refl

    go : (y : Bool) → feed b ≡ y → not (blank b) ≡ (not (blank b) || y)
    go true e = rw (eqb-true b 10 e)
    go false e = or-false (not (blank b))

-- The lists of branches, one transistor after the other. Assumes nothing.
use Prim.Native.Nat.{ℕ, ◌+◌, ◌*◌, ◌≤◌, ◌<◌}
use native.Mathlib.Omega.{arith}
use mathlib.Core.Path.{◌≡◌, refl, sym, ◌∙◌, subst}
use mathlib.Core.Logic.{◌⊎◌, inl, inr}
use mathlib.Core.Bool.{Bool, true, false, not, ◌&&◌, true≢false}
use mathlib.Core.List.{List}
use lib.ListN.{length}
use Rattle.model.specs.Places.{at}
use Rattle.model.specs.Net.{Net, nodes, transistors, is_input, stand_at}
use Rattle.model.specs.Ways.{choose}
use Rattle.basis.specs.Sound.{Checked}
use Rattle.branches.specs.Branch.{Wires, Linked}
use Rattle.branches.proofs.Ends.{end_even, end_odd}
use Rattle.layout.specs.Layout.{doubtful, wires}
use Rattle.layout.specs.Look.{pushed}
use Rattle.layout.proofs.Laid.{between, listed_even, listed_odd, unsure_even, unsure_odd}
use Rattle.branches.proofs.Lists.{linked-same}
use Rattle.layout.proofs.Lists.{linked_skip, linked_push, pushed_long}

between_off : (x i j : Bool) → (x ≡ false) ⊎ ((i ≡ true) ⊎ (j ≡ true)) → (x && (not i && not j)) ≡ false
between_off true true j e = refl
between_off true false true e = refl
between_off true false false (inl e) = e
between_off true false false (inr (inl e)) = absurd (true≢false (sym e))
between_off true false false (inr (inr e)) = absurd (true≢false (sym e))
between_off false i j e = refl

module _ (net : Net) (s : List ℕ) (t : ℕ) where
  abbrev a : ℕ
  a = at net.sources t

  abbrev b : ℕ
  b = at net.drains t

  -- transistor t is open, or has an input at one of its ends
  abbrev pub Unlisted : Type 0
  Unlisted = (choose (stand_at net s t) true ≡ false) ⊎ ((is_input net a ≡ true) ⊎ (is_input net b ≡ true))

  module _ (c : List ℕ) where
    abbrev G : Wires
    G = wires net s c

    both_passed : {w : List ℕ} → Linked G (2 * t + 1 + 1) w → Linked G (2 * (t + 1)) w
    both_passed {w} z =
        let e : 2 * t + 1 + 1 ≡ 2 * (t + 1) = omega arith in
        subst (λ (h : ℕ). Linked G h w) e z

    -- then neither branch is listed
    pub linked_off : {w w' : List ℕ} → Unlisted → ((j : ℕ) → 3 * nodes net ≤ j → at w' j ≡ at w j) → Linked G (2 * t) w → Linked G (2 * (t + 1)) w'
    linked_off f q z =
        both_passed (linked_skip G (2 * t + 1) (listed_odd net s c t ∙ e) (linked_skip G (2 * t) (listed_even net s c t ∙ e) (linked-same q z)))
      where
        e : between net s t ≡ false
        e = between_off (choose (stand_at net s t) true) (is_input net a) (is_input net b) f

    -- else both are
    module _ (unsure : Bool) (w : List ℕ) (C : Checked net s (length w)) (tl : t < transistors net) (e : between net s t ≡ true) (d : doubtful net s t ≡ unsure) where
      abbrev w₁ : List ℕ
      w₁ = pushed (nodes net) a (2 * t) unsure w

      abbrev w₂ : List ℕ
      w₂ = pushed (nodes net) b (2 * t + 1) unsure w₁

      linked-first : Linked G (2 * t) w → Linked G (2 * t + 1) w₁
      linked-first z =
          linked_push G (2 * t) w a unsure (end_even net.sources net.drains t) (unsure_even net s c t ∙ d) (C.wired t tl).source (omega (arith, C.fits))
          (listed_even net s c t ∙ e) z

      linked_second : Linked G (2 * t + 1) w₁ → Linked G (2 * t + 1 + 1) w₂
      linked_second z =
          linked_push G (2 * t + 1) w₁ b unsure (end_odd net.sources net.drains t) (unsure_odd net s c t ∙ d) (C.wired t tl).drain
          (omega (arith, C.fits, pushed_long (nodes net) a (2 * t) unsure w)) (listed_odd net s c t ∙ e) z

      pub linked_on : Linked G (2 * t) w → Linked G (2 * (t + 1)) w₂
      linked_on z = both_passed (linked_second (linked-first z))

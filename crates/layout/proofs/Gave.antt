-- The cells of a gift: one tells of more, the others stay. Assumes nothing.
use Prim.Native.Nat.{ℕ, ◌/◌, ◌<◌}
use mathlib.Core.Path.{◌≡◌, sym, ap, ◌∙◌}
use mathlib.Core.List.{List}
use lib.ListN.{length, set}
use lib.Seq.{get_or-set_same, get_or-set_other, set-get_or}
use Rattle.model.specs.Places.{at}
use Rattle.branches.specs.Code.{together}
use Rattle.branches.proofs.Codes.{together-same}
use Rattle.layout.specs.Look.{gave}

module _ (place x : ℕ) (w : List ℕ) where
  pub gave_here : place < length w → at (gave place x w) place ≡ together (at w place) x
  unfolding gave
  gave_here l = get_or-set_same w place (together (at w place) x) 0 l

  pub gave_else : (j : ℕ) → (j ≡ place → ⊥) → at (gave place x w) j ≡ at w j
  unfolding gave
  gave_else j d = get_or-set_other w place j (together (at w place) x) 0 d

  -- what the code leaves: a cell that tells of x already stays as it is
  pub gave_is : (y : ℕ) → y ≡ together (at w place) x → set w place y ≡ gave place x w
  unfolding gave
  gave_is y e = ap (set w place) e

  pub gave_same : at w place ≡ x → w ≡ gave place x w
  unfolding gave
  gave_same e = sym (ap (set w place) (sym (together-same (at w place) x (ap (λ (m : ℕ). m / 4) e) e)) ∙ set-get_or w place 0)

-- `cells::clear` meets its contract. Assumes nothing.
use Prim.Native.Nat.{ℕ, ◌<◌}
use native.Mathlib.Nat.{zero-add}
use native.Mathlib.Omega.{arith}
use mathlib.Core.Path.{◌≡◌, refl, sym, ◌∙◌}
use mathlib.Core.List.{List}
use mathlib.Core.Bool.{Bool, true, false}
use lib.ListN.{length}
use lib.Dec.{ltb}
use lib.Seq.{ext_get_or}
use borrow.Author.Tests.{ltb-true, ltb-false}
use Rattle.model.specs.Places.{at}
use Rattle.model.specs.Entries.{cleared}
use Rattle.laws.proofs.Outcomes.{cleared-length, cleared-cell, cleared-rest}
use Rattle.basis.specs.Cells.{Written}
use Rattle.cells.proofs.clear.Goals as goal

zeroed : {w w' : List ℕ} {used : ℕ} → Written (λ k. 0) w 0 used w' → length w' ≡ length w → w' ≡ cleared used w
zeroed {w} {w'} {used} z e = ext_get_or 0 w' (cleared used w) (e ∙ sym (cleared-length used w)) (λ i l. go i (omega arith) (ltb i used) refl)
  where
    go : (i : ℕ) → i < length w → (b : Bool) → ltb i used ≡ b → at w' i ≡ at (cleared used w) i
    go i l true q = rw zero-add at (z.inside i (ltb-true i used q)) ∙ sym (cleared-cell used w i l (ltb-true i used q))
    go i l false q = z.after i (omega (arith, ltb-false i used q)) ∙ sym (cleared-rest used w i l (ltb-false i used q))

pub returns : goal.returns
returns c = zeroed c.zero.ensures (omega (arith, c.zero.auto))

-- The parts of a step, each from what the ones before it promise of any branches: here, of those that the layout lists. Assumes nothing.
use Prim.Native.Nat.{ℕ, ◌≤◌}
use mathlib.Core.Path.{◌≡◌}
use mathlib.Core.Bool.{Bool}
use mathlib.Core.List.{List, []}
use lib.ListN.{length}
use Rattle.model.specs.Net.{Net, nodes, transistors}
use Rattle.basis.specs.Sound.{Checked}
use Rattle.basis.specs.Cells.{Written, Bytes}
use Rattle.basis.specs.Steps.{rule_one, Evaluated}
use Rattle.branches.specs.Branch.{Wires, wires_by}
use Rattle.layout.specs.Layout.{wires, LaidOut}
use Rattle.joined.specs.Sets.{Startable, Parted}
use Rattle.stepper.specs.Step.{Fillable, Full, next}
use Rattle.stepper.proofs.Steps.{startable, fillable0, fillable1, evaluated}

module _ {net : Net} {s : List ℕ} {room : ℕ} (C : Checked net s room) {w₀ w₁ : List ℕ} (L : LaidOut net s (transistors net) w₀ w₁) (e₁ : length w₁ ≡ room) where
  abbrev W : (ℕ → Bool) → (ℕ → Bool) → Wires
  W = wires_by (nodes net) net.sources net.drains []

  abbrev G : Wires
  G = wires net s []

  pub parting : (listed : ℕ → Bool) × (unsure : ℕ → Bool) × Startable (W listed unsure) w₁
  parting = (G.listed, G.unsure, startable net s C L e₁)

  module _ {w₂ : List ℕ} {kept : ℕ} (P : (listed unsure : ℕ → Bool) → Startable (W listed unsure) w₁ → Parted (W listed unsure) w₁ w₂ kept) (e₂ : length w₂ ≡ room) where
    parted : Parted G w₁ w₂ kept
    parted = P G.listed G.unsure (startable net s C L e₁)

    pub filling0 : (kept ≤ nodes net) × ((listed : ℕ → Bool) × (unsure : ℕ → Bool) × Fillable (W listed unsure) (nodes net) kept w₂)
    filling0 = (parted.few, (G.listed, G.unsure, fillable0 net s C L parted e₂))

    module _ {w₃ : List ℕ} (A : (listed unsure : ℕ → Bool) → Fillable (W listed unsure) (nodes net) kept w₂ → Full (W listed unsure) (nodes net) kept w₂ w₃)
        (e₃ : length w₃ ≡ room) where
      filled : Full G (nodes net) kept w₂ w₃
      filled = A G.listed G.unsure (fillable0 net s C L parted e₂)

      pub filling1 : (kept ≤ nodes net) × ((listed : ℕ → Bool) × (unsure : ℕ → Bool) × Fillable (W listed unsure) 0 kept w₃)
      filling1 = (parted.few, (G.listed, G.unsure, fillable1 net s C L parted filled e₃))

      pub whole : {w₄ w₅ : List ℕ} → ((listed unsure : ℕ → Bool) → Fillable (W listed unsure) 0 kept w₃ → Full (W listed unsure) 0 kept w₃ w₄)
          → Written (next net s w₄) w₄ 0 (nodes net) w₅ → Bytes (nodes net) w₅ → Evaluated (rule_one net) s w₀ w₅
      whole B = evaluated net s C L parted filled (B G.listed G.unsure (fillable1 net s C L parted filled e₃))

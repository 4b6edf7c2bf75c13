-- How many branches start at nodes that take part: no more than there are. Assumes nothing.
use Prim.Native.Nat.{ℕ, ◌+◌, ◌*◌, ◌≤◌, ◌<◌}
use native.Mathlib.Omega.{arith}
use native.Mathlib.Nat.{le_trans}
use native.Mathlib.Decide.{ℕ_discrete, dec_lt}
use mathlib.Core.Path.{◌≡◌, refl}
use mathlib.Core.Bool.{true, cond}
use mathlib.Core.List.{List}
use lib.Dec.{eqb, ltb}
use borrow.Author.Tests.{eq-eqb, ne_eqb, lt-ltb, le-ltb}
use Rattle.branches.specs.Branch.{total, Wires, branches, degrees}
use Rattle.branches.proofs.Degrees.{total-same, total_le, total-add, cond_le, degrees_bound}
use Rattle.strengths.specs.Spread.{cell}
use Rattle.strengths.specs.Level.{share, weigh}

-- at those whose cell is c
pub weigh_bound : (G : Wires) {mem : ℕ → ℕ} {m : ℕ} → ((j k : ℕ) → j < k → k < m → mem j ≡ mem k → ⊥) → (w : List ℕ) (table c : ℕ) → weigh (degrees G) mem m w table c ≤ branches G
weigh_bound G {mem} {m} once w table c = le_trans (total_le _ (λ k. degrees G (mem k)) m (λ k l. cond_le (eqb (cell w table (mem k)) c) true _ (λ e. refl))) (degrees_bound G once (branches G))

-- f v where the table has more than c at v, and 0 elsewhere
abbrev pub excess : (ℕ → ℕ) → List ℕ → ℕ → ℕ → ℕ → ℕ
excess f w table c v = cond (ltb c (cell w table v)) (f v) 0

-- f summed over those of the m nodes at which the table has more than c
abbrev pub heavier : (ℕ → ℕ) → (ℕ → ℕ) → ℕ → List ℕ → ℕ → ℕ → ℕ
heavier f mem m w table c = total (λ k. excess f w table c (mem k)) m

pub heavier_bound : (G : Wires) {mem : ℕ → ℕ} {m : ℕ} → ((j k : ℕ) → j < k → k < m → mem j ≡ mem k → ⊥) → (w : List ℕ) (table c : ℕ) → heavier (degrees G) mem m w table c ≤ branches G
heavier_bound G {mem} {m} once w table c = le_trans (total_le _ (λ k. degrees G (mem k)) m (λ k l. cond_le (ltb c (cell w table (mem k))) true _ (λ e. refl))) (degrees_bound G once (branches G))

module _ (f mem : ℕ → ℕ) (m table c : ℕ) where
  -- those above c stay where no cell sinks and none rises above c
  module _ (w u : List ℕ) (rises : (k : ℕ) → k < m → cell w table (mem k) ≤ cell u table (mem k))
      (stays : (k : ℕ) → k < m → c < cell u table (mem k) → cell w table (mem k) ≡ cell u table (mem k)) where
    heavier_same : heavier f mem m u table c ≡ heavier f mem m w table c
    heavier_same = total-same (λ k. excess f u table c (mem k)) (λ k. excess f w table c (mem k)) m (λ k l. go k l (dec_lt c (cell u table (mem k))))
      where
        go : (k : ℕ) → k < m → Dec (c < cell u table (mem k)) → excess f u table c (mem k) ≡ excess f w table c (mem k)
        go k l (yes p) = rw (stays k l p) refl
        go k l (no p) = rw (le-ltb c (cell u table (mem k)) (omega arith), le-ltb c (cell w table (mem k)) (omega (arith, rises k l))) refl

  -- those above c and those at c are above r
  heavier_next : (u : List ℕ) (r : ℕ) → r < c → heavier f mem m u table c + weigh f mem m u table c ≤ heavier f mem m u table r
  heavier_next u r e =
      rw⁻¹ (total-add (λ k. excess f u table c (mem k)) (λ k. share f u table c (mem k)) m)
      (total_le (λ k. excess f u table c (mem k) + share f u table c (mem k)) (λ k. excess f u table r (mem k)) m (λ k l. go (cell u table (mem k)) (f (mem k)) (dec_lt c (cell u table (mem k))) (ℕ_discrete (cell u table (mem k)) c)))
    where
      go : (x y : ℕ) → Dec (c < x) → Dec (x ≡ c) → cond (ltb c x) y 0 + cond (eqb x c) y 0 ≤ cond (ltb r x) y 0
      go x y (yes l) (yes q) = absurd (omega arith)
      go x y (yes l) (no q) = rw (lt-ltb c x l, ne_eqb x c q, lt-ltb r x (omega arith)) (omega arith)
      go x y (no l) (yes q) = rw (le-ltb c x (omega arith), eq-eqb x c q, lt-ltb r x (omega arith)) (omega arith)
      go x y (no l) (no q) = rw (le-ltb c x (omega arith), ne_eqb x c q) (omega arith)

-- what a level visits lies between what lay above it before and what lies above the next one
pub heavier_level : (G : Wires) (mem : ℕ → ℕ) (m table s r a b : ℕ) (w u : List ℕ) → r + 1 ≡ s → ((k : ℕ) → k < m → mem k < G.size)
    → ((v : ℕ) → v < G.size → cell w table v ≤ cell u table v) → ((v : ℕ) → v < G.size → 2 * s + 1 < cell u table v → cell w table v ≡ cell u table v)
    → a ≤ heavier (degrees G) mem m w table (2 * s + 1) → b ≡ weigh (degrees G) mem m u table (2 * s + 1) → a + b ≤ heavier (degrees G) mem m u table (2 * r + 1)
heavier_level G mem m table s r a b w u e i p q c d =
    omega (arith, heavier_same (degrees G) mem m table (2 * s + 1) w u (λ k l. p (mem k) (i k l)) (λ k l. q (mem k) (i k l)), heavier_next (degrees G) mem m table (2 * s + 1) u (2 * r + 1) (omega arith))

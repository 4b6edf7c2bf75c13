-- All levels, the strongest first. Assumes nothing.
use Prim.Native.Nat.{ℕ, ◌+◌, ◌*◌, ◌≤◌, ◌<◌}
use native.Mathlib.Omega.{arith}
use native.Mathlib.Nat.{le_refl, le_trans}
use native.Mathlib.Decide.{ℕ_discrete}
use mathlib.Core.Path.{◌≡◌, refl, sym, ap, ◌∙◌, subst}
use mathlib.Core.Bool.{Bool, true}
use mathlib.Core.List.{List}
use lib.ListN.{length}
use Rattle.std.specs.Prelude.{Option}
use Rattle.branches.specs.Branch.{Wires, near, far, branches, followed, amount, degrees}
use Rattle.branches.proofs.Degrees.{total-same}
use Rattle.strengths.specs.declared.Spread.{Spread}
use Rattle.strengths.specs.Spread.{cell, member_at, began, Ready, Filled, wires_of}
use Rattle.strengths.specs.Level.{Level, Spreadable}
use Rattle.strengths.proofs.Moves.{rose_on}
use Rattle.strengths.proofs.Members.{member_same, ready_same}
use Rattle.strengths.proofs.Costs.{heavier, heavier_bound, heavier_level}

-- the strengths above s have spread from w to u, with so many visits
pub record Falling (G : Wires) (all : Bool) (table : ℕ) (order : Option ℕ) (m queue s : ℕ) (w u : List ℕ) (visits : ℕ) : Type 0 where
  pub long : length u ≡ length w
  pub filled : Filled G all table order m queue s w u
  pub spent : visits ≤ heavier (degrees G) (member_at order w) m u table (2 * s + 1)

module _ {G : Wires} {table : ℕ} {order : Option ℕ} {m queue : ℕ} {w : List ℕ} (R : Ready G table order m queue w) where
  pub falling_start : {all : Bool} {top : ℕ} → ((k : ℕ) → k < m → cell w table (member_at order w k) ≤ 2 * top + 1) → Falling G all table order m queue top w w 0
  falling_start {all} {top} t = record {
    long = refl;
    filled = record {
      other = λ j p q. refl;
      apart = λ v l d. refl;
      above = λ v l. le_refl _;
      sound = λ v l. began v l;
      shut = λ j k h jl p l o e q. absurd (omega (arith, t j jl, ap (cell w table) e));
    };
    spent = omega arith;
  }

  module _ {all : Bool} {s visits : ℕ} {u : List ℕ} (z : Falling G all table order m queue s w u visits) where
    pub falling_few : visits ≤ branches G
    falling_few = le_trans z.spent (heavier_bound G R.part.once u table (2 * s + 1))

    pub falling_ready : Ready G table order m queue u
    falling_ready = ready_same R u z.filled.other z.long

    members : (k : ℕ) → k < m → member_at order u k ≡ member_at order w k
    members = member_same R u z.filled.other

    pub falling_next : {x : List ℕ} {c : ℕ} (r : ℕ) → r + 1 ≡ s → Level G all table order m queue s u x c → Falling G all table order m queue r w x (visits + c)
    falling_next {x} {c} r e v = record {
      long = v.long ∙ z.long;
      filled = record {
        other = λ j p q. v.other j p q ∙ z.filled.other j p q;
        apart = λ y l d. v.apart y l (λ i il q. d i il (sym (members i il) ∙ q)) ∙ z.filled.apart y l d;
        above = λ y l. le_trans (z.filled.above y l) (v.above y l);
        sound = λ y l. rose_on z.filled.sound z.filled.above R.laid.fars (v.sound y l);
        shut = λ j k h jl p l o n q. go j k h jl p l o n q (ℕ_discrete k s);
      };
      spent = heavier_level G (member_at order w) m table s r visits c u x e (λ k l. R.part.nodes k l) v.above v.kept z.spent (v.counted ∙ total-same _ _ m (λ k l. rw (members k l) refl));
    }
      where
        go : (j k h : ℕ) → j < m → r < k → h < branches G → followed G all h ≡ true → near G h ≡ member_at order w j
            → cell x table (near G h) ≡ 2 * k + 1 → Dec (k ≡ s) → 2 * amount G k h ≤ cell x table (far G h)
        go j k h jl p l o n q (yes f) =
            subst (λ (y : ℕ). 2 * amount G y h ≤ cell x table (far G h)) (sym f)
            (v.full j h jl l o (n ∙ sym (members j jl)) (subst (λ (y : ℕ). cell x table (near G h) ≡ 2 * y + 1) f q))
        go j k h jl p l o n q (no f) =
            let same : cell u table (near G h) ≡ cell x table (near G h) = v.kept (near G h) (R.laid.nears h l) (omega arith) in
            le_trans (z.filled.shut j k h jl (omega arith) l o n (same ∙ q)) (v.above (far G h) (R.laid.fars h l))

-- the next level may spread
abbrev pub falling_spreadable : (S : Spread) {listed unsure : ℕ → Bool} {w u : List ℕ} {s visits : ℕ} → Ready (wires_of S listed unsure) S.table S.order S.members S.queue w
    → Falling (wires_of S listed unsure) S.all S.table S.order S.members S.queue s w u visits → Spreadable S u
falling_spreadable S {listed} {unsure} R z = record { listed = listed; unsure = unsure; ready = falling_ready R z }

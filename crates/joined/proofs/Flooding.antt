-- A set is flooded: the queue then holds its nodes, all of them, each once. Assumes nothing.
use Prim.Native.Nat.{ℕ, ◌+◌, ◌*◌, ◌≤◌, ◌<◌}
use native.Mathlib.Omega.{arith}
use native.Mathlib.Nat.{le_refl}
use mathlib.Core.Path.{◌≡◌, refl, sym, subst}
use mathlib.Core.Bool.{Bool}
use mathlib.Core.List.{List}
use mathlib.Core.Logic.{inr}
use lib.ListN.{length}
use Rattle.model.specs.Places.{at}
use Rattle.branches.specs.Branch.{prefix, Wires, degrees}
use Rattle.branches.specs.declared.Wiring.{Wiring}
use Rattle.branches.proofs.Degrees.{prefix_same}
use Rattle.joined.specs.declared.Found.{Found}
use Rattle.joined.specs.Sets.{here, Untaken, Sum, one, wired}
use Rattle.joined.specs.Floods.{Reached, Emptied, begins, takes}
use Rattle.joined.specs.Kept.{spent, Room, Ready, Spread, Emptying, Fannable, Floodable}
use Rattle.joined.proofs.Sums.{spent_few}
use Rattle.joined.proofs.Reaching.{Reach, reached, spread-room}
use Rattle.joined.proofs.Fanning.{fan_law}

module _ (G : Wires) {w : List ℕ} {v : ℕ} (f : Found) (R : Ready G w) (u : Untaken G w v) (c : f.code ≡ at w (G.size + v)) (worth : (g : ℕ → ℕ) → prefix g w (2 * G.size) f.tail ≤ spent g w G.size G.size) where
  -- before its first node joins
  pub spread_none : Spread G w v f.tail w f.tail f.code
  spread_none = record {
    long = refl;
    offers = λ j l. refl;
    front = λ j l. refl;
    after = λ j l. refl;
    ordered = le_refl _;
    members = λ j l i. absurd (omega arith);
    others = λ x l. inr refl;
    once = λ i j l k m. absurd (omega arith);
    sum = subst (λ (y : ℕ). Sum G w v y) (sym c) (one v here u.0);
    whole = λ j l i. absurd (omega arith);
    told = rw c (R.told v u);
    worth = worth;
  }

  -- once it has joined, nothing is done with yet
  pub emptying_none : {x : List ℕ} {g : Found} → f.visits ≤ spent (degrees G) w G.size G.size → Reached G.size v w f x g → Emptying G w v f.tail f.tail x g
  emptying_none {x} {g} p r = record {
    ready = R;
    spread = z.spread;
    low = le_refl _;
    high = z.grown.more;
    self = z.member u;
    done = λ j h l i. absurd (omega arith);
    quiet = λ e j l i. absurd (omega arith);
    paid = omega (arith, p, z.visits, z.grown.level (degrees G), prefix_same (degrees G) w x (2 * G.size) f.tail z.grown.old);
  }
    where
      z : Reach G w v f.tail v w f x g
      z = reached G R spread_none u.0 here r

-- nodes are taken from the queue
pub emptied_law : (W : Wiring) (listed unsure : ℕ → Bool) {w₀ w : List ℕ} {v from : ℕ} {f : Found} {x : List ℕ} {g : Found} {k : ℕ} → Emptying (wired W listed unsure) w₀ v from from w f → Emptied W from w f x g k
    → Emptying (wired W listed unsure) w₀ v from k x g
emptied_law W listed unsure z begins = z
emptied_law W listed unsure z (takes e l s) = fan_law W listed unsure _ _ _ (emptied_law W listed unsure z e) l s

-- the code's loop over the queue
module _ {W : Wiring} {v : ℕ} {w : List ℕ} {f : Found} (F : Floodable W v w f) where
  abbrev wires : Wires
  wires = wired W F.listed F.unsure

  pub flood_room : Room W.nodes w f.tail
  flood_room = spread-room wires F.ready (spread_none wires f F.ready F.untaken F.code F.worth)

  pub flood_inside : v < W.nodes
  flood_inside = F.untaken.0

  module _ {u x : List ℕ} {h g : Found} {k : ℕ} (r : Reached W.nodes v w f u h) (e : Emptied W f.tail u h x g k) where
    emptying : Emptying wires w v f.tail k x g
    emptying = emptied_law W F.listed F.unsure (emptying_none wires f F.ready F.untaken F.code F.worth F.paid r) e

    pub flood_few : (g.tail ≤ W.nodes) × (W.nodes ≤ 4096) × (4 * W.nodes ≤ length x)
    flood_few = let z = spread-room wires F.ready emptying.spread in (omega (arith, z.counted, spent_few x W.nodes W.nodes), z.few, z.fits)

    pub flood_fannable : k < g.tail → Fannable W (at x (2 * W.nodes + k)) x g
    flood_fannable l = record { listed = F.listed; unsure = F.unsure; before = w; v = v; from = f.tail; k = k; emptying = emptying; waits = l; node = refl }

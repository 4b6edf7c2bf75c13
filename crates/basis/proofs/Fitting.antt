-- What the tests of SIZE say: from tests that all fail, the bounds and the equal lengths. Assumes nothing.
use Prim.Native.Nat.{ℕ, ◌≤◌}
use mathlib.Core.Path.{◌≡◌, refl}
use mathlib.Core.Bool.{Bool, true, false, true≢false}
use mathlib.Core.List.{List, [], ◌∷◌, ◌++◌}
use borrow.Author.Tests.{ltb-false}
use lib.ListN.{length}
use Rattle.model.specs.Bounds.{most_nodes, most_transistors, most_changes}
use Rattle.model.specs.Places.{any}
use Rattle.model.specs.Net.{Net, nodes, transistors}
use Rattle.model.specs.Run.{Changes}
use Rattle.model.specs.Rules.{node_sizes, state_sizes, wire_sizes, work_sizes, change_sizes, cells, check_sizes, reset_sizes, step_sizes, run_sizes}
use Rattle.laws.proofs.Judged.{any_none, level_at}
use Rattle.basis.specs.Sound.{Level, Sized, SizedChanges}

-- all fail
pub any_apart : (bs cs : List Bool) → any (bs ++ cs) ≡ false → (any bs ≡ false) × (any cs ≡ false)
any_apart [] cs e = (refl, e)
any_apart (true ∷ bs) cs e = absurd (true≢false e)
any_apart (false ∷ bs) cs e = any_apart bs cs e

pub nodes_sized : (kinds : List ℕ) → any (node_sizes kinds) ≡ false → (1 ≤ length kinds) × (length kinds ≤ most_nodes)
nodes_sized kinds e = (ltb-false (length kinds) 1 (any_none (node_sizes kinds) e 0), ltb-false most_nodes (length kinds) (any_none (node_sizes kinds) e 1))

pub states_sized : (kinds s : List ℕ) → any (state_sizes kinds s) ≡ false → length s ≡ length kinds
states_sized kinds s e = level_at (length s) (length kinds) (state_sizes kinds s) 0 e refl

pub wires_sized : (net : Net) → any (wire_sizes net) ≡ false → (transistors net ≤ most_transistors) × Level net
wires_sized net e = (
  ltb-false most_transistors (transistors net) (any_none (wire_sizes net) e 0),
  record {
    gates_level = level_at (length net.gates) (transistors net) (wire_sizes net) 1 e refl;
    sources_level = level_at (length net.sources) (transistors net) (wire_sizes net) 2 e refl;
    drains_level = level_at (length net.drains) (transistors net) (wire_sizes net) 3 e refl;
  },
)

sized : (net : Net) → any (node_sizes net.kinds) ≡ false → any (wire_sizes net) ≡ false → Sized net
sized net d e =
    record {
      some_nodes = (nodes_sized net.kinds d).0;
      few_nodes = (nodes_sized net.kinds d).1;
      few_transistors = (wires_sized net e).0;
      level = (wires_sized net e).1;
    }

-- what each entry is lent
pub check_sized : (net : Net) → any (check_sizes net) ≡ false → Sized net
unfolding check_sizes
check_sized net e = let f = any_apart (node_sizes net.kinds) (wire_sizes net) e in sized net f.0 f.1

pub reset_sized : (kinds s : List ℕ) → any (reset_sizes kinds s) ≡ false → (1 ≤ length kinds) × (length kinds ≤ most_nodes) × (length s ≡ length kinds)
unfolding reset_sizes
reset_sized kinds s e =
    let f = any_apart (node_sizes kinds) (state_sizes kinds s) e in
    ((nodes_sized kinds f.0).0, (nodes_sized kinds f.0).1, states_sized kinds s f.1)

pub step_sized : (net : Net) (s w : List ℕ) → any (step_sizes net s w) ≡ false → Sized net × (length s ≡ nodes net) × (cells net ≤ length w)
unfolding step_sizes
step_sized net s w e =
    let f = any_apart (node_sizes net.kinds) (state_sizes net.kinds s ++ wire_sizes net ++ work_sizes net w) e in
    let g = any_apart (state_sizes net.kinds s) (wire_sizes net ++ work_sizes net w) f.1 in
    let h = any_apart (wire_sizes net) (work_sizes net w) g.1 in
    (sized net f.0 h.0, states_sized net.kinds s g.0, ltb-false (length w) (cells net) (any_none (work_sizes net w) h.1 0))

pub run_sized : (net : Net) (s : List ℕ) (ch : Changes) (w : List ℕ) → any (run_sizes net s ch w) ≡ false → (any (step_sizes net s w) ≡ false) × SizedChanges ch
unfolding run_sizes
run_sized net s ch w e =
    let f = any_apart (step_sizes net s w) (change_sizes ch) e in (
      f.0,
      record {
        values_level = level_at (length ch.values) (length ch.places) (change_sizes ch) 0 f.1 refl;
        few_changes = ltb-false most_changes (length ch.places) (any_none (change_sizes ch) f.1 1);
      },
    )

-- From what is accepted to what a reset, a step and a run ask for. Assumes nothing.
use Prim.Native.Nat.{ℕ, ◌≤◌}
use native.Mathlib.Omega.{arith}
use mathlib.Core.Path.{◌≡◌, ◌∙◌}
use mathlib.Core.Bool.{Bool, false}
use mathlib.Core.List.{List}
use lib.ListN.{length}
use borrow.Author.Tests.{ltb-false, ltb-true, not-false}
use Rattle.model.specs.Bounds.{highest_state, highest_limit, highest_kind, highest_type}
use Rattle.model.specs.Places.{any, at}
use Rattle.model.specs.Net.{Net, nodes, is_input}
use Rattle.model.specs.Run.{Changes, changes_of}
use Rattle.model.specs.Rules.{judge, kind_rule, wire_rule, state_rule, wire_tests, reset_rules, step_sizes, step_rules, run_rules, unit_rules, ternary_rules, run_sizes}
use Rattle.model.specs.Demands.{Clean, Enterable}
use Rattle.laws.proofs.Changes.{clean_changes}
use Rattle.laws.proofs.Judged.{Kept, clean, any_none}
use Rattle.basis.specs.Sound.{Sized, SizedChanges, Sound, Fit, Checked, Named}
use Rattle.basis.proofs.Fitting.{reset_sized, step_sized, run_sized}
use Rattle.std.proofs.Common.{Ok}

pub sound : (net : Net) → Sized net → Kept (kind_rule net.kinds) → Kept (wire_rule net) → Sound net
unfolding wire_tests
sound net f k w =
    record {
      sized = f;
      kind_is = λ v l. ltb-false highest_kind (at net.kinds v) (k v l);
      type_is = λ t l. ltb-false highest_type (at net.types t) (any_none (wire_tests net t) (w t l) 0);
      gate_is = λ t l. ltb-true (at net.gates t) (nodes net) (not-false _ (any_none (wire_tests net t) (w t l) 1));
      source_is = λ t l. ltb-true (at net.sources t) (nodes net) (not-false _ (any_none (wire_tests net t) (w t l) 2));
      drain_is = λ t l. ltb-true (at net.drains t) (nodes net) (not-false _ (any_none (wire_tests net t) (w t l) 3));
    }

pub fit : (net : Net) (s w : List ℕ) → any (step_sizes net s w) ≡ false → Kept (kind_rule net.kinds) → Kept (wire_rule net) → Kept (state_rule s) → Fit net s w
fit net s w e k d h =
    let f = step_sized net s w e in
    record { sound = sound net f.0 k d; states_level = f.1; state_is = λ v l. ltb-false highest_state (at s v) (h v (omega arith)); room = f.2 }

pub reset_level : (kinds s : List ℕ) → judge (reset_rules kinds s) ≡ Ok tt → length s ≡ length kinds
unfolding reset_rules
reset_level kinds s e = (reset_sized kinds s ((clean (reset_rules kinds s) e).0 0 (omega arith))).2

pub step_accepted : (net : Net) (s w : List ℕ) → judge (step_rules net s w) ≡ Ok tt → Fit net s w
unfolding step_rules
step_accepted net s w e =
    let c = clean (step_rules net s w) e in
    fit net s w (c.0 0 (omega arith)) c.1.0 c.1.1.0 c.1.1.1.0

-- what both runs test after SIZE and LIMIT
run_accepted : (net : Net) (s : List ℕ) (ch : Changes) (w : List ℕ) → any (run_sizes net s ch w) ≡ false → Clean (run_rules net s ch) → Fit net s w × SizedChanges ch × Enterable (nodes net) (is_input net) ch
unfolding run_rules
run_accepted net s ch w e c =
    let f = run_sized net s ch w e in
    (fit net s w f.0 c.0 c.1.0 c.1.1.0, f.1, clean_changes net ch c.1.1.1.0)

pub unit_accepted : (net : Net) (s : List ℕ) (ch : Changes) (limit : ℕ) (w : List ℕ) → judge (unit_rules net s ch limit w) ≡ Ok tt → Fit net s w × SizedChanges ch × Enterable (nodes net) (is_input net) ch × (limit ≤ highest_limit)
unfolding unit_rules
unit_accepted net s ch limit w e =
    let c = clean (unit_rules net s ch limit w) e in
    let f = run_accepted net s ch w (c.0 0 (omega arith)) c.1.1 in
    (f.0, f.1, f.2, ltb-false highest_limit limit (c.1.0 0 (omega arith)))

pub ternary_accepted : (net : Net) (s : List ℕ) (ch : Changes) (w : List ℕ) → judge (ternary_rules net s ch w) ≡ Ok tt → Fit net s w × SizedChanges ch × Enterable (nodes net) (is_input net) ch
unfolding ternary_rules
ternary_accepted net s ch w e =
    let c = clean (ternary_rules net s ch w) e in
    run_accepted net s ch w (c.0 0 (omega arith)) c.1

-- an accepted network is one that a step asks for; so it stays under other states, and in a work area of the same length
pub checked : {net : Net} {s w : List ℕ} → Fit net s w → (room : ℕ) → room ≡ length w → Checked net s room
checked f room e =
    let sized = f.sound.sized in
    record {
      states = f.states_level;
      gates = sized.level.gates_level;
      sources = sized.level.sources_level;
      drains = sized.level.drains_level;
      wired = λ t l. record { gate = f.sound.gate_is t l; source = f.sound.source_is t l; drain = f.sound.drain_is t l };
      kinds = f.sound.kind_is;
      few_nodes = sized.few_nodes;
      few_transistors = sized.few_transistors;
      fits = rw e f.room;
    }

pub checked_with : {net : Net} {s s' : List ℕ} {room room' : ℕ} → Checked net s room → length s' ≡ length s → room' ≡ room → Checked net s' room'
checked_with c e r = record {
  states = e ∙ c.states;
  gates = c.gates;
  sources = c.sources;
  drains = c.drains;
  wired = c.wired;
  kinds = c.kinds;
  few_nodes = c.few_nodes;
  few_transistors = c.few_transistors;
  fits = rw r c.fits;
}

-- accepted changes are ones that can be entered
pub named : {n : ℕ} {input : ℕ → Bool} {ch : Changes} → SizedChanges ch → Enterable n input ch → Named ch n
named f e = record { lengths = f.values_level; below = e.below }

pub named_of : {ps vs : List ℕ} {n n' : ℕ} {input : ℕ → Bool} → length vs ≡ length ps → Enterable n input (changes_of ps vs) → n' ≡ n → Named (changes_of ps vs) n'
named_of q E e = record { lengths = q; below = λ i l. rw e (E.below i l) }

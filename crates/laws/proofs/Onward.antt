-- What a unit run leaves is in order: as many states as nodes, each 0, 1 or X. So a step that goes on from there is not refused. Assumes nothing.
use Prim.Native.Nat.{ℕ, zero, suc, ◌≤◌, ◌<◌}
use native.Mathlib.Omega.{arith}
use mathlib.Core.Path.{◌≡◌, refl, ◌∙◌, sym, subst}
use mathlib.Core.Logic.{◌⊎◌, inl, inr}
use mathlib.Core.Bool.{Bool, true, false, not}
use mathlib.Core.List.{List, [], ◌∷◌}
use lib.ListN.{length, set, get_or-eq_default}
use lib.Dec.{eqb, ltb}
use borrow.Author.Tests.{ltb-true, ltb-false, le-ltb, eq-eqb}
use Rattle.model.specs.Bounds.{most_nodes, most_transistors, highest_state}
use Rattle.model.specs.Places.{any, iter, at}
use Rattle.model.specs.Net.{Net, nodes, transistors, is_input, step}
use Rattle.model.specs.Run.{Changes, put, entered, limit_of}
use Rattle.model.specs.Answer.{number, first_count}
use Rattle.model.specs.Rules.{cells, step_sizes, step_rules, run_sizes, run_rules, unit_rules}
use Rattle.model.specs.Entries.{unit_outcome}
use Rattle.model.specs.Demands.{Clean, Enterable}
use Rattle.laws.proofs.Descent.{iter_keeps}
use Rattle.laws.proofs.Judged.{any_none, level_at}
use Rattle.laws.proofs.Cover.{set_at}
use Rattle.laws.proofs.Changes.{length-put, clean_changes}
use Rattle.laws.proofs.RuleOne.{stepper, step_known}
use Rattle.laws.proofs.Demands.{unit_runs, unit_settles, unit-at_limit}

-- states at every place, with one and with all of the changes entered
abbrev Known : List ℕ → Type 0
Known s = (v : ℕ) → at s v ≤ highest_state

set_known : (s : List ℕ) (p x : ℕ) → Known s → x ≤ highest_state → Known (set s p x)
set_known s p x h k v = elim (set_at s p x v) [ inl e ↦ omega (arith, e, h v) | inr r ↦ omega (arith, r.1, k) ]

put_known : (s ps vs : List ℕ) → Known s → ((e : ℕ) → e < length ps → at vs e ≤ highest_state) → Known (put s ps vs)
put_known s [] vs h k = h
put_known s (p ∷ ps) [] h k = h
put_known s (p ∷ ps) (x ∷ vs) h k = put_known (set s p x) ps vs (set_known s p x h (k zero (omega arith))) (λ e l. k (suc e) (omega arith))

module _ (net : Net) where
  -- as many states as nodes, each 0, 1 or X
  abbrev pub InOrder : List ℕ → Type 0
  InOrder s = (length s ≡ nodes net) × ((v : ℕ) → v < nodes net → at s v ≤ highest_state)

  everywhere : (s : List ℕ) → InOrder s → Known s
  everywhere s o v = go (ltb v (length s)) refl
    where
      go : (b : Bool) → ltb v (length s) ≡ b → at s v ≤ highest_state
      go true e = let l = ltb-true v (length s) e in o.1 v (omega (arith, o.0))
      go false e = omega (arith, get_or-eq_default s 0 (ltb-false v (length s) e))

  entered_in_order : (s : List ℕ) (ch : Changes) → Enterable (nodes net) (is_input net) ch → InOrder s → InOrder (entered s ch)
  entered_in_order s ch fit o =
      (length-put s ch.places ch.values ∙ o.0, λ v l. put_known s ch.places ch.values (everywhere s o) fit.known v)

  step_in_order : (s : List ℕ) → InOrder s → InOrder (step net s)
  step_in_order s o = ((stepper net).sized s, λ v l. go v l (is_input net v) refl)
    where
      go : (v : ℕ) → v < nodes net → (b : Bool) → is_input net v ≡ b → at (step net s) v ≤ highest_state
      go v l true i = omega (arith, (stepper net).keeps s v l i, o.1 v l)
      go v l false i = step_known net s v (l, i)

  -- after a unit run that was not refused, settled or at its limit
  module _ (s : List ℕ) (ch : Changes) (limit : ℕ) (w : List ℕ) (ran : (number (unit_outcome net s ch limit w).answer ≡ 0) ⊎ (number (unit_outcome net s ch limit w).answer ≡ 8)) where
    clean : Clean (unit_rules net s ch limit w)
    clean = (unit_runs net s ch limit w ran).0

    fits : any (run_sizes net s ch w) ≡ false
    fits = unfold unit_rules in clean.0 0 (omega arith)

    start_in_order : InOrder (entered s ch)
    start_in_order =
        unfold unit_rules run_rules run_sizes step_sizes in
        entered_in_order s ch (clean_changes net ch clean.1.1.1.1.1.0)
        (let long = level_at (length s) (nodes net) (run_sizes net s ch w) 2 fits refl in (long, λ v l. ltb-false highest_state (at s v) (clean.1.1.1.1.0 v (omega arith))))

    after : (k : ℕ) → InOrder (iter k (step net) (entered s ch))
    after k = iter_keeps (step net) InOrder step_in_order k (entered s ch) start_in_order

    pub left_in_order : InOrder (unit_outcome net s ch limit w).states
    left_in_order = go ran
      where
        go : (number (unit_outcome net s ch limit w).answer ≡ 0) ⊎ (number (unit_outcome net s ch limit w).answer ≡ 8) → InOrder (unit_outcome net s ch limit w).states
        go (inl e) = subst InOrder (sym (unit_settles net s ch limit w e).states) (after (first_count (unit_outcome net s ch limit w).answer))
        go (inr e) = subst InOrder (sym (unit-at_limit net s ch limit w e).1.states) (after (limit_of limit))

    -- a step from there, in a work area that is large enough, breaks no rule
    pub step_goes_on : (v : List ℕ) → cells net ≤ length v → Clean (step_rules net (unit_outcome net s ch limit w).states v)
    step_goes_on v room =
        unfold unit_rules run_rules step_rules in
        (λ q l. sizes, (clean.1.1.0, (clean.1.1.1.0, (λ q l. le-ltb highest_state (at t q) (left_in_order.1 q (omega (arith, l, left_in_order.0))), tt))))
      where
        t : List ℕ
        t = (unit_outcome net s ch limit w).states

        sizes : any (step_sizes net t v) ≡ false
        sizes =
            unfold run_sizes step_sizes in
            let tests = run_sizes net s ch w in
            let some : ltb (nodes net) 1 ≡ false = any_none tests fits 0 in
            let few : ltb most_nodes (nodes net) ≡ false = any_none tests fits 1 in
            let long : eqb (length t) (nodes net) ≡ true = eq-eqb (length t) (nodes net) left_in_order.0 in
            let wires : ltb most_transistors (transistors net) ≡ false = any_none tests fits 3 in
            let gates : not (eqb (length net.gates) (transistors net)) ≡ false = any_none tests fits 4 in
            let sources : not (eqb (length net.sources) (transistors net)) ≡ false = any_none tests fits 5 in
            let drains : not (eqb (length net.drains) (transistors net)) ≡ false = any_none tests fits 6 in
            rw (some, few, long, wires, gates, sources, drains, le-ltb (length v) (cells net) room)

-- Order-freedom of the entries: alike networks, where neither is refused for its size, get the same answer, counts and states, the place of a refused
-- transistor aside; and so do two lists of the same changes. Assumes nothing.
use Prim.Native.Nat.{ℕ, ◌<◌}
use native.Mathlib.Omega.{arith}
use mathlib.Core.Path.{◌≡◌, refl, ap, ◌∙◌, sym, subst}
use mathlib.Core.Logic.{◌⊎◌, inl, inr}
use mathlib.Core.Bool.{Bool, true, false, not, true≢false}
use mathlib.Core.List.{List, [], ◌∷◌}
use lib.ListN.{length}
use lib.Dec.{ltb}
use borrow.Author.Tests.{ltb-true, ltb-false}
use Rattle.model.specs.Bounds.{highest_type}
use Rattle.model.specs.Places.{at, any, first}
use Rattle.model.specs.Net.{Net, nodes, is_input, step}
use Rattle.model.specs.Run.{Changes, Ran, entered, settle, limit_of, raised, lowered, unit_steps, first_half, second_half}
use Rattle.model.specs.Answer.{number}
use Rattle.model.specs.Rules.{Verdict, Rule, judge, given, judged, cells, size_rule, limit_rule, kind_rule, wire_rule, state_rule, change_rule, start_rule, wire_tests, change_tests, check_sizes, check_rules, step_sizes, step_rules, run_sizes, run_rules, unit_rules, ternary_rules}
use Rattle.model.specs.Entries.{Outcome, untouched, altered, first_changed, cleared, ran_answer, ternary_started, check_answer, step_outcome, unit_outcome, ternary_outcome}
use Rattle.model.specs.Demands.{Clean, Enterable}
use Rattle.model.specs.Alike.{Copy, Held, Alike, Listed, SameAnswer, SameRun}
use Rattle.model.specs.declared.Answer.{Answer}
use Rattle.model.specs.declared.Answer.TheVariants.{Done, Size}
use Rattle.laws.proofs.Judged.{first_says, level_at}
use Rattle.laws.proofs.Changes.{clean_changes, entered-listed}
use Rattle.laws.proofs.Alike.{other, over_kinds, step_alike}
use Rattle.laws.proofs.Demands.{done_step, unit_end, unit_runs, ternary_end, ternary_runs}
use Rattle.std.proofs.Common.{Ok, Err}

-- some place breaks the rule; none does
abbrev Breaks : Rule → Type 0
Breaks r = (p : ℕ) × (p < r.places) × (r.breaks p ≡ true)

abbrev Unbroken : Rule → Type 0
Unbroken r = (q : ℕ) → q < r.places → r.breaks q ≡ false

clash : (r : Rule) → Unbroken r → Breaks r → ⊥
clash r f b = true≢false (sym b.2 ∙ f b.0 b.1)

-- what the first rule of a list does to the judging
abbrev Head : Rule → List Rule → Type 0
Head r rs = (Breaks r × (judge (r ∷ rs) ≡ Err (r.refusal (first r.places r.breaks)))) ⊎ (Unbroken r × (judge (r ∷ rs) ≡ judge rs))

head : (r : Rule) (rs : List Rule) → Head r rs
head r rs = go (ltb p r.places) refl (first_says r.places r.breaks)
  where
    p : ℕ
    p = first r.places r.breaks

    go : (b : Bool) → ltb p r.places ≡ b
        → ((p < r.places) × (r.breaks p ≡ true) × ((q : ℕ) → q < p → r.breaks q ≡ false)) ⊎ ((p ≡ r.places) × ((q : ℕ) → q < r.places → r.breaks q ≡ false))
        → (Breaks r × ((elim b as (λ x. Verdict) [ true ↦ Err (r.refusal p) | false ↦ judge rs ]) ≡ Err (r.refusal p))) ⊎ (Unbroken r × ((elim b as (λ x. Verdict) [ true ↦ Err (r.refusal p) | false ↦ judge rs ]) ≡ judge rs))
    go true e (inl h) = inl ((p, h.0, h.1), refl)
    go true e (inr h) = absurd (omega (arith, ltb-true p r.places e))
    go false e (inl h) = absurd (omega (arith, ltb-false p r.places e))
    go false e (inr h) = inr (h.1, refl)

-- two rules that refuse alike: they are one rule; or both are about transistors and are broken together; or neither is broken
record Wires (r q : Rule) : Type 0 where
  left : (p : ℕ) → number (r.refusal p) ≡ 4
  right : (p : ℕ) → number (q.refusal p) ≡ 4
  there : Breaks r → Breaks q
  back : Breaks q → Breaks r

abbrev Pair : Rule → Rule → Type 0
Pair r q = (r ≡ q) ⊎ (Wires r q ⊎ (Unbroken r × Unbroken q))

abbrev Pairs : List Rule → List Rule → Type 0
Pairs [] [] = Unit {0}
Pairs [] (q ∷ qs) = ⊥
Pairs (r ∷ rs) [] = ⊥
Pairs (r ∷ rs) (q ∷ qs) = Pair r q × Pairs rs qs

abbrev SameVerdict : Verdict → Verdict → Type 0
SameVerdict (Ok _) (Ok _) = Unit {0}
SameVerdict (Ok _) (Err b) = ⊥
SameVerdict (Err a) (Ok _) = ⊥
SameVerdict (Err a) (Err b) = SameAnswer a b

one_head : (r : Rule) (rs qs : List Rule) → SameVerdict (judge rs) (judge qs) → SameVerdict (judge (r ∷ rs)) (judge (r ∷ qs))
one_head r rs qs h = go (head r rs) (head r qs)
  where
    go : Head r rs → Head r qs → SameVerdict (judge (r ∷ rs)) (judge (r ∷ qs))
    go (inl a) (inl b) = rw (a.1, b.1) (inl refl)
    go (inl a) (inr b) = absurd (clash r b.0 a.0)
    go (inr a) (inl b) = absurd (clash r a.0 b.0)
    go (inr a) (inr b) = rw (a.1, b.1) h

same_verdict : (rs qs : List Rule) → Pairs rs qs → SameVerdict (judge rs) (judge qs)
same_verdict [] [] m = tt
same_verdict [] (q ∷ qs) m = absurd m
same_verdict (r ∷ rs) [] m = absurd m
same_verdict (r ∷ rs) (q ∷ qs) m = go m.0 (same_verdict rs qs m.1) (head r rs) (head q qs)
  where
    go : Pair r q → SameVerdict (judge rs) (judge qs) → Head r rs → Head q qs → SameVerdict (judge (r ∷ rs)) (judge (q ∷ qs))
    go (inl e) h x y = subst (λ (z : Rule). SameVerdict (judge (r ∷ rs)) (judge (z ∷ qs))) e (one_head r rs qs h)
    go (inr (inl k)) h (inl a) (inl b) = rw (a.1, b.1) (inr (k.left (first r.places r.breaks), k.right (first q.places q.breaks)))
    go (inr (inl k)) h (inl a) (inr b) = absurd (clash q b.0 (k.there a.0))
    go (inr (inl k)) h (inr a) (inl b) = absurd (clash r a.0 (k.back b.0))
    go (inr (inl k)) h (inr a) (inr b) = rw (a.1, b.1) h
    go (inr (inr k)) h (inl a) y = absurd (clash r k.0 a.0)
    go (inr (inr k)) h (inr a) (inl b) = absurd (clash q k.1 b.0)
    go (inr (inr k)) h (inr a) (inr b) = rw (a.1, b.1) h

-- outcomes under verdicts that are the same
same_run : (v u : Verdict) → SameVerdict v u → (s w x : List ℕ) (o p : Outcome) → SameRun o p → SameRun (given v (untouched s w) o) (given u (untouched s x) p)
same_run (Ok _) (Ok _) h s w x o p r = r
same_run (Ok _) (Err b) h s w x o p r = absurd h
same_run (Err a) (Ok _) h s w x o p r = absurd h
same_run (Err a) (Err b) h s w x o p r = record { answers = h; states = refl }

-- an outcome that is not refused for its size
fits : {A : Type 0} (answer : A → Answer) (tests : List Bool) (rs : List Rule) (refuse : Answer → A) (accept : A) → (number (answer (refuse Size)) ≡ 1)
    → (number (answer (judged (size_rule tests ∷ rs) refuse accept)) ≡ 1 → ⊥) → Unbroken (size_rule tests)
fits answer tests rs refuse accept one h q l = go (any tests) refl
  where
    pick : Bool → Verdict
    pick b = elim (ltb (elim b as (λ x. ℕ) [ true ↦ 0 | false ↦ 1 ]) 1) as (λ x. Verdict) [ true ↦ Err Size | false ↦ judge rs ]

    go : (b : Bool) → any tests ≡ b → any tests ≡ false
    go true e = absurd (h (ap (λ (b : Bool). number (answer (given (pick b) refuse accept))) e ∙ one))
    go false e = e

fits_check : (net : Net) → (number (check_answer net) ≡ 1 → ⊥) → Unbroken (size_rule (check_sizes net))
unfolding check_answer check_rules
fits_check net = fits (λ (a : Answer). a) (check_sizes net) (kind_rule net.kinds ∷ wire_rule net ∷ []) (λ a. a) (Done 0 0 0) refl

fits_step : (net : Net) (s w : List ℕ) → (number (step_outcome net s w).answer ≡ 1 → ⊥) → Unbroken (size_rule (step_sizes net s w))
unfolding step_outcome step_rules
fits_step net s w =
    fits (λ (o : Outcome). o.answer) (step_sizes net s w) (kind_rule net.kinds ∷ wire_rule net ∷ state_rule s ∷ []) (untouched s w) (done_step net s w) refl

fits_unit : (net : Net) (s : List ℕ) (ch : Changes) (limit : ℕ) (w : List ℕ) → (number (unit_outcome net s ch limit w).answer ≡ 1 → ⊥) → Unbroken (size_rule (run_sizes net s ch w))
unfolding unit_outcome unit_rules
fits_unit net s ch limit w = fits (λ (o : Outcome). o.answer) (run_sizes net s ch w) (limit_rule limit ∷ run_rules net s ch) (untouched s w) (unit_end net s ch limit w) refl

-- a ternary run that is not refused
abbrev started : Net → List ℕ → Changes → List ℕ → Outcome
started net s ch w = ternary_started (nodes net) (step net) (cells net) s ch w

fits_ternary : (net : Net) (s : List ℕ) (ch : Changes) (w : List ℕ) → (number (ternary_outcome net s ch w).answer ≡ 1 → ⊥) → Unbroken (size_rule (run_sizes net s ch w))
unfolding ternary_outcome ternary_rules
fits_ternary net s ch w = fits (λ (o : Outcome). o.answer) (run_sizes net s ch w) (run_rules net s ch) (untouched s w) (started net s ch w) refl

-- a transistor and its copy break the rule together
any_swap : (a b c d : Bool) → any (a ∷ b ∷ c ∷ d ∷ []) ≡ true → any (a ∷ b ∷ d ∷ c ∷ []) ≡ true
any_swap true b c d e = refl
any_swap false true c d e = refl
any_swap false false true true e = refl
any_swap false false true false e = refl
any_swap false false false true e = refl
any_swap false false false false e = e

abbrev wrong : ℕ → ℕ → ℕ → ℕ → ℕ → Bool
wrong n y g a b = any (ltb highest_type y ∷ not (ltb g n) ∷ not (ltb a n) ∷ not (ltb b n) ∷ [])

wire_breaks : (net : Net) (ts gs ss ds : List ℕ) → Held net (other net ts gs ss ds) → Breaks (wire_rule net) → Breaks (wire_rule (other net ts gs ss ds))
unfolding wire_tests
wire_breaks net ts gs ss ds held (t, l, e) = (c.wire, c.below, go c.ended)
  where
    c : Copy net (other net ts gs ss ds) t
    c = held t l

    go : ((at ss c.wire ≡ at net.sources t) × (at ds c.wire ≡ at net.drains t)) ⊎ ((at ds c.wire ≡ at net.sources t) × (at ss c.wire ≡ at net.drains t))
        → wrong (nodes net) (at ts c.wire) (at gs c.wire) (at ss c.wire) (at ds c.wire) ≡ true
    go (inl h) = rw (c.typed, c.gated, h.0, h.1) e
    go (inr h) = rw (c.typed, c.gated, h.0, h.1) (any_swap (ltb highest_type (at net.types t)) (not (ltb (at net.gates t) (nodes net))) (not (ltb (at net.sources t) (nodes net))) (not (ltb (at net.drains t) (nodes net))) e)

-- a network and one with literally its kinds
module _ (net : Net) (ts gs ss ds : List ℕ) (there : Held net (other net ts gs ss ds)) (back : Held (other net ts gs ss ds) net) where
  abbrev twin : Net
  twin = other net ts gs ss ds

  same_step : step net ≡ step twin
  same_step = step_alike net twin (record { kinds = refl; there = there; back = back })

  wires : Wires (wire_rule net) (wire_rule twin)
  wires =
      record {
        left = λ p. refl;
        right = λ p. refl;
        there = wire_breaks net ts gs ss ds there;
        back = wire_breaks twin net.types net.gates net.sources net.drains back;
      }

  run_pairs : (s : List ℕ) (ch : Changes) → Pairs (run_rules net s ch) (run_rules twin s ch)
  unfolding run_rules change_tests
  run_pairs s ch = (inl refl, (inr (inl wires), (inl refl, (inl refl, tt))))

  check-same : (number (check_answer net) ≡ 1 → ⊥) → (number (check_answer twin) ≡ 1 → ⊥) → SameAnswer (check_answer net) (check_answer twin)
  unfolding check_answer check_rules
  check-same h k =
      go (judge (check_rules net)) (judge (check_rules twin))
      (same_verdict (check_rules net) (check_rules twin)
      (inr (inr (fits_check net h, fits_check twin k)), (inl refl, (inr (inl wires), tt))))
    where
      go : (v u : Verdict) → SameVerdict v u → SameAnswer (given v (λ a. a) (Done 0 0 0)) (given u (λ a. a) (Done 0 0 0))
      go (Ok _) (Ok _) m = inl refl
      go (Ok _) (Err b) m = absurd m
      go (Err a) (Ok _) m = absurd m
      go (Err a) (Err b) m = m

  step_same : (s w x : List ℕ) → (number (step_outcome net s w).answer ≡ 1 → ⊥) → (number (step_outcome twin s x).answer ≡ 1 → ⊥) → SameRun (step_outcome net s w) (step_outcome twin s x)
  unfolding step_outcome step_rules
  step_same s w x h k =
      same_run (judge (step_rules net s w)) (judge (step_rules twin s x))
      (same_verdict (step_rules net s w) (step_rules twin s x)
      (inr (inr (fits_step net s w h, fits_step twin s x k)), (inl refl, (inr (inl wires), (inl refl, tt)))))
      s w x (done_step net s w) (done_step twin s x)
      (record { answers = inl (ap (λ (f : List ℕ → List ℕ). Done (first_changed s (f s)) (altered s (f s)) 0) same_step); states = ap (λ (f : List ℕ → List ℕ). f s) same_step })

  unit-same : (s : List ℕ) (ch : Changes) (limit : ℕ) (w x : List ℕ) → (number (unit_outcome net s ch limit w).answer ≡ 1 → ⊥) → (number (unit_outcome twin s ch limit x).answer ≡ 1 → ⊥)
      → SameRun (unit_outcome net s ch limit w) (unit_outcome twin s ch limit x)
  unfolding unit_outcome unit_rules
  unit-same s ch limit w x h k =
      same_run (judge (unit_rules net s ch limit w)) (judge (unit_rules twin s ch limit x))
      (same_verdict (unit_rules net s ch limit w) (unit_rules twin s ch limit x)
      (inr (inr (fits_unit net s ch limit w h, fits_unit twin s ch limit x k)), (inl refl, run_pairs s ch)))
      s w x (unit_end net s ch limit w) (unit_end twin s ch limit x)
      (record {
        answers = inl (ap (λ (f : List ℕ → List ℕ). ran_answer f (unit_steps f s ch limit) (limit_of limit)) same_step);
        states = ap (λ (f : List ℕ → List ℕ). (unit_steps f s ch limit).states) same_step;
      })

  ternary-same : (s : List ℕ) (ch : Changes) (w x : List ℕ) → (number (ternary_outcome net s ch w).answer ≡ 1 → ⊥) → (number (ternary_outcome twin s ch x).answer ≡ 1 → ⊥)
      → SameRun (ternary_outcome net s ch w) (ternary_outcome twin s ch x)
  unfolding ternary_outcome ternary_rules
  ternary-same s ch w x h k =
      same_run (judge (ternary_rules net s ch w)) (judge (ternary_rules twin s ch x))
      (same_verdict (ternary_rules net s ch w) (ternary_rules twin s ch x)
      (inr (inr (fits_ternary net s ch w h, fits_ternary twin s ch x k)), run_pairs s ch))
      s w x (started net s ch w) (started twin s ch x)
      (same_run (judge (start_rule (step net) s ∷ [])) (judge (start_rule (step twin) s ∷ []))
      (same_verdict (start_rule (step net) s ∷ []) (start_rule (step twin) s ∷ []) (inl (ap (λ (f : List ℕ → List ℕ). start_rule f s) same_step), tt)) s (cleared (cells net) w) (cleared (cells twin) x) (ternary_end net s ch w) (ternary_end twin s ch x)
      (record {
        answers = inl (ap (λ (f : List ℕ → List ℕ). Done 0 (first_half (nodes net) f s ch).count (second_half (nodes net) f s ch).count) same_step);
        states = ap (λ (f : List ℕ → List ℕ). (second_half (nodes net) f s ch).states) same_step;
      }))

-- two networks that list the same transistors
module _ (net twin : Net) (a : Alike net twin) where
  pub check_order : (number (check_answer net) ≡ 1 → ⊥) → (number (check_answer twin) ≡ 1 → ⊥) → SameAnswer (check_answer net) (check_answer twin)
  check_order =
      over_kinds net twin a (λ (x : Net). (number (check_answer net) ≡ 1 → ⊥) → (number (check_answer x) ≡ 1 → ⊥) → SameAnswer (check_answer net) (check_answer x)) (λ ts gs ss ds there back. check-same net ts gs ss ds there back)

  pub step_order : (s w x : List ℕ) → (number (step_outcome net s w).answer ≡ 1 → ⊥) → (number (step_outcome twin s x).answer ≡ 1 → ⊥) → SameRun (step_outcome net s w) (step_outcome twin s x)
  step_order s w x =
      over_kinds net twin a (λ (t : Net). (number (step_outcome net s w).answer ≡ 1 → ⊥) → (number (step_outcome t s x).answer ≡ 1 → ⊥) → SameRun (step_outcome net s w) (step_outcome t s x))
      (λ ts gs ss ds there back. step_same net ts gs ss ds there back s w x)

  pub unit_order : (s : List ℕ) (ch : Changes) (limit : ℕ) (w x : List ℕ) → (number (unit_outcome net s ch limit w).answer ≡ 1 → ⊥) → (number (unit_outcome twin s ch limit x).answer ≡ 1 → ⊥)
      → SameRun (unit_outcome net s ch limit w) (unit_outcome twin s ch limit x)
  unit_order s ch limit w x =
      over_kinds net twin a
      (λ (t : Net). (number (unit_outcome net s ch limit w).answer ≡ 1 → ⊥) → (number (unit_outcome t s ch limit x).answer ≡ 1 → ⊥) → SameRun (unit_outcome net s ch limit w) (unit_outcome t s ch limit x))
      (λ ts gs ss ds there back. unit-same net ts gs ss ds there back s ch limit w x)

  pub ternary_order : (s : List ℕ) (ch : Changes) (w x : List ℕ) → (number (ternary_outcome net s ch w).answer ≡ 1 → ⊥) → (number (ternary_outcome twin s ch x).answer ≡ 1 → ⊥)
      → SameRun (ternary_outcome net s ch w) (ternary_outcome twin s ch x)
  ternary_order s ch w x =
      over_kinds net twin a
      (λ (t : Net). (number (ternary_outcome net s ch w).answer ≡ 1 → ⊥) → (number (ternary_outcome t s ch x).answer ≡ 1 → ⊥) → SameRun (ternary_outcome net s ch w) (ternary_outcome t s ch x))
      (λ ts gs ss ds there back. ternary-same net ts gs ss ds there back s ch w x)

-- two lists of the same changes
module _ (net : Net) (s : List ℕ) (ch changes : Changes) (there : Listed ch changes) (back : Listed changes ch) where
  abbrev Sized : Changes → Type 0
  Sized c = (length s ≡ nodes net) × (length c.values ≡ length c.places) × Enterable (nodes net) (is_input net) c

  sized : (c : Changes) (w : List ℕ) → any (run_sizes net s c w) ≡ false → Unbroken (change_rule net c) → Sized c
  unfolding run_sizes step_sizes
  sized c w h k = (
    level_at (length s) (nodes net) (run_sizes net s c w) 2 h refl,
    level_at (length c.values) (length c.places) (run_sizes net s c w) 8 h refl,
    clean_changes net c k,
  )

  enter_same : Sized ch → Sized changes → entered s ch ≡ entered s changes
  enter_same a b = entered-listed (nodes net) (is_input net) s a.0 ch changes a.1 b.1 a.2 b.2 there back

  -- a unit run, DONE or at its limit
  pub unit-changes : (limit : ℕ) (w : List ℕ) → (number (unit_outcome net s ch limit w).answer ≡ 0) ⊎ (number (unit_outcome net s ch limit w).answer ≡ 8)
      → (number (unit_outcome net s changes limit w).answer ≡ 0) ⊎ (number (unit_outcome net s changes limit w).answer ≡ 8) → unit_outcome net s ch limit w ≡ unit_outcome net s changes limit w
  unit-changes limit w h k = (unit_runs net s ch limit w h).1 ∙ (same ∙ sym (unit_runs net s changes limit w k).1)
    where
      clean : (c : Changes) → Clean (unit_rules net s c limit w) → Sized c
      clean c r = unfold unit_rules run_rules in sized c w (r.0 0 (omega arith)) r.1.1.1.1.1.0

      same : unit_end net s ch limit w ≡ unit_end net s changes limit w
      same =
          unfold unit_steps in
          ap (λ (to : List ℕ). let r = settle (step net) (limit_of limit) 0 to in record { answer = ran_answer (step net) r (limit_of limit); states = r.states; work = cleared (cells net) w })
          (enter_same (clean ch (unit_runs net s ch limit w h).0) (clean changes (unit_runs net s changes limit w k).0))

  -- a ternary run that is DONE
  pub ternary-changes : (w : List ℕ) → number (ternary_outcome net s ch w).answer ≡ 0 → number (ternary_outcome net s changes w).answer ≡ 0
      → ternary_outcome net s ch w ≡ ternary_outcome net s changes w
  ternary-changes w h k = (ternary_runs net s ch w h).2 ∙ (same ∙ sym (ternary_runs net s changes w k).2)
    where
      clean : (c : Changes) → Clean (ternary_rules net s c w) → Sized c
      clean c r = unfold ternary_rules run_rules in sized c w (r.0 0 (omega arith)) r.1.1.1.1.0

      half : List ℕ → Ran
      half to = settle (step net) (nodes net) 0 (raised s to)

      half' : List ℕ → Ran
      half' to = settle (step net) (nodes net) 0 (lowered s to (half to).states)

      same : ternary_end net s ch w ≡ ternary_end net s changes w
      same =
          unfold first_half second_half in
          ap (λ (to : List ℕ). record { answer = Done 0 (half to).count (half' to).count; states = (half' to).states; work = cleared (cells net) w })
          (enter_same (clean ch (ternary_runs net s ch w h).0) (clean changes (ternary_runs net s changes w k).0))

-- Steps taken one by one, of any kind, and the block of each: what holds after so many of them. Assumes nothing.
use Prim.Native.Nat.{ℕ, suc, ◌+◌, ◌-◌, ◌≤◌, ◌<◌}
use native.Mathlib.Nat.{sub-zero}
use native.Mathlib.Omega.{arith}
use native.Mathlib.Numerals.{add-one}
use mathlib.Core.Path.{◌≡◌, refl, ap, ◌∙◌, sym}
use mathlib.Core.Bool.{true, false, not, cond}
use mathlib.Core.Logic.{◌⊎◌, ◌≢◌, inl, inr}
use mathlib.Core.List.{List, [], ◌++◌}
use lib.ListN.{length}
use lib.Dec.{eqb}
use borrow.Author.Tests.{lt-ltb, le-ltb}
use Rattle.model.specs.Places.{tab, iter, at}
use Rattle.model.specs.Run.{Ran, settle}
use Rattle.model.specs.Entries.{first_changed}
use Rattle.wavelaws.proofs.Iterating.{iter_suc}
use Rattle.laws.proofs.Settle.{settle_says}
use Rattle.basis.specs.Cells.{Spared}
use Rattle.basis.specs.Steps.{Stepping, Evaluated}
use Rattle.basis.proofs.Steps.{StepSized, evaluated_states, rests, stops, goes}
use Rattle.runs.specs.Results.{EndedAs}
use Rattle.std.proofs.Common.{Ok, Err}
use Rattle.waves.specs.Dump.{each, value_line, time_line, change_line, step_block, block_after}
use Rattle.wavelaws.proofs.Rows.{each_same, each-longer, each_fits}
use Rattle.lettering.specs.Writing.{HasRoom, Writes}
use Rattle.lettering.specs.declared.Writer.{Writer}
use Rattle.lettering.proofs.Writes.{writes_as, writes_next}
use Rattle.dumping.specs.Runs.{blocks, Measured}

-- a run never counts less than it began with
counts_on : (f : List ℕ → List ℕ) (fuel k : ℕ) (s : List ℕ) → k ≤ (settle f fuel k s).count
counts_on f fuel k s = elim (settle_says f fuel k s) [ inl e ↦ omega (arith, e.count) | inr e ↦ omega (arith, e.count) ]

module _ (by : Stepping) (limit : ℕ) (s₀ w₀ : List ℕ) where
  abbrev pub run : Ran
  run = settle by.next limit 0 s₀

  abbrev block : ℕ → List ℕ
  block = block_after by.next s₀

  -- after `count` steps from the states s₀ and the work area w₀
  pub record Reached (count : ℕ) (s w : List ℕ) : Type 0 where
    pub low : count ≤ limit
    pub states_long : length s ≡ length s₀
    pub work_long : length w ≡ length w₀
    pub there : s ≡ iter count by.next s₀
    pub to_go : run ≡ settle by.next (limit - count) count s
    pub spared : Spared by.used w₀ w

  pub reached_none : Reached 0 s₀ w₀
  reached_none = record { low = omega arith; states_long = refl; work_long = refl; there = refl; to_go = rw sub-zero; spared = λ k l. refl }

  -- one more step was evaluated, and p is the first node that it changes
  module _ (sized : StepSized by) (long : length s₀ ≡ by.size) {count : ℕ} {s w w' : List ℕ} (R : Reached count s w) (E : Evaluated by s w w') {p : ℕ} (first : p ≡ first_changed s w') where
    fit : length s ≡ by.size
    fit = R.states_long ∙ long

    -- it is the last look
    pub settled_here : p ≡ length s → EndedAs by run w₀ (Ok count) s w'
    settled_here e = rests E fit sized first limit R.to_go R.spared e

    pub moving_here : p ≢ length s → count ≡ limit → EndedAs by run w₀ (Err (record { place = p; count = count })) s w'
    moving_here moves e = stops E fit sized first limit R.to_go R.spared moves e

    -- or it takes effect
    module _ (moves : p ≢ length s) (below : count < limit) where
      pub reached_next : {s' : List ℕ} → s' ≡ tab (length s) (at w') → length s' ≡ length s → length w' ≡ length w → Reached (count + 1) s' w'
      reached_next {s'} e l m = record {
        low = omega arith;
        states_long = l ∙ R.states_long;
        work_long = m ∙ R.work_long;
        there = e ∙ evaluated_states E fit sized ∙ ap by.next R.there ∙ iter_suc by.next count s₀ ∙ ap (λ (n : ℕ). iter n by.next s₀) (sym (add-one count));
        to_go = goes E fit sized first limit R.to_go moves below e;
        spared = λ k b. E.after k b ∙ R.spared k b;
      }

      counts_more : count < run.count
      counts_more =
          let more = goes E fit sized first limit R.to_go moves below {s' = tab (length s) (at w')} refl in
          let few = counts_on by.next (limit - (count + 1)) (count + 1) (tab (length s) (at w')) in
          omega (arith, ap (λ (r : Ran). r.count) more)

      -- its block is the next one of the run, and no longer than what is to come
      pub block_here : step_block (count + 1) s w' ≡ block count
      unfolding step_block change_line block_after
      block_here =
          ap (λ (x : List ℕ). time_line (count + 1) ++ x)
          (each_same (length s) (change_line s w') (change_line s (by.next s)) (λ v l. ap (λ (x : ℕ). cond (not (eqb (at s v) x)) (value_line v x) []) (E.next v (omega (arith, fit)))))
          ∙ ap (λ (n : ℕ). step_block n s (by.next s)) (add-one count)
          ∙ ap (λ (x : List ℕ). step_block (suc count) x (by.next x)) R.there

      block_fits : length (each count block) + length (step_block (count + 1) s w') ≤ length (blocks by.next s₀ run)
      block_fits = rw block_here (each_fits block count run.count counts_more)

      -- measured: it does not fit, or less room is free
      pub no_room : {room free size : ℕ} → free + length (each count block) ≡ room → size ≡ length (step_block (count + 1) s w') → free < size
          → Measured by room (blocks by.next s₀ run) w₀ false w'
      no_room {room} e z l = record {
        tells = sym (ap not (lt-ltb room (length (blocks by.next s₀ run)) (omega (arith, block_fits))));
        spared = λ k b. E.after k b ∙ R.spared k b;
      }

      pub less_room : {room free size : ℕ} → free + length (each count block) ≡ room → size ≡ length (step_block (count + 1) s w') → size ≤ free
          → free - size + length (each (count + 1) block) ≡ room
      less_room e z l = rw add-one (omega (arith, each-longer count block, ap length block_here))

      -- written: there is room, and one block more
      pub block_room : {out₀ out : Writer} → HasRoom out₀ (blocks by.next s₀ run) → Writes out₀ (each count block) out → HasRoom out (step_block (count + 1) s w')
      block_room f v = omega (arith, block_fits)

      pub writes_block : {out₀ out out' : Writer} → Writes out₀ (each count block) out → Writes out (step_block (count + 1) s w') out' → Writes out₀ (each (count + 1) block) out'
      writes_block v x = writes_next block count v (writes_as block_here x)

    module _ (h : (p ≡ length s) ⊎ ((p ≢ length s) × (count ≡ limit))) where
      counted : count ≡ run.count
      counted = elim h [ inl e ↦ (settled_here e).count | inr e ↦ (moving_here e.0 e.1).count ]

      -- measured: all of it fits
      pub room_enough : {room : ℕ} (free : ℕ) → free + length (each count block) ≡ room → Measured by room (blocks by.next s₀ run) w₀ true w'
      room_enough {room} free e = record {
        tells = sym (ap not (le-ltb room (length (blocks by.next s₀ run)) (rw (sym counted) (omega arith))));
        spared = λ k b. E.after k b ∙ R.spared k b;
      }

      -- written: the blocks are the run's
      pub writes_blocks : {out₀ out : Writer} → Writes out₀ (each count block) out → Writes out₀ (blocks by.next s₀ run) out
      writes_blocks v = writes_as (ap (λ (n : ℕ). each n block) counted) v

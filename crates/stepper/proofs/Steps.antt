-- From the tables that were filled to the three tables of the step, and by these to the step. Assumes nothing.
use Prim.Native.Nat.{ℕ, ◌+◌, ◌*◌, ◌%◌, ◌≤◌, ◌<◌}
use native.Mathlib.Omega.{arith}
use native.Mathlib.Nat.{zero-add}
use mathlib.Core.Path.{◌≡◌, refl, sym, ap, ◌∙◌, subst}
use mathlib.Core.Logic.{inl, inr}
use mathlib.Core.Bool.{Bool, true, false, cond}
use mathlib.Core.List.{List, []}
use lib.ListN.{length}
use Rattle.model.specs.Places.{at}
use Rattle.model.specs.Net.{Net, nodes, transistors, is_input, stand_at, source_state, step}
use Rattle.model.specs.Ways.{Inside}
use Rattle.model.specs.Tables.{StepTables, by_tables}
use Rattle.model.specs.RuleOne.{frame}
use Rattle.laws.proofs.RuleOne.{tables_step}
use Rattle.basis.specs.Sound.{Checked}
use Rattle.basis.specs.Cells.{Written, Bytes}
use Rattle.basis.specs.Steps.{rule_one, Evaluated}
use Rattle.branches.specs.Branch.{Wires, near, far, branches, Laid, Linked}
use Rattle.branches.specs.Code.{strength_of, telling}
use Rattle.branches.proofs.Lists.{linked-same}
use Rattle.layout.specs.Layout.{wires, LaidOut}
use Rattle.layout.proofs.Laid.{laid_of}
use Rattle.joined.specs.Sets.{Untaken, Startable, Parted}
use Rattle.strengths.specs.Spread.{cell}
use Rattle.stepper.specs.Step.{Fillable, Full, decided, next}
use Rattle.stepper.proofs.Drawn.{near_inside}
use Rattle.stepper.proofs.Begins.{strongly, definitely, Begins, begins_at}
use Rattle.stepper.proofs.Tables.{with_inputs, table, none_even, some_odd, decided_by}

module _ (net : Net) (s : List ℕ) {room : ℕ} (C : Checked net s room) {w₀ w₁ : List ℕ} (L : LaidOut net s (transistors net) w₀ w₁) where
  abbrev n : ℕ
  n = nodes net

  taken : (v : ℕ) → Inside (frame net) v → Untaken (wires net s []) w₁ v
  taken v i = let t = L.sources v i in (i.0, omega (arith, t.is))

  abbrev G : Wires
  G = wires net s []

  linked₁ : Linked G (branches G) w₁
  linked₁ = subst (λ (k : ℕ). Linked G k w₁) (omega (arith, C.sources)) (L.linked [])

  laid : (w : List ℕ) → length w ≡ room → Laid G (length w)
  laid w e = rw e (laid_of net s [] C)

  -- the joined sets may be found
  pub startable : length w₁ ≡ room → Startable G w₁
  startable e = record {
    laid = laid w₁ e;
    linked = linked₁;
    ends = λ h l o. taken (near G h) (near_inside net s C true h l (rw o refl));
    told = λ v u. told_go v u (is_input net v) refl;
  }
    where
      told_go : (v : ℕ) → Untaken G w₁ v → (a : Bool) → is_input net v ≡ a → (telling 1 1 ≤ at w₁ (n + v)) × (at w₁ (n + v) ≤ telling 3 3) × (1 ≤ at w₁ (n + v) % 4)
      told_go v u true e = absurd (omega (arith, u.1, (L.inputs v u.0 e).0))
      told_go v u false e = let t = L.sources v (u.0, e) in (omega (arith, t.is, t.strength, t.marked), omega (arith, t.is, t.strength, t.marked), omega (arith, t.is, t.marked))

  module _ {w₂ : List ℕ} {kept : ℕ} (P : Parted G w₁ w₂ kept) where
    begins0 : (v : ℕ) → Inside (frame net) v → Begins net s 0 v (cell w₂ n v)
    begins0 v i = let S = P.sets v (taken v i) in subst (λ (c : ℕ). Begins net s 0 v c) (sym S.against0) (begins_at net s C L i S 0 (omega arith))

    begins1 : (v : ℕ) → Inside (frame net) v → Begins net s 1 v (cell w₂ 0 v)
    begins1 v i = let S = P.sets v (taken v i) in rw zero-add (subst (λ (c : ℕ). Begins net s 1 v c) (sym S.against1) (begins_at net s C L i S 1 (omega arith)))

    -- an input's cells are 0
    input_cells : (v : ℕ) → v < n → is_input net v ≡ true → (at w₂ (n + v) ≡ 0) × (at w₂ v ≡ 0)
    input_cells v l e =
        let z = L.inputs v l e in
        let o = P.others v l (λ u. absurd (omega (arith, u.1, z.0))) in
        (o.0 ∙ z.0, o.1 ∙ z.1)

    few0 : (v : ℕ) → v < n → cell w₂ n v ≤ 7
    few0 v l = go (is_input net v) refl
      where
        go : (a : Bool) → is_input net v ≡ a → cell w₂ n v ≤ 7
        go true e = omega (arith, (input_cells v l e).0)
        go false e = (begins0 v (l, e)).few

    few1 : (v : ℕ) → v < n → cell w₂ 0 v ≤ 7
    few1 v l = go (is_input net v) refl
      where
        go : (a : Bool) → is_input net v ≡ a → cell w₂ 0 v ≤ 7
        go true e = rw zero-add (omega (arith, (input_cells v l e).1))
        go false e = (begins1 v (l, e)).few

    -- the table against 0 may be filled, and then the one against 1
    pub fillable0 : length w₂ ≡ room → Fillable G n kept w₂
    fillable0 e = record {
      laid = laid w₂ e;
      linked = linked-same P.after linked₁;
      place = omega arith;
      small = few0;
      listing = λ r. record { nodes = λ j l. (P.nodes j l).0; once = P.once; closed = P.closed; quiet = λ h l o f. (P.quiet h l o f).0 };
    }

    module _ {w₃ : List ℕ} (A : Full G n kept w₂ w₃) where
      front : (v : ℕ) → v < n → cell w₃ 0 v ≡ cell w₂ 0 v
      front v l = A.other (0 + v) (inl (omega arith)) (omega arith)

      pub fillable1 : length w₃ ≡ room → Fillable G 0 kept w₃
      fillable1 e = record {
        laid = laid w₃ e;
        linked = linked-same (λ j l. A.after j l ∙ P.after j l) linked₁;
        place = omega arith;
        small = λ v l. rw (front v l) (few1 v l);
        listing = λ r. record {
          nodes = λ j l. rw (A.list r j l) (P.nodes j l).0;
          once = λ i j a l e. P.once i j a l (sym (A.list r i (omega arith)) ∙ e ∙ A.list r j l);
          closed = λ j h a l o e. let z = P.closed j h a l o (e ∙ A.list r j a) in (z.0, z.1, A.list r z.0 z.1 ∙ z.2);
          quiet = λ h l o f. front (near G h) ((laid w₃ e).nears h l) ∙ still h l o (λ j a e. f j a (A.list r j a ∙ e)) ∙ sym (front (far G h) ((laid w₃ e).fars h l));
        };
      }
        where
          still : (h : ℕ) → h < branches G → G.listed h ≡ true → ((j : ℕ) → j < kept → at w₂ (2 * n + j) ≡ near G h → ⊥) → cell w₂ 0 (near G h) ≡ cell w₂ 0 (far G h)
          still h l o f = ap (at w₂) (zero-add (near G h)) ∙ (P.quiet h l o f).1 ∙ sym (ap (at w₂) (zero-add (far G h)))

      module _ {w₄ : List ℕ} (B : Full G 0 kept w₃ w₄) where
        begins1' : (v : ℕ) → Inside (frame net) v → Begins net s 1 v (cell w₃ 0 v)
        begins1' v i = rw (front v i.0) (begins1 v i)

        abbrev p₀ : ℕ → ℕ
        p₀ v = strength_of (with_inputs net s 0 (cell w₃ n) v)

        abbrev p₁ : ℕ → ℕ
        p₁ v = strength_of (with_inputs net s 1 (cell w₄ 0) v)

        step_tables : StepTables (frame net) (stand_at net s) (source_state net s) (strongly net s) p₀ p₁
        step_tables = record {
          definitely = definitely net s;
          against0 = table net s C 0 (cell w₂ n) begins0 (cell w₃ n) A.sound A.above A.shut;
          against1 = table net s C 1 (cell w₃ 0) begins1' (cell w₄ 0) B.sound B.above B.shut;
        }

        decides : (v : ℕ) → v < n → next net s w₄ v ≡ at (step net s) v
        decides v l = go (is_input net v) refl ∙ sym (tables_step net s (strongly net s) p₀ p₁ step_tables v l)
          where
            x : at w₄ (n + v) ≡ cell w₃ n v
            x = B.other (n + v) (inr (omega arith)) (omega arith)

            y : at w₄ v ≡ cell w₄ 0 v
            y = ap (at w₄) (sym (zero-add v))

            go : (a : Bool) → is_input net v ≡ a → next net s w₄ v ≡ cond (is_input net v) (at s v) (by_tables p₀ p₁ v)
            go true e = rw e refl
            go false e =
                let d : decided (at w₄ (n + v)) (at w₄ v) ≡ by_tables p₀ p₁ v =
                rw (x, y)
                (decided_by (p₀ v) (p₁ v) (cell w₃ n v) (cell w₄ 0 v)
                (none_even net s C 0 (cell w₂ n) begins0 (cell w₃ n) A.sound A.above A.shut v (l, e))
                (some_odd net s C 0 (cell w₂ n) begins0 (cell w₃ n) A.sound A.above A.shut v (l, e))
                (none_even net s C 1 (cell w₃ 0) begins1' (cell w₄ 0) B.sound B.above B.shut v (l, e))
                (some_odd net s C 1 (cell w₃ 0) begins1' (cell w₄ 0) B.sound B.above B.shut v (l, e))) in
                ap (cond (is_input net v) (at s v)) d

        pub evaluated : {w₅ : List ℕ} → Written (next net s w₄) w₄ 0 n w₅ → Bytes n w₅ → Evaluated (rule_one net) s w₀ w₅
        evaluated f small = record {
          next = λ v l. rw zero-add at (f.inside v l) ∙ decides v l;
          small = small;
          after = λ k l. f.after k (omega arith) ∙ B.after k (omega arith) ∙ A.after k (omega arith) ∙ P.after k (omega arith) ∙ L.after k l;
        }

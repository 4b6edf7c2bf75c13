-- Header, time 0 and the blocks of the steps are the dump of a unit run: measured, and written. Assumes nothing.
use Prim.Native.Nat.{ℕ, ◌+◌, ◌-◌, ◌≤◌, ◌<◌}
use native.Mathlib.Omega.{arith}
use mathlib.Core.Path.{◌≡◌, refl, ap, ◌∙◌, sym}
use mathlib.Core.Bool.{Bool, true, false, not}
use mathlib.Core.List.{List}
use lib.ListN.{length}
use lib.Dec.{leb, ltb}
use borrow.Author.Tests.{ltb-true, ltb-false, lt-ltb, le-ltb}
use Rattle.std.proofs.lemmas.Bool.{lt-leb}
use Rattle.model.specs.Run.{Ran, put, limit_of, settle, unit_steps, changes_of}
use Rattle.basis.specs.Steps.{Stepping}
use Rattle.runs.specs.Results.{EndedAs}
use Rattle.runs.specs.declared.Moving.{Moving}
use Rattle.std.proofs.Common.{Result}
use Rattle.basis.proofs.Runs.{unit_ended}
use Rattle.waves.specs.Dump.{header, start_block, dump_of, unit_dump}
use Rattle.wavelaws.proofs.Lengths.{dump_length}
use Rattle.lettering.specs.Writing.{Fits, HasRoom, Writes}
use Rattle.lettering.specs.declared.Writer.{Writer}
use Rattle.lettering.proofs.Writes.{writes_as, writes_then}
use Rattle.dumping.specs.Runs.{blocks, Measured, Shown}

-- what is too long for the room is too long for what is left of it
holds-rest : (room front rest : ℕ) → front ≤ room → ltb (room - front) rest ≡ ltb room (front + rest)
holds-rest room front rest l = go (ltb room (front + rest)) refl
  where
    go : (b : Bool) → ltb room (front + rest) ≡ b → ltb (room - front) rest ≡ b
    go true e = let h = ltb-true room (front + rest) e in lt-ltb (room - front) rest (omega arith)
    go false e = let h = ltb-false room (front + rest) e in le-ltb (room - front) rest (omega arith)

-- of the states s₁ with the changes entered, and the limit m in force
module _ (f : List ℕ → List ℕ) (s ps vs : List ℕ) (limit : ℕ) {s₁ : List ℕ} (entering : s₁ ≡ put s ps vs) {m : ℕ} (in-force : m ≡ limit_of limit) where
  abbrev run : Ran
  run = settle f m 0 s₁

  abbrev dump : List ℕ
  dump = unit_dump f s (changes_of ps vs) limit

  whole : dump_of f s₁ run.count ≡ dump
  unfolding unit_dump unit_steps
  whole = rw (entering, in-force) refl

  whole_length : length dump ≡ length (header (length s₁)) + length (start_block s₁) + length (blocks f s₁ run)
  whole_length = ap length (sym whole) ∙ dump_length f s₁ run.count

  -- where there is room for the dump there is room for each part
  pub header_fits : (out : List ℕ) (p : ℕ) → Fits out p dump → Fits out p (header (length s₁))
  header_fits out p fits = omega (arith, whole_length)

  module _ {w₀ w₁ : Writer} (fits : HasRoom w₀ dump) (head : Writes w₀ (header (length s₁)) w₁) where
    pub start_fits : HasRoom w₁ (start_block s₁)
    start_fits = omega (arith, whole_length)

    pub blocks-fit : {w₂ : Writer} → Writes w₁ (start_block s₁) w₂ → HasRoom w₂ (blocks f s₁ run)
    blocks-fit start = omega (arith, whole_length)

  -- the parts are the dump
  pub writes_whole : {w₀ w₁ w₂ w₃ : Writer} → Writes w₀ (header (length s₁)) w₁ → Writes w₁ (start_block s₁) w₂ → Writes w₂ (blocks f s₁ run) w₃ → Writes w₀ dump w₃
  unfolding dump_of
  writes_whole head start steps = writes_as whole (writes_then head (writes_then start steps))

module _ (by : Stepping) (s ps vs : List ℕ) (limit : ℕ) {s₁ : List ℕ} (entering : s₁ ≡ put s ps vs) {m : ℕ} (in-force : m ≡ limit_of limit) where
  abbrev dumped : List ℕ
  dumped = unit_dump by.next s (changes_of ps vs) limit

  abbrev rest : List ℕ
  rest = blocks by.next s₁ (settle by.next m 0 s₁)

  long : length dumped ≡ length (header (length s₁)) + length (start_block s₁) + length rest
  long = whole_length by.next s ps vs limit entering in-force

  -- measured: the front alone is too long, or the blocks decide
  module _ {front : ℕ} (e : front ≡ length (header (length s₁)) + length (start_block s₁)) where
    pub front_too_long : {room : ℕ} → room < front → {w : List ℕ} → Measured by room dumped w (leb front room) w
    front_too_long {room} l = record { tells = lt-leb front room l ∙ sym (ap not (lt-ltb room (length dumped) (omega (arith, long)))); spared = λ k b. refl }

    pub blocks_decide : (room : ℕ) → front ≤ room → {w w' : List ℕ} {b : Bool} → Measured by (room - front) rest w b w' → Measured by room dumped w b w'
    blocks_decide room l h = record {
      tells = h.tells ∙ ap not (holds-rest room front (length rest) l ∙ ap (ltb room) (ap (λ (n : ℕ). n + length rest) e ∙ sym long));
      spared = h.spared;
    }

  -- written: the run and its dump, in the output that the writer had
  pub dump_shown : {w₀ w₁ w₂ w₃ : Writer} → Writes w₀ (header (length s₁)) w₁ → Writes w₁ (start_block s₁) w₂ → Writes w₂ rest w₃ → {w w' s' out' : List ℕ} {r : Result ℕ Moving}
      → EndedAs by (settle by.next m 0 s₁) w r s' w' → (w₀.out.ghost_name ≡ w₃.out.ghost_name → out' ≡ w₃.out.now)
      → Shown by (unit_steps by.next s (changes_of ps vs) limit) dumped w w₀.out.now w₀.place r w₃.place s' w' out'
  dump_shown head start steps ends back =
      let whole = writes_whole by.next s ps vs limit entering in-force head start steps in
      record { ended = unit_ended s ps vs limit entering in-force ends; wrote = rw (back (sym whole.same_output)) whole.wrote }

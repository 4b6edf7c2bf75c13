-- Each entry's contract determines its answer and the final contents of each table that it may write: two outcomes that it admits are equal.
-- `Post` is the contract's promise, as the check reads it, of the arguments, the answer and the tables at exit. Assumes nothing.
use Prim.Native.Nat.{ℕ}
use mathlib.Core.Path.{◌≡◌, ap, ◌∙◌, sym}
use mathlib.Core.List.{List}
use borrow.Fn.Kinds.{ended_of}
use borrow.Fn.World.{ArgsD, ResD}
use contract.Lifetimes.{Lfts}
use denote.Triple.Clauses.{AtExit}
use Rattle.model.specs.Net.{Net}
use Rattle.model.specs.declared.Answer.{Answer}
use Rattle.text.specs.Reading.{Read, read_by, Listed, listed_by}
use Rattle.reader.specs.contracts.read_sim
use Rattle.reader.proofs.read_sim.Kinds as sim-kinds
use Rattle.reader.proofs.read_sim.Reads as sim-reads
use Rattle.reader.specs.contracts.node_span
use Rattle.reader.proofs.node_span.Kinds as span-kinds
use Rattle.reader.proofs.node_span.Reads as span-reads
use Rattle.reader.specs.contracts.node_name
use Rattle.reader.proofs.node_name.Kinds as name-kinds
use Rattle.reader.proofs.node_name.Reads as name-reads
use Rattle.reader.specs.contracts.node_names
use Rattle.reader.proofs.node_names.Kinds as names-kinds
use Rattle.reader.proofs.node_names.Reads as names-reads

-- a reading is one answer and five tables; a listing is one answer and two
read_one : {o : Read} {a b : Answer} {s t : Net} → read_by a s ≡ o → read_by b t ≡ o
    → (a ≡ b) × (s.kinds ≡ t.kinds) × (s.types ≡ t.types) × (s.gates ≡ t.gates) × (s.sources ≡ t.sources) × (s.drains ≡ t.drains)
read_one p q =
    let e = p ∙ sym q in (
      ap (λ (z : Read). z.answer) e,
      ap (λ (z : Read). z.tables.kinds) e,
      ap (λ (z : Read). z.tables.types) e,
      ap (λ (z : Read). z.tables.gates) e,
      ap (λ (z : Read). z.tables.sources) e,
      ap (λ (z : Read). z.tables.drains) e,
    )

listed-one : {o : Listed} {a b : Answer} {s t v w : List ℕ} → listed_by a s v ≡ o → listed_by b t w ≡ o → (a ≡ b) × (s ≡ t) × (v ≡ w)
listed-one p q =
    let e = p ∙ sym q in
    (ap (λ (z : Listed). z.answer) e, ap (λ (z : Listed). z.starts) e, ap (λ (z : Listed). z.sizes) e)

pub read_determined : (κs : Lfts 6) (lent : ArgsD read_sim.signature κs) (a b : ResD read_sim.signature κs) (x y : AtExit (ended_of 6 sim-kinds.ps sim-kinds.r) κs)
    → sim-reads.Post κs lent a x → sim-reads.Post κs lent b y
    → (a ≡ b)
    × (x.1.0.now ≡ y.1.0.now)
    × (x.1.1.0.now ≡ y.1.1.0.now)
    × (x.1.1.1.0.now ≡ y.1.1.1.0.now)
    × (x.1.1.1.1.0.now ≡ y.1.1.1.1.0.now)
    × (x.1.1.1.1.1.0.now ≡ y.1.1.1.1.1.0.now)
read_determined κs lent a b x y p q = read_one p q

pub span_determined : (κs : Lfts 1) (lent : ArgsD node_span.signature κs) (a b : ResD node_span.signature κs) (x y : AtExit (ended_of 1 span-kinds.ps span-kinds.r) κs)
    → span-reads.Post κs lent a x → span-reads.Post κs lent b y → a ≡ b
span_determined κs lent a b x y p q = p ∙ sym q

pub name_determined : (κs : Lfts 1) (lent : ArgsD node_name.signature κs) (a b : ResD node_name.signature κs) (x y : AtExit (ended_of 1 name-kinds.ps name-kinds.r) κs)
    → name-reads.Post κs lent a x → name-reads.Post κs lent b y → a.now ≡ b.now
name_determined κs lent a b x y p q = p ∙ sym q

pub names_determined : (κs : Lfts 3) (lent : ArgsD node_names.signature κs) (a b : ResD node_names.signature κs) (x y : AtExit (ended_of 3 names-kinds.ps names-kinds.r) κs)
    → names-reads.Post κs lent a x → names-reads.Post κs lent b y → (a ≡ b) × (x.1.0.now ≡ y.1.0.now) × (x.1.1.0.now ≡ y.1.1.0.now)
names_determined κs lent a b x y p q = listed-one p q

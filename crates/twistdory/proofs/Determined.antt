-- Each entry's contract determines its answer and the final contents of each buffer that it may write: two outcomes that it admits are equal.
-- `Post` is the contract's promise, as the check reads it, of the arguments, the answer and the buffers at exit. Assumes nothing.
use mathlib.Core.Path.{◌≡◌, ◌∙◌, sym}
use borrow.Fn.Kinds.{ended_of}
use borrow.Fn.World.{ArgsD, ResD}
use contract.Lifetimes.{Lfts}
use denote.Triple.Clauses.{AtExit}
use Rattle.basis.proofs.Verdicts.{leaves_one}
use Rattle.twistdory.specs.contracts.check
use Rattle.twistdory.proofs.check.Kinds as check-kinds
use Rattle.twistdory.proofs.check.Reads as check-reads
use Rattle.twistdory.specs.contracts.reset
use Rattle.twistdory.proofs.reset.Kinds as reset-kinds
use Rattle.twistdory.proofs.reset.Reads as reset-reads
use Rattle.twistdory.specs.contracts.step
use Rattle.twistdory.proofs.step.Kinds as step-kinds
use Rattle.twistdory.proofs.step.Reads as step-reads
use Rattle.twistdory.specs.contracts.unit_run
use Rattle.twistdory.proofs.unit_run.Kinds as unit-kinds
use Rattle.twistdory.proofs.unit_run.Reads as unit-reads
use Rattle.twistdory.specs.contracts.ternary_run
use Rattle.twistdory.proofs.ternary_run.Kinds as ternary-kinds
use Rattle.twistdory.proofs.ternary_run.Reads as ternary-reads

pub check_determined : (κs : Lfts 2) (lent : ArgsD check.signature κs) (a b : ResD check.signature κs) (x y : AtExit (ended_of 2 check-kinds.ps check-kinds.r) κs)
    → check-reads.Post κs lent a x → check-reads.Post κs lent b y → a ≡ b
check_determined κs lent a b x y p q = p ∙ sym q

pub reset_determined : (κs : Lfts 2) (lent : ArgsD reset.signature κs) (a b : ResD reset.signature κs) (x y : AtExit (ended_of 2 reset-kinds.ps reset-kinds.r) κs)
    → reset-reads.Post κs lent a x → reset-reads.Post κs lent b y → (a ≡ b) × (x.1.0.now ≡ y.1.0.now)
reset_determined κs lent a b x y p q = let r = leaves_one p q in (r.0, r.1)

pub step_determined : (κs : Lfts 4) (lent : ArgsD step.signature κs) (a b : ResD step.signature κs) (x y : AtExit (ended_of 4 step-kinds.ps step-kinds.r) κs)
    → step-reads.Post κs lent a x → step-reads.Post κs lent b y → (a ≡ b) × (x.1.0.now ≡ y.1.0.now) × (x.1.1.0.now ≡ y.1.1.0.now)
step_determined κs lent a b x y p q = leaves_one p q

pub unit_determined : (κs : Lfts 6) (lent : ArgsD unit_run.signature κs) (a b : ResD unit_run.signature κs) (x y : AtExit (ended_of 6 unit-kinds.ps unit-kinds.r) κs)
    → unit-reads.Post κs lent a x → unit-reads.Post κs lent b y → (a ≡ b) × (x.1.0.now ≡ y.1.0.now) × (x.1.1.1.1.0.now ≡ y.1.1.1.1.0.now)
unit_determined κs lent a b x y p q = leaves_one p q

pub ternary_determined : (κs : Lfts 6) (lent : ArgsD ternary_run.signature κs) (a b : ResD ternary_run.signature κs) (x y : AtExit (ended_of 6 ternary-kinds.ps ternary-kinds.r) κs)
    → ternary-reads.Post κs lent a x → ternary-reads.Post κs lent b y → (a ≡ b) × (x.1.0.now ≡ y.1.0.now) × (x.1.1.1.0.now ≡ y.1.1.1.0.now)
ternary_determined κs lent a b x y p q = leaves_one p q

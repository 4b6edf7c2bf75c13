-- Sums over the numbers below a bound, and how many branches start at nodes: at distinct nodes no more than there are. Assumes nothing.
use Prim.Native.Nat.{ℕ, zero, suc, ◌+◌, ◌≤◌, ◌<◌}
use native.Mathlib.Omega.{arith}
use native.Mathlib.Nat.{le_of_suc-le-suc, eq-or-lt_of_le, le_refl, le_trans}
use native.Mathlib.Numerals.{add-one}
use native.Mathlib.Decide.{ℕ_discrete}
use mathlib.Core.Path.{◌≡◌, refl, sym, ap, ap₂, ◌∙◌, subst}
use mathlib.Core.Logic.{⊎_elim}
use mathlib.Core.Bool.{Bool, true, false, cond, ◌&&◌, false≢true}
use mathlib.Core.List.{List}
use lib.Dec.{eqb}
use borrow.Author.Tests.{eq-eqb, ne_eqb, eqb-true}
use Rattle.model.specs.Places.{at}
use Rattle.branches.specs.Branch.{total, prefix, Wires, near, degree}

pub total-zero : (f : ℕ → ℕ) → total f 0 ≡ 0
unfolding total
total-zero f = refl

pub total-next : (f : ℕ → ℕ) (n : ℕ) → total f (n + 1) ≡ total f n + f n
unfolding total
total-next f n = rw add-one

zeros : (n : ℕ) → total (λ k. 0) n ≡ 0
unfolding total
zeros zero = refl
zeros (suc n) = rw (zeros n) refl

pub total_ones : (n : ℕ) → total (λ k. 1) n ≡ n
unfolding total
total_ones zero = refl
total_ones (suc n) = omega (arith, total_ones n)

pub total-same : (f g : ℕ → ℕ) (n : ℕ) → ((k : ℕ) → k < n → f k ≡ g k) → total f n ≡ total g n
unfolding total
total-same f g zero h = refl
total-same f g (suc n) h = ap₂ ◌+◌ (total-same f g n (λ k l. h k (omega arith))) (h n (omega arith))

pub total_le : (f g : ℕ → ℕ) (n : ℕ) → ((k : ℕ) → k < n → f k ≤ g k) → total f n ≤ total g n
unfolding total
total_le f g zero h = omega arith
total_le f g (suc n) h = omega (arith, total_le f g n (λ k l. h k (omega arith)), h n (omega arith))

-- one summand has d more
pub total_more : (f g : ℕ → ℕ) (n j d : ℕ) → ((k : ℕ) → k < n → (k ≡ j → ⊥) → g k ≡ f k) → j < n → g j ≡ f j + d → total g n ≡ total f n + d
unfolding total
total_more f g zero j d h l p = absurd (omega arith)
total_more f g (suc n) j d h l p =
    ⊎_elim
    (λ e. omega (arith, total-same g f n (λ k i. h k (omega arith) (λ q. absurd (omega arith))), subst (λ (i : ℕ). g i ≡ f i + d) e p))
    (λ i. omega (arith, total_more f g n j d (λ k q. h k (omega arith)) i p, h n (omega arith) (λ q. absurd (omega arith))))
    (eq-or-lt_of_le (le_of_suc-le-suc l))

pub total-add : (f g : ℕ → ℕ) (n : ℕ) → total (λ k. f k + g k) n ≡ total f n + total g n
unfolding total
total-add f g zero = refl
total-add f g (suc n) = omega (arith, total-add f g n)

pub total-part : (f : ℕ → ℕ) (k n : ℕ) → k ≤ n → total f k ≤ total f n
unfolding total
total-part f k zero h = let e : k ≡ 0 = omega arith in rw e (le_refl _)
total-part f k (suc n) h = ⊎_elim (λ e. rw e (le_refl _)) (λ l. le_trans (total-part f k n (omega arith)) (omega arith)) (eq-or-lt_of_le h)

-- the same queue elsewhere
pub prefix_same : (f : ℕ → ℕ) (w u : List ℕ) (q t : ℕ) → ((j : ℕ) → j < t → at u (q + j) ≡ at w (q + j)) → prefix f u q t ≡ prefix f w q t
prefix_same f w u q t h = total-same (λ j. f (at u (q + j))) (λ j. f (at w (q + j))) t (λ j l. ap f (h j l))

-- a test counts for one at most
pub cond_few : (b : Bool) → cond b 1 0 ≤ 1
cond_few true = omega arith
cond_few false = omega arith

-- what counts where a test passes counts where a weaker one does
pub cond_le : (b c : Bool) (x : ℕ) → (b ≡ true → c ≡ true) → cond b x 0 ≤ cond c x 0
cond_le true true x h = le_refl x
cond_le true false x h = absurd (false≢true (h refl))
cond_le false c x h = omega arith

-- one branch starts at no more than one of distinct nodes
ones_none : (mem : ℕ → ℕ) (a m : ℕ) (b : Bool) → ((k : ℕ) → k < m → mem k ≡ a → ⊥) → total (λ k. cond (eqb a (mem k) && b) 1 0) m ≡ 0
unfolding total
ones_none mem a zero b d = refl
ones_none mem a (suc m) b d = rw (ones_none mem a m b (λ k l. d k (omega arith)), ne_eqb a (mem m) (λ e. d m (omega arith) (sym e))) refl

ones : (mem : ℕ → ℕ) (a m : ℕ) (b : Bool) → ((j k : ℕ) → j < k → k < m → mem j ≡ mem k → ⊥) → total (λ k. cond (eqb a (mem k) && b) 1 0) m ≤ 1
unfolding total
ones mem a zero b d = omega arith
ones mem a (suc m) b d = go (ones mem a m b (λ j k p l. d j k p (omega arith))) (ℕ_discrete a (mem m))
  where
    go : total (λ k. cond (eqb a (mem k) && b) 1 0) m ≤ 1 → Dec (a ≡ mem m) → total (λ k. cond (eqb a (mem k) && b) 1 0) m + cond (eqb a (mem m) && b) 1 0 ≤ 1
    go i (yes e) = rw (ones_none mem a m b (λ k l q. d k m l (omega arith) (q ∙ e))) (omega (arith, cond_few (eqb a (mem m) && b)))
    go i (no e) = rw (ne_eqb a (mem m) e) (omega arith)

and_no : (a b : Bool) → (a ≡ true → b ≡ true → ⊥) → (a && b) ≡ false
and_no true true h = absurd (h refl refl)
and_no true false h = refl
and_no false b h = refl

module _ (G : Wires) where
  pub degrees_bound : {mem : ℕ → ℕ} {m : ℕ} → ((j k : ℕ) → j < k → k < m → mem j ≡ mem k → ⊥) → (h : ℕ) → total (λ k. degree G (mem k) h) m ≤ h
  unfolding degree
  degrees_bound {mem} {m} once zero = rw (zeros m) (omega arith)
  degrees_bound {mem} {m} once (suc h) =
      rw (total-add (λ k. degree G (mem k) h) (λ k. cond (eqb (near G h) (mem k) && G.listed h) 1 0) m) (omega (arith, degrees_bound once h, ones mem (near G h) m (G.listed h) once))

  -- no more branches start at a node where none is listed, and one more at each that is
  pub degree_gap : (v e h : ℕ) → e ≤ h → ((g : ℕ) → e ≤ g → g < h → near G g ≡ v → G.listed g ≡ true → ⊥) → degree G v h ≡ degree G v e
  unfolding degree
  degree_gap v e zero l d = let q : e ≡ 0 = omega arith in rw q refl
  degree_gap v e (suc h) l d = go (λ a. degree_gap v e h a (λ g p q. d g p (omega arith))) (ℕ_discrete e (suc h))
    where
      go : (e ≤ h → degree G v h ≡ degree G v e) → Dec (e ≡ suc h) → degree G v (suc h) ≡ degree G v e
      go i (yes q) = rw q refl
      go i (no q) = rw (i (omega arith), and_no (eqb (near G h) v) (G.listed h) (λ a b. d h (omega arith) (omega arith) (eqb-true (near G h) v a) b)) (omega arith)

  degree_here : (v h : ℕ) → near G h ≡ v → G.listed h ≡ true → degree G v (h + 1) ≡ degree G v h + 1
  unfolding degree
  degree_here v h e o = rw (add-one h, eq-eqb (near G h) v e, o)

  -- by the last branch of a list
  pub degree_last : (v h upto : ℕ) → h < upto → near G h ≡ v → G.listed h ≡ true → ((g : ℕ) → h < g → g < upto → near G g ≡ v → G.listed g ≡ true → ⊥) → degree G v upto ≡ degree G v h + 1
  degree_last v h upto l n o d = degree_gap v (h + 1) upto (omega arith) (λ g p. d g (omega arith)) ∙ degree_here v h n o

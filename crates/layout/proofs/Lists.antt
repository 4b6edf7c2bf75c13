-- The lists of branches, one branch after the other. Assumes nothing.
use Prim.Native.Nat.{ℕ, ◌+◌, ◌*◌, ◌<◌}
use native.Mathlib.Omega.{arith}
use native.Mathlib.Decide.{ℕ_discrete}
use mathlib.Core.Path.{◌≡◌, sym, ap, ◌∙◌, subst}
use mathlib.Core.Bool.{Bool, true, false, true≢false}
use mathlib.Core.List.{List}
use lib.ListN.{length, set, length-set}
use lib.Seq.{get_or-set_same, get_or-set_other}
use Rattle.model.specs.Places.{at}
use Rattle.basis.proofs.Cells.{Stored, here, else, stored}
use Rattle.branches.specs.Branch.{Wires, near, entry, Last, none, some, Linked}
use Rattle.layout.specs.Look.{entry_of, pushed}

-- lists of no branch yet
pub linked_none : {G : Wires} {w : List ℕ} → ((v : ℕ) → v < G.size → at w (3 * G.size + v) ≡ 0) → Linked G 0 w
linked_none f = record { first = λ v l. none (f v l) (λ g a. absurd (omega arith)); next = λ h l. absurd (omega arith) }

module _ (G : Wires) (h : ℕ) where
  last_wider : {v e : ℕ} → (near G h ≡ v → G.listed h ≡ true → ⊥) → Last G v h e → Last G v (h + 1) e
  last_wider {v} d (none q f) = none q (λ g a c o. go g a c o (ℕ_discrete g h))
    where
      go : (g : ℕ) → g < h + 1 → near G g ≡ v → G.listed g ≡ true → Dec (g ≡ h) → ⊥
      go g a c o (yes p) = d (sym (ap (near G) p) ∙ c) (sym (ap G.listed p) ∙ o)
      go g a c o (no p) = f g (omega arith) c o
  last_wider {v} d (some k q l c o f) = some k q (omega arith) c o (λ g b a r p. go g b a r p (ℕ_discrete g h))
    where
      go : (g : ℕ) → k < g → g < h + 1 → near G g ≡ v → G.listed g ≡ true → Dec (g ≡ h) → ⊥
      go g b a r p (yes e) = d (sym (ap (near G) e) ∙ r) (sym (ap G.listed e) ∙ p)
      go g b a r p (no e) = f g b (omega arith) r p

  -- a branch that is not listed
  pub linked_skip : {w : List ℕ} → G.listed h ≡ false → Linked G h w → Linked G (h + 1) w
  linked_skip {w} f z = record {
    first = λ v l. last_wider (λ e o. true≢false (sym o ∙ f)) (z.first v l);
    next = λ g l o. next_go g l o (ℕ_discrete g h);
  }
    where
      next_go : (g : ℕ) → g < h + 1 → G.listed g ≡ true → Dec (g ≡ h) → Last G (near G g) g (at w (4 * G.size + g))
      next_go g l o (yes q) = absurd (true≢false (sym o ∙ ap G.listed q ∙ f))
      next_go g l o (no q) = z.next g (omega arith) o

  -- one that is put before the list of its node
  module _ (w : List ℕ) (vn : near G h < G.size) (room : 4 * G.size + h < length w) (oh : G.listed h ≡ true) where
    abbrev mid : List ℕ
    mid = set w (4 * G.size + h) (at w (3 * G.size + near G h))

    abbrev w' : List ℕ
    w' = set mid (3 * G.size + near G h) (entry G h)

    pub linked_more : Linked G h w → Linked G (h + 1) w'
    linked_more z = record {
      first = λ v l. first_go v l (stored mid (3 * G.size + near G h) (entry G h) (3 * G.size + v) (simp length-set (omega arith))) (z.first v l);
      next = λ g l o. next_go g l o (ℕ_discrete g h);
    }
      where
        first_go : (v : ℕ) → v < G.size → {y : ℕ} → Stored mid (3 * G.size + near G h) (entry G h) (3 * G.size + v) y → Last G v h (at w (3 * G.size + v)) → Last G v (h + 1) y
        first_go v l (here q r) old =
            let e : near G h ≡ v = omega arith in
            some h r (omega arith) e oh (λ g a b. absurd (omega arith))
        first_go v l (else q r) old =
            rw (r, get_or-set_other w (4 * G.size + h) (3 * G.size + v) (at w (3 * G.size + near G h)) 0 (omega arith))
            (last_wider (λ e o. q (ap (λ (y : ℕ). 3 * G.size + y) (sym e))) old)

        cell : (g : ℕ) → at w' (4 * G.size + g) ≡ at mid (4 * G.size + g)
        cell g = get_or-set_other mid (3 * G.size + near G h) (4 * G.size + g) (entry G h) 0 (omega arith)

        next_go : (g : ℕ) → g < h + 1 → G.listed g ≡ true → Dec (g ≡ h) → Last G (near G g) g (at w' (4 * G.size + g))
        next_go g l o (yes q) =
            subst (λ (y : ℕ). Last G (near G y) y (at w' (4 * G.size + y))) (sym q)
            (rw (cell h, get_or-set_same w (4 * G.size + h) (at w (3 * G.size + near G h)) 0 (omega arith)) (z.first (near G h) vn))
        next_go g l o (no q) =
            rw (cell g, get_or-set_other w (4 * G.size + h) (4 * G.size + g) (at w (3 * G.size + near G h)) 0 (omega arith)) (z.next g (omega arith) o)

  -- the same, of the branch as the code names it
  pub linked_push : (w : List ℕ) (v : ℕ) (unsure : Bool) → near G h ≡ v → G.unsure h ≡ unsure → v < G.size → 4 * G.size + h < length w → G.listed h ≡ true
      → Linked G h w → Linked G (h + 1) (pushed G.size v h unsure w)
  unfolding pushed
  linked_push w v unsure e f vn room o z = rw (sym e, sym f) (linked_more w (omega arith) room o z)

-- the cells that a branch leaves alone
pub pushed_else : (n v h j : ℕ) (unsure : Bool) (w : List ℕ) → (j ≡ 4 * n + h → ⊥) → (j ≡ 3 * n + v → ⊥) → at (pushed n v h unsure w) j ≡ at w j
unfolding pushed
pushed_else n v h j unsure w p q =
    get_or-set_other (set w (4 * n + h) (at w (3 * n + v))) (3 * n + v) j (entry_of h unsure) 0 q ∙ get_or-set_other w (4 * n + h) j (at w (3 * n + v)) 0 p

pub pushed_long : (n v h : ℕ) (unsure : Bool) (w : List ℕ) → length (pushed n v h unsure w) ≡ length w
unfolding pushed
pushed_long n v h unsure w = simp length-set

-- what the code of a push leaves
pub pushed_is : (n v h e : ℕ) (unsure : Bool) (w : List ℕ) → e ≡ entry_of h unsure → set (set w (4 * n + h) (at w (3 * n + v))) (3 * n + v) e ≡ pushed n v h unsure w
unfolding pushed
pushed_is n v h e unsure w q = ap (set (set w (4 * n + h) (at w (3 * n + v))) (3 * n + v)) q

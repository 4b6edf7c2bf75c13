-- Nodes that sure branches join, seen from either. Assumes nothing.
use Prim.Native.Nat.{ℕ, ◌+◌, ◌<◌}
use mathlib.Core.Path.{◌≡◌, refl, sym, ◌∙◌, subst}
use mathlib.Core.Bool.{true, false, not, and-eq-true_iff}
use mathlib.Core.List.{List}
use borrow.Author.Tests.{not-true}
use Rattle.model.specs.Places.{at}
use Rattle.branches.specs.Branch.{Wires, near, far, branches, followed, Laid}
use Rattle.joined.specs.Sets.{Joined, here, on, Sum, one, both}

module _ (G : Wires) where
  -- a branch that is followed where only sure ones are
  pub sure_listed : (h : ℕ) → followed G false h ≡ true → (G.listed h ≡ true) × (G.unsure h ≡ false)
  sure_listed h e = let p = (and-eq-true_iff (G.listed h) (not (G.unsure h))).0 e in (p.0, not-true (G.unsure h) p.1)

  pub listed_sure : (h : ℕ) → G.listed h ≡ true → G.unsure h ≡ false → followed G false h ≡ true
  listed_sure h e f = rw (e, f) refl

  pub joined_then : {a b c : ℕ} → Joined G a b → Joined G b c → Joined G a c
  joined_then i here = i
  joined_then i (on h j l e) = on h (joined_then i j) l e

  module _ {room : ℕ} (L : Laid G room) where
    -- the same branch from its other end
    pub mirror_sure : (h : ℕ) → h < branches G → followed G false h ≡ true → (g : ℕ) × (g < branches G) × (followed G false g ≡ true) × (near G g ≡ far G h) × (far G g ≡ near G h)
    mirror_sure h l e =
        let s = sure_listed h e in
        let m = L.mirrors h l s.0 in (
          m.0,
          m.1.there,
          listed_sure m.0 m.1.listed (m.1.unsure ∙ s.1),
          m.1.back,
          m.1.home,
        )

    joined_step : (h : ℕ) → h < branches G → followed G false h ≡ true → Joined G (far G h) (near G h)
    joined_step h l e =
        let m = mirror_sure h l e in
        subst (λ (y : ℕ). Joined G (far G h) y) m.4 (on m.0 (subst (λ (y : ℕ). Joined G (far G h) y) (sym m.3) here) m.1 m.2)

    pub joined_back : {a b : ℕ} → Joined G a b → Joined G b a
    joined_back here = here
    joined_back (on h j l e) = joined_then (joined_step h l e) (joined_back j)

    -- what sure branches keep holds of every node that they join
    pub joined_all : (P : ℕ → Type 0) {a b : ℕ} → ((h : ℕ) → h < branches G → followed G false h ≡ true → P (near G h) → P (far G h)) → P a → Joined G a b → P b
    joined_all P step p here = p
    joined_all P step p (on h j l e) = step h l e (joined_all P step p j)

  -- a sum of one set, of the same cells elsewhere, for another node of the set
  pub sum_moved : {w u : List ℕ} {a b c : ℕ} → ((x : ℕ) → Joined G a x → Joined G b x × (at u (G.size + x) ≡ at w (G.size + x))) → Sum G w a c → Sum G u b c
  sum_moved {w} {u} {a} {b} m (one x j l) = subst (λ (y : ℕ). Sum G u b y) (m x j).1 (one x (m x j).0 l)
  sum_moved m (both x y) = both (sum_moved m x) (sum_moved m y)

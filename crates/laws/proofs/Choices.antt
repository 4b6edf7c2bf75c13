-- What a test of every choice says of each; how transistors stand where less is known. Assumes nothing.
use Prim.Native.Nat.{ℕ, zero, suc, ◌<◌}
use native.Mathlib.Nat.{not-suc-le-zero, le_of_suc-le-suc}
use mathlib.Core.Path.{◌≡◌, refl, ap}
use mathlib.Core.Logic.{◌⊎◌, inl, inr}
use mathlib.Core.Bool.{Bool, true, false, and-eq-true_iff}
use mathlib.Core.List.{List, [], ◌∷◌}
use lib.ListN.{get_or}
use Rattle.model.specs.Places.{tab}
use Rattle.model.specs.Net.{Stand, opened, closed, unknown, stand, every_choice}
use Rattle.model.specs.Ways.{choose}
use Rattle.model.specs.Order.{◌⊑◌}
use Rattle.model.specs.Demands.{Fits, Choice}

pub every_choice-at : (r : List Stand) (p : List Bool → Bool) → every_choice r p ≡ true → (c : List Bool) → Choice r c → p c ≡ true
every_choice-at [] p e [] w = e
every_choice-at [] p e (b ∷ c) w = absurd w
every_choice-at (x ∷ r) p e [] w = absurd w
every_choice-at (opened ∷ r) p e (true ∷ c) w = absurd w.0
every_choice-at (opened ∷ r) p e (false ∷ c) w = every_choice-at r (λ d. p (false ∷ d)) e c w.1
every_choice-at (closed ∷ r) p e (true ∷ c) w = every_choice-at r (λ d. p (true ∷ d)) e c w.1
every_choice-at (closed ∷ r) p e (false ∷ c) w = absurd w.0
every_choice-at (unknown ∷ r) p e (true ∷ c) w = every_choice-at r (λ d. p (true ∷ d)) ((and-eq-true_iff (every_choice r (λ d. p (false ∷ d))) _).0 e).1 c w.1
every_choice-at (unknown ∷ r) p e (false ∷ c) w = every_choice-at r (λ d. p (false ∷ d)) ((and-eq-true_iff (every_choice r (λ d. p (false ∷ d))) _).0 e).0 c w.1

pub every_choice_of : (r : List Stand) (p : List Bool → Bool) → ((c : List Bool) → Choice r c → p c ≡ true) → every_choice r p ≡ true
every_choice_of [] p f = f [] tt
every_choice_of (opened ∷ r) p f = every_choice_of r (λ d. p (false ∷ d)) (λ c w. f (false ∷ c) (tt, w))
every_choice_of (closed ∷ r) p f = every_choice_of r (λ d. p (true ∷ d)) (λ c w. f (true ∷ c) (tt, w))
every_choice_of (unknown ∷ r) p f =
    (and-eq-true_iff _ _).1
    (every_choice_of r (λ d. p (false ∷ d)) (λ c w. f (false ∷ c) (tt, w)), every_choice_of r (λ d. p (true ∷ d)) (λ c w. f (true ∷ c) (tt, w)))

abbrev pub Within : Stand → Stand → Type 0
Within x y = (x ≡ y) ⊎ (y ≡ unknown)

pub stand_mono : (y g g' : ℕ) → g ⊑ g' → Within (stand y g) (stand y g')
stand_mono y g g' (inl e) = inl (ap (stand y) e)
stand_mono zero g g' (inr e) = inr (ap (stand 0) e)
stand_mono (suc zero) g g' (inr e) = inr (ap (stand 1) e)
stand_mono (suc (suc d)) g g' (inr e) = inl refl

choose_fits : (x : Stand) (b : Bool) → Fits x (choose x b)
choose_fits opened b = tt
choose_fits closed b = tt
choose_fits unknown b = tt

pub choice_tab : (n : ℕ) (f : ℕ → Stand) (g : ℕ → Bool) → Choice (tab n f) (tab n (λ t. choose (f t) (g t)))
choice_tab zero f g = tt
choice_tab (suc n) f g = (choose_fits (f zero) (g zero), choice_tab n (λ t. f (suc t)) (λ t. g (suc t)))

pub choice_at : (n : ℕ) (f : ℕ → Stand) (c : List Bool) → Choice (tab n f) c → (t : ℕ) → t < n → Fits (f t) (get_or c t false)
choice_at zero f c w t h = absurd (not-suc-le-zero h)
choice_at (suc n) f [] w t h = absurd w
choice_at (suc n) f (b ∷ c) w zero h = w.0
choice_at (suc n) f (b ∷ c) w (suc t) h = choice_at n (λ k. f (suc k)) c w.1 t (le_of_suc-le-suc h)

-- A function applied once more, at the end. Assumes nothing.
use Prim.Native.Nat.{ℕ, zero, suc}
use mathlib.Core.Path.{◌≡◌, refl}
use Rattle.model.specs.Places.{iter}

module _ {A : Type 0} (f : A → A) where
  pub iter_suc : (k : ℕ) (a : A) → f (iter k f a) ≡ iter (suc k) f a
  iter_suc zero a = refl
  iter_suc (suc k) a = iter_suc k (f a)

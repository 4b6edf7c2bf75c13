-- The number of a chain, byte by byte. Assumes nothing.
use Prim.Native.Nat.{ℕ, ◌+◌, ◌*◌, ◌%◌, ◌≤◌, ◌<◌}
use mathlib.Core.Path.{◌≡◌}
use mathlib.Core.List.{List}
use lib.ListN.{length, get_or, drop}
use lib.Seq.{drop-cons}
use Rattle.std.proofs.Common.{add-one}
use Rattle.std.proofs.lemmas.List.{drop_all}
use Rattle.names.specs.Chains.{mixed}

-- what is left to mix is mixed on
pub mixed-next : (h : ℕ) (name : List ℕ) (k : ℕ) → k < length name → mixed h (drop k name) ≡ mixed ((h * 31 + get_or name k 0) % 4096) (drop (k + 1) name)
unfolding mixed
mixed-next h name k l = rw (add-one, drop-cons name k 0 l)

pub mixed_end : (h : ℕ) (name : List ℕ) (k : ℕ) → length name ≤ k → mixed h (drop k name) ≡ h
unfolding mixed
mixed_end h name k l = rw (drop_all k name l)

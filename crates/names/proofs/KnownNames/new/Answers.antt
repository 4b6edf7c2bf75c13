-- `new` meets its contract: no chain has a node yet. Assumes nothing.
use Prim.Native.Nat.{ℕ}
use lib.ListN.{length-replicate, get_or-replicate}
use mathlib.Core.Path.{refl}
use Rattle.names.specs.Chains.{spans}
use Rattle.names.proofs.Chaining.{linked_none}
use Rattle.names.proofs.KnownNames.new.Goals as goal

pub invariant_of-result : goal.invariant_of-result
invariant_of-result c =
    linked_none _ _ _ _ _ c.requires (length-replicate {A = ℕ} 4099 0) (length-replicate {A = ℕ} 4099 0) (length-replicate {A = ℕ} 4096 0) (length-replicate {A = ℕ} 4099 0) (λ b l. get_or-replicate 4096 b 0 0 l)

pub returns : goal.returns
unfolding spans
returns c = refl

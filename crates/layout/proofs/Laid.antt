-- The branches of a checked network name its nodes, and each has its mirror. Assumes nothing.
use Prim.Native.Nat.{ℕ, ◌+◌, ◌*◌, ◌/◌, ◌%◌, ◌<◌}
use native.Mathlib.Omega.{arith}
use native.Mathlib.Decide.{ℕ_discrete}
use mathlib.Core.Path.{◌≡◌, refl, sym, ap, ◌∙◌, subst}
use mathlib.Core.Bool.{Bool, true, false, not, ◌&&◌}
use mathlib.Core.List.{List}
use lib.ListN.{length}
use Rattle.model.specs.Places.{at}
use Rattle.model.specs.Net.{Net, nodes, transistors, is_input, stand_at}
use Rattle.model.specs.Ways.{choose}
use Rattle.basis.specs.Sound.{Checked}
use Rattle.branches.specs.Branch.{Wires, Mirror, Laid}
use Rattle.branches.proofs.Ends.{half_even, half_odd, end_even, end_odd, end_all}
use Rattle.layout.specs.Layout.{doubtful, wires}

-- transistor t is not open, and has no input at either end
abbrev pub between : Net → List ℕ → ℕ → Bool
between net s t = choose (stand_at net s t) true && (not (is_input net (at net.sources t)) && not (is_input net (at net.drains t)))

module _ (net : Net) (s ceilings : List ℕ) where
  abbrev G : Wires
  G = wires net s ceilings

  -- whether the two branches of transistor t are listed, and unsure
  module _ (t : ℕ) where
    pub listed_even : G.listed (2 * t) ≡ between net s t
    listed_even = rw (half_even t, end_even net.sources net.drains t, end_even net.drains net.sources t) refl

    pub listed_odd : G.listed (2 * t + 1) ≡ between net s t
    listed_odd =
        rw (half_odd t, end_odd net.sources net.drains t, end_odd net.drains net.sources t)
        (swap (choose (stand_at net s t) true) (is_input net (at net.sources t)) (is_input net (at net.drains t)))
      where
        swap : (x i j : Bool) → (x && (not j && not i)) ≡ (x && (not i && not j))
        swap true true true = refl
        swap true true false = refl
        swap true false true = refl
        swap true false false = refl
        swap false i j = refl

    pub unsure_even : G.unsure (2 * t) ≡ doubtful net s t
    unsure_even = rw (half_even t) refl

    pub unsure_odd : G.unsure (2 * t + 1) ≡ doubtful net s t
    unsure_odd = rw (half_odd t) refl

    even_mirror : t < length net.sources → G.listed (2 * t) ≡ true → Mirror G (2 * t) (2 * t + 1)
    even_mirror l o = record {
      there = omega arith;
      back = end_odd net.sources net.drains t ∙ sym (end_even net.drains net.sources t);
      home = end_odd net.drains net.sources t ∙ sym (end_even net.sources net.drains t);
      listed = listed_odd ∙ sym listed_even ∙ o;
      unsure = unsure_odd ∙ sym unsure_even;
    }

    odd_mirror : t < length net.sources → G.listed (2 * t + 1) ≡ true → Mirror G (2 * t + 1) (2 * t)
    odd_mirror l o = record {
      there = omega arith;
      back = end_even net.sources net.drains t ∙ sym (end_odd net.drains net.sources t);
      home = end_even net.drains net.sources t ∙ sym (end_odd net.sources net.drains t);
      listed = listed_even ∙ sym listed_odd ∙ o;
      unsure = unsure_even ∙ sym unsure_odd;
    }

  mirror_of : (h : ℕ) → h < 2 * length net.sources → G.listed h ≡ true → (g : ℕ) × Mirror G h g
  mirror_of h l o = go (ℕ_discrete (h % 2) 0)
    where
      go : Dec (h % 2 ≡ 0) → (g : ℕ) × Mirror G h g
      go (yes e) =
          let q : h ≡ 2 * (h / 2) = omega arith in
          (2 * (h / 2) + 1, subst (λ (x : ℕ). Mirror G x (2 * (h / 2) + 1)) (sym q) (even_mirror (h / 2) (omega arith) (sym (ap G.listed q) ∙ o)))
      go (no e) =
          let q : h ≡ 2 * (h / 2) + 1 = omega arith in
          (2 * (h / 2), subst (λ (x : ℕ). Mirror G x (2 * (h / 2))) (sym q) (odd_mirror (h / 2) (omega arith) (sym (ap G.listed q) ∙ o)))

  pub laid_of : {room : ℕ} → Checked net s room → Laid G room
  laid_of c = record {
    drains = c.drains ∙ sym c.sources;
    nears = λ h l. end_all (λ v. v < nodes net) net.sources net.drains h (c.wired (h / 2) (below h l)).source (c.wired (h / 2) (below h l)).drain;
    fars = λ h l. end_all (λ v. v < nodes net) net.drains net.sources h (c.wired (h / 2) (below h l)).drain (c.wired (h / 2) (below h l)).source;
    mirrors = mirror_of;
    few_nodes = c.few_nodes;
    few_transistors = omega (arith, c.sources, c.few_transistors);
    fits = omega (arith, c.sources, c.fits);
  }
    where
      below : (h : ℕ) → h < 2 * length net.sources → h / 2 < transistors net
      below h l = omega (arith, c.sources)

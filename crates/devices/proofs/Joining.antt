-- A device becomes a pullup or a transistor, in tables with room. Assumes nothing.
use Prim.Native.Nat.{ℕ, suc, ◌+◌, ◌≤◌, ◌<◌}
use native.Mathlib.Omega.{arith}
use mathlib.Core.Path.{◌≡◌, sym, ap, subst, ◌∙◌}
use mathlib.Core.Bool.{Bool, true, false}
use mathlib.Core.List.{List, [], ◌∷◌, ◌++◌}
use lib.ListN.{length, take, set}
use lib.Seq.{take-set-lt, take-suc-set, length-take-le}
use Rattle.model.specs.Net.{net_of, transistors}
use Rattle.text.specs.Netlist.{type_number, pulls, joined}
use Rattle.text.specs.declared.DeviceType.{DeviceType}
use Rattle.names.specs.Known.{Known}
use Rattle.devices.specs.Tables.{SoFar, in_tables, with_net, Level}

-- what a clause sees of the tables
module _ (k : Known) (kinds types gates sources drains : List ℕ) (t : ℕ) where
  abbrev pub before : SoFar
  before = in_tables k (net_of kinds types gates sources drains) t

  module _ (r : SoFar) (v : before ≡ r) (long : t ≤ length types) (n : ℕ) (en : n ≡ transistors r.list.net) where
    pub count_seen : n ≡ t
    count_seen = en ∙ (ap (λ (x : SoFar). transistors x.list.net) (sym v) ∙ length-take-le t types long)

    pub network_seen : (m : ℕ) → m ≡ length k.names → net_of (take m kinds) (take n types) (take n gates) (take n sources) (take n drains) ≡ r.list.net
    network_seen m em = rw (em, count_seen) (ap (λ (x : SoFar). x.list.net) v)

  pub level_seen : (r : SoFar) → before ≡ r → length k.names ≤ length kinds → (t ≤ length types) × (t ≤ length gates) × (t ≤ length sources) × (t ≤ length drains) → Level r.list
  level_seen r v few long =
      subst (λ (x : SoFar). Level x.list) v
      (record {
        kinds = length-take-le (length k.names) kinds few;
        gates = length-take-le t gates long.1 ∙ sym (length-take-le t types long.0);
        sources = length-take-le t sources long.2 ∙ sym (length-take-le t types long.0);
        drains = length-take-le t drains long.3 ∙ sym (length-take-le t types long.0);
      })

module _ (k : Known) (kinds types gates sources drains : List ℕ) (t : ℕ) (d : DeviceType) (g s e : ℕ) where
  abbrev held : SoFar
  held = before k kinds types gates sources drains t

  pulled : g < length k.names → pulls d g s e held.list.net.kinds ≡ true
      → in_tables k (net_of (set kinds g 1) types gates sources drains) t ≡ with_net held (joined d g s e held.list.net)
  unfolding joined
  pulled l h = rw (h, take-set-lt (length k.names) kinds g 1 l)

  one_more : (l : List ℕ) (v : ℕ) → t < length l → take (t + 1) (set l t v) ≡ take t l ++ v ∷ []
  one_more l v h = ap (λ (j : ℕ). take j (set l t v)) next ∙ take-suc-set l t v h
    where
      next : t + 1 ≡ suc t
      next = omega arith

  wired : (t < length types) × (t < length gates) × (t < length sources) × (t < length drains) → pulls d g s e held.list.net.kinds ≡ false
      → in_tables k (net_of kinds (set types t (type_number d)) (set gates t g) (set sources t s) (set drains t e)) (t + 1) ≡ with_net held (joined d g s e held.list.net)
  unfolding joined
  wired l h =
      rw (
        h,
        one_more types (type_number d) l.0,
        one_more gates g l.1,
        one_more sources s l.2,
        one_more drains e l.3,
      )

  -- the same, as a clause sees it
  pub pulled_seen : (r : SoFar) → held ≡ r → g < length r.list.names → (p : Bool) → p ≡ pulls d g s e r.list.net.kinds → p ≡ true
      → in_tables k (net_of (set kinds g 1) types gates sources drains) t ≡ with_net r (joined d g s e r.list.net)
  pulled_seen r v =
      subst (λ (x : SoFar). g < length x.list.names → (p : Bool) → p ≡ pulls d g s e x.list.net.kinds → p ≡ true → in_tables k (net_of (set kinds g 1) types gates sources drains) t ≡ with_net x (joined d g s e x.list.net)) v
      (λ l p ep h. pulled l (sym ep ∙ h))

  pub wired_seen : (r : SoFar) → held ≡ r → (t ≤ length types) → (n : ℕ) → n ≡ transistors r.list.net → (n < length types) × (n < length gates) × (n < length sources) × (n < length drains)
      → (p : Bool) → p ≡ pulls d g s e r.list.net.kinds → p ≡ false → (c : ℕ) → c ≡ type_number d
      → in_tables k (net_of kinds (set types n c) (set gates n g) (set sources n s) (set drains n e)) (t + 1) ≡ with_net r (joined d g s e r.list.net)
  wired_seen r v long n en l p ep h c ec =
      subst (λ (x : SoFar). p ≡ pulls d g s e x.list.net.kinds → in_tables k (net_of kinds (set types n c) (set gates n g) (set sources n s) (set drains n e)) (t + 1) ≡ with_net x (joined d g s e x.list.net)) v
      (λ q. rw (so, ec) (wired (omega (arith, so), omega (arith, so), omega (arith, so), omega (arith, so)) (sym q ∙ h))) ep
    where
      so : n ≡ t
      so = count_seen k kinds types gates sources drains t r v long n en

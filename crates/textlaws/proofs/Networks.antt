-- A device keeps a network whole, and `check` takes a whole network that has a node and is within the bounds. Assumes nothing.
use Prim.Native.Nat.{ℕ, ◌≤◌, ◌<◌}
use native.Mathlib.Omega.{arith}
use native.Mathlib.Nat.{not-suc-le-zero}
use mathlib.Core.Path.{◌≡◌, refl, ap}
use mathlib.Core.Bool.{Bool, true, false, cond}
use mathlib.Core.List.{List, [], ◌∷◌, ◌++◌}
use borrow.Author.Tests.{le-ltb, lt-ltb, eq-eqb}
use lib.ListN.{length, set, length-set}
use Rattle.model.specs.Bounds.{most_nodes, most_transistors, highest_kind, highest_type}
use Rattle.model.specs.Places.{any, at}
use Rattle.model.specs.Net.{Net, net_of, alone, nodes, transistors}
use Rattle.model.specs.Rules.{Verdict, given, wire_tests, check_sizes, check_rules}
use Rattle.model.specs.Entries.{check_answer}
use Rattle.model.specs.Demands.{Clean}
use Rattle.model.specs.declared.Answer.TheVariants.{Done}
use Rattle.laws.proofs.Judged.{judge_clean}
use Rattle.basis.proofs.Cells.{Stored, here, else, stored}
use Rattle.text.specs.Netlist.{type_number, pulls, joined}
use Rattle.text.specs.Promised.{Whole}
use Rattle.text.specs.declared.DeviceType.{DeviceType}
use Rattle.text.specs.declared.DeviceType.TheVariants.{N, P, D}
use Rattle.textlaws.proofs.Appended.{length_more, each_more}
use Rattle.textlaws.proofs.Numbering.{LowKinds}

pub whole_none : Whole (alone [])
whole_none =
    record {
      gates_level = refl;
      sources_level = refl;
      drains_level = refl;
      kind_is = λ v l. absurd (not-suc-le-zero l);
      type_is = λ t l. absurd (not-suc-le-zero l);
      gate_is = λ t l. absurd (not-suc-le-zero l);
      source_is = λ t l. absurd (not-suc-le-zero l);
      drain_is = λ t l. absurd (not-suc-le-zero l);
    }

-- other kinds for at least as many nodes
pub whole_kinds : (net : Net) (kinds : List ℕ) → Whole net → nodes net ≤ length kinds → LowKinds kinds → Whole (net_of kinds net.types net.gates net.sources net.drains)
whole_kinds net kinds w m low =
    record {
      gates_level = w.gates_level;
      sources_level = w.sources_level;
      drains_level = w.drains_level;
      kind_is = low;
      type_is = w.type_is;
      gate_is = λ t l. omega (arith, w.gate_is t l);
      source_is = λ t l. omega (arith, w.source_is t l);
      drain_is = λ t l. omega (arith, w.drain_is t l);
    }

-- one more transistor, seen at one of its ends
module _ (types : List ℕ) (y : ℕ) (ends : List ℕ) (x n : ℕ) (level : length ends ≡ length types) where
  level_more : length (ends ++ x ∷ []) ≡ length (types ++ y ∷ [])
  level_more = omega (arith, length_more ends x, length_more types y)

  end_more : ((t : ℕ) → t < length types → at ends t < n) → x < n → (t : ℕ) → t < length (types ++ y ∷ []) → at (ends ++ x ∷ []) t < n
  end_more f l t m = each_more ends x 0 (λ k z. z < n) (λ k o. f k (omega arith)) l t (omega (arith, level_more))

type_low : (t : DeviceType) → type_number t ≤ highest_type
type_low N = omega arith
type_low P = omega arith
type_low D = omega arith

-- a device between three nodes of a network
module _ (t : DeviceType) (g s d : ℕ) (net : Net) where
  abbrev pulled : Net
  pulled = net_of (set net.kinds g 1) net.types net.gates net.sources net.drains

  abbrev wired : Net
  wired = net_of net.kinds (net.types ++ type_number t ∷ []) (net.gates ++ g ∷ []) (net.sources ++ s ∷ []) (net.drains ++ d ∷ [])

  by_device : (Q : Net → Type 0) → Q pulled → Q wired → Q (joined t g s d net)
  unfolding joined
  by_device Q a b = go (pulls t g s d net.kinds)
    where
      go : (x : Bool) → Q (cond x pulled wired)
      go true = a
      go false = b

  pub joined-nodes : nodes (joined t g s d net) ≡ nodes net
  joined-nodes = by_device (λ r. nodes r ≡ nodes net) (length-set net.kinds g 1) refl

  module _ (w : Whole net) (gl : g < nodes net) (sl : s < nodes net) (dl : d < nodes net) where
    pulled_kinds : LowKinds (set net.kinds g 1)
    pulled_kinds v l = go (stored net.kinds g 1 v gl) (length-set net.kinds g 1)
      where
        go : {z : ℕ} → Stored net.kinds g 1 v z → length (set net.kinds g 1) ≡ length net.kinds → z ≤ highest_kind
        go (here e f) h = omega arith
        go (else e f) h = omega (arith, w.kind_is v (omega arith))

    wired_whole : Whole wired
    wired_whole =
        record {
          gates_level = level_more net.types (type_number t) net.gates g (nodes net) w.gates_level;
          sources_level = level_more net.types (type_number t) net.sources s (nodes net) w.sources_level;
          drains_level = level_more net.types (type_number t) net.drains d (nodes net) w.drains_level;
          kind_is = w.kind_is;
          type_is = each_more net.types (type_number t) 0 (λ k z. z ≤ highest_type) w.type_is (type_low t);
          gate_is = end_more net.types (type_number t) net.gates g (nodes net) w.gates_level w.gate_is gl;
          source_is = end_more net.types (type_number t) net.sources s (nodes net) w.sources_level w.source_is sl;
          drain_is = end_more net.types (type_number t) net.drains d (nodes net) w.drains_level w.drain_is dl;
        }

    pub joined-whole : Whole (joined t g s d net)
    joined-whole = by_device Whole (whole_kinds net (set net.kinds g 1) w (omega (arith, length-set net.kinds g 1)) pulled_kinds) wired_whole

-- `check` takes a whole network that has a node and is within the bounds
module _ (net : Net) (w : Whole net) (some : 1 ≤ nodes net) (few : nodes net ≤ most_nodes) (wires : transistors net ≤ most_transistors) where
  sizes_kept : any (check_sizes net) ≡ false
  unfolding check_sizes
  sizes_kept =
      rw (
        le-ltb (nodes net) 1 some,
        le-ltb most_nodes (nodes net) few,
        le-ltb most_transistors (transistors net) wires,
        eq-eqb (length net.gates) (transistors net) w.gates_level,
        eq-eqb (length net.sources) (transistors net) w.sources_level,
        eq-eqb (length net.drains) (transistors net) w.drains_level,
      )

  wires-kept : (t : ℕ) → t < transistors net → any (wire_tests net t) ≡ false
  unfolding wire_tests
  wires-kept t l =
      rw (
        le-ltb highest_type (at net.types t) (w.type_is t l),
        lt-ltb (at net.gates t) (nodes net) (w.gate_is t l),
        lt-ltb (at net.sources t) (nodes net) (w.source_is t l),
        lt-ltb (at net.drains t) (nodes net) (w.drain_is t l),
      )

  rules_kept : Clean (check_rules net)
  unfolding check_rules
  rules_kept = (λ q l. sizes_kept, (λ v l. le-ltb highest_kind (at net.kinds v) (w.kind_is v l), (wires-kept, tt)))

  pub whole_checks : check_answer net ≡ Done 0 0 0
  unfolding check_answer
  whole_checks = ap (λ (v : Verdict). given v (λ a. a) (Done 0 0 0)) (judge_clean (check_rules net) rules_kept)

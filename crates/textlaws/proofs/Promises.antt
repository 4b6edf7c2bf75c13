-- A text that is taken keeps what is promised of it: a network that may be run, and names in the order of their first appearances. Assumes nothing.
use Prim.Native.Nat.{ℕ, zero, suc, ◌+◌, ◌≤◌, ◌<◌}
use native.Mathlib.Omega.{arith}
use native.Mathlib.Nat.{not-suc-le-zero, le_of_suc-le-suc}
use mathlib.Core.Path.{◌≡◌, refl, sym, ◌∙◌}
use mathlib.Core.Bool.{Bool, true, false, cond}
use mathlib.Core.List.{List, [], ◌∷◌, ◌++◌, append-nil, append_assoc}
use borrow.Author.Tests.{ltb-true}
use lib.ListN.{length}
use lib.Dec.{ltb}
use Rattle.model.specs.Bounds.{most_nodes, most_transistors}
use Rattle.model.specs.Places.{at}
use Rattle.model.specs.Net.{Net, net_of, nodes}
use Rattle.model.specs.Entries.{check_answer}
use Rattle.model.specs.declared.Answer.TheVariants.{Done}
use Rattle.text.specs.Lines.{line_end, starts_from, line_starts, line_at}
use Rattle.text.specs.Netlist.{Nodes, number_of, named, Netlist, nodes_of, nothing, device, added, taken, read_on, reading}
use Rattle.text.specs.Promised.{Whole, names_in, names_on, appearances, Promised}
use Rattle.text.specs.declared.DeviceType.{DeviceType}
use Rattle.text.specs.declared.Span.{Span}
use Rattle.text.specs.declared.Names.{Names}
use Rattle.text.specs.declared.Line.{Line}
use Rattle.text.specs.declared.Line.TheVariants.{Device, Skip, Bad}
use Rattle.textlaws.proofs.Lines.{AllFit, LineFits, text_fits}
use Rattle.textlaws.proofs.Readings.{after, on_taken, read_within}
use Rattle.textlaws.proofs.Numbering.{LowKinds, Enrolled, none_enrolled, named_grows, number_below, named_level, named_kinds, named_enrolled}
use Rattle.textlaws.proofs.Networks.{whole_none, whole_kinds, joined-nodes, joined-whole, whole_checks}

-- lines start in the text
abbrev pub Within : List ℕ → List ℕ → Type 0
Within text starts = (q : ℕ) → q < length starts → at starts q < length text

starts_from-within : (text : List ℕ) (most i : ℕ) → Within text (starts_from text most i)
unfolding starts_from
starts_from-within text zero i q l = absurd (not-suc-le-zero l)
starts_from-within text (suc most) i q l = go (ltb i (length text)) refl (λ k. starts_from-within text most (line_end text i + 1) k) q l
  where
    rest : List ℕ
    rest = starts_from text most (line_end text i + 1)

    go : (x : Bool) → ltb i (length text) ≡ x → Within text rest → Within text (cond x (i ∷ rest) [])
    go true e h zero l = ltb-true i (length text) e
    go true e h (suc q) l = h q (le_of_suc-le-suc l)
    go false e h q l = absurd (not-suc-le-zero l)

pub starts_within : (text : List ℕ) → Within text (line_starts text)
unfolding line_starts
starts_within text = starts_from-within text (length text) 0

-- what holds of what was read when these names have appeared
pub record Held (text : List ℕ) (seen : List Span) (m : Netlist) : Type 0 where
  pub whole : Whole m.net
  pub level : length m.names ≡ nodes m.net
  pub enrolled : Enrolled text seen m.names

pub none_held : (text : List ℕ) → Held text [] nothing
none_held text = record { whole = whole_none; level = refl; enrolled = none_enrolled text }

-- a device keeps it: its three names appear
module _ (text : List ℕ) (t : DeviceType) (ns : Names) (m : Netlist) (seen : List Span) (f : AllFit (length text) ns) (h : Held text seen m) where
  abbrev one : Nodes
  one = named text (nodes_of m) ns.gate

  abbrev two : Nodes
  two = named text one ns.source

  abbrev three : Nodes
  three = named text two ns.drain

  three_level : length three.names ≡ length three.kinds
  three_level = named_level text two ns.drain (named_level text one ns.source (named_level text (nodes_of m) ns.gate h.level))

  three_kinds : LowKinds three.kinds
  three_kinds = named_kinds text two ns.drain (named_kinds text one ns.source (named_kinds text (nodes_of m) ns.gate h.whole.kind_is))

  three_enrolled : Enrolled text (seen ++ ns.gate ∷ ns.source ∷ ns.drain ∷ []) three.names
  three_enrolled =
      rw (← append_assoc seen (ns.gate ∷ []) (ns.source ∷ ns.drain ∷ []), ← append_assoc (seen ++ ns.gate ∷ []) (ns.source ∷ []) (ns.drain ∷ []))
      (named_enrolled text two ns.drain (seen ++ ns.gate ∷ [] ++ ns.source ∷ [])
      (named_enrolled text one ns.source (seen ++ ns.gate ∷ []) (named_enrolled text (nodes_of m) ns.gate seen h.enrolled f.gate) f.source) f.drain)

  -- and it is one between nodes that are there
  abbrev grown_net : Net
  grown_net = net_of three.kinds m.net.types m.net.gates m.net.sources m.net.drains

  abbrev g : ℕ
  g = number_of text m.names ns.gate

  abbrev s : ℕ
  s = number_of text one.names ns.source

  abbrev d : ℕ
  d = number_of text two.names ns.drain

  grown_whole : Whole grown_net
  grown_whole =
      whole_kinds m.net three.kinds h.whole
      (omega (arith, h.level, three_level, named_grows text (nodes_of m) ns.gate, named_grows text one ns.source, named_grows text two ns.drain))
      three_kinds

  gate_there : g < nodes grown_net
  gate_there = omega (arith, three_level, number_below text (nodes_of m) ns.gate, named_grows text one ns.source, named_grows text two ns.drain)

  source_there : s < nodes grown_net
  source_there = omega (arith, three_level, number_below text one ns.source, named_grows text two ns.drain)

  drain_there : d < nodes grown_net
  drain_there = omega (arith, three_level, number_below text two ns.drain)

  device_held : Held text (seen ++ ns.gate ∷ ns.source ∷ ns.drain ∷ []) (device text t ns m)
  unfolding device
  device_held =
      record {
        whole = joined-whole t g s d grown_net grown_whole gate_there source_there drain_there;
        level = three_level ∙ sym (joined-nodes t g s d grown_net);
        enrolled = three_enrolled;
      }

-- so does every line, and so the lines that start at these places
added_held : (text : List ℕ) (l : Line) (m : Netlist) (seen : List Span) → LineFits (length text) l → Held text seen m → Held text (seen ++ names_in l) (added text l m)
unfolding LineFits added
added_held text (Device t ns) m seen f h = device_held text t ns m seen f h
added_held text Skip m seen f h = rw append-nil h
added_held text Bad m seen f h = rw append-nil h

read_held : (text : List ℕ) (n t k : ℕ) (m : Netlist) (starts : List ℕ) (seen : List Span) (r : Netlist) → Within text starts → Held text seen m
    → read_on text n t k m starts ≡ taken r → Held text (seen ++ names_on text starts) r
unfolding read_on names_on
read_held text n t k m [] seen r w h e = let f : m ≡ r = cc in rw (append-nil, ← f) h
read_held text n t k m (i ∷ starts) seen r w h e =
    rw (← append_assoc seen (names_in (line_at text i)) (names_on text starts))
    (read_held text n t (suc k) (after text i m) starts (seen ++ names_in (line_at text i)) r (λ q l. w (suc q) (omega arith))
    (added_held text (line_at text i) m seen (text_fits text i (omega (arith, w 0 (omega arith)))) h) (on_taken text n t k m i starts r e).1)

pub taken_held : (text : List ℕ) (n t : ℕ) (m : Netlist) → reading text n t ≡ taken m → Held text (appearances text) m
unfolding reading
taken_held text n t m e = read_held text n t 0 nothing (line_starts text) [] m (starts_within text) (none_held text) e

pub taken_promised : (text : List ℕ) (n t : ℕ) (m : Netlist) → reading text n t ≡ taken m → Promised text m
taken_promised text n t m e = go (taken_held text n t m e)
  where
    go : Held text (appearances text) m → Promised text m
    go h =
        record {
          whole = h.whole;
          names_level = h.level;
          name_fits = h.enrolled.fits;
          names_differ = h.enrolled.differ;
          every_name = h.enrolled.has_node;
          place = h.enrolled.place;
          name_first = h.enrolled.firsts;
          in_order = h.enrolled.in_order;
        }

-- and `check` takes its network, if it has a node
pub read_checks : (text : List ℕ) (n t : ℕ) (m : Netlist) → reading text n t ≡ taken m → 1 ≤ length m.names → n ≤ most_nodes → t ≤ most_transistors → check_answer m.net ≡ Done 0 0 0
read_checks text n t m e some few wires =
    let h = taken_held text n t m e in
    let w = read_within text n t m e in
    whole_checks m.net h.whole (omega (arith, h.level)) (omega (arith, h.level, w.0)) (omega (arith, w.1))

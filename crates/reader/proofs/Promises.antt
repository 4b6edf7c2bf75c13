-- What a caller may conclude from the contracts of the text's entries alone: net is the five tables as they were lent, r the answer, left the
-- tables as they are left. Assumes nothing.
use Prim.Native.Nat.{ℕ, ◌≤◌, ◌<◌}
use native.Mathlib.Omega.{arith}
use mathlib.Core.Path.{◌≡◌, refl, sym, ap, subst, ◌∙◌}
use mathlib.Core.Logic.{◌⊎◌, inl, inr, ◌↔◌}
use mathlib.Core.Bool.{Bool, true, false, cond, ◌||◌, true≢false}
use mathlib.Core.List.{List, [], ◌∷◌, map}
use borrow.Author.Tests.{lt-ltb, le-ltb, ltb-false}
use lib.ListN.{length, get_or, take, drop, length-map, get_or-eq_default, get_or-append, get_or-map}
use lib.Seq.{take_at, drop_at}
use lib.Dec.{ltb}
use Rattle.model.specs.Bounds.{most_nodes, most_transistors, most_bytes}
use Rattle.model.specs.Places.{any, at}
use Rattle.model.specs.Net.{Net, net_of, nodes, transistors}
use Rattle.model.specs.Answer.{number, place, first_count, second_count}
use Rattle.model.specs.Rules.{check_sizes}
use Rattle.model.specs.Entries.{check_answer}
use Rattle.model.specs.declared.Answer.{Answer}
use Rattle.model.specs.declared.Answer.TheVariants.{Done, Size, Text}
use Rattle.basis.specs.Sound.{Sized}
use Rattle.basis.proofs.Fitting.{check_sized}
use Rattle.text.specs.Bytes.{span, empty_part, part, span_at}
use Rattle.text.specs.Lines.{line_starts}
use Rattle.text.specs.Netlist.{Netlist, nothing, Reading, taken, refused, reading}
use Rattle.text.specs.Reading.{over, counted, Read, read_by, filled, read_into, read_sizes, read_outcome, full_reading, name_in, name_part, Listed, listed_by, starts_of, sizes_of, list_into, names_outcome}
use Rattle.text.specs.Promised.{Whole, appearances, First, Promised}
use Rattle.text.specs.declared.Span.{Span}
use Rattle.textlaws.proofs.Tests.{or_none}
use Rattle.textlaws.proofs.Parts.{part_none, part_length}
use Rattle.textlaws.proofs.Readings.{refused_taken, more_room}
use Rattle.textlaws.proofs.Promises.{taken_promised, read_checks}
use Rattle.textlaws.proofs.Offenders.{Offends, first-line}

-- the front of a table that is written anew, and the rest of it
front_is : (new table : List ℕ) (n : ℕ) → length new ≡ n → take n (over new table) ≡ new
unfolding over
front_is new table n e = take_at new (drop (length new) table) n e

rest_is : (new table : List ℕ) (n : ℕ) → length new ≡ n → drop n (over new table) ≡ drop n table
unfolding over
rest_is new table n e = drop_at new (drop (length new) table) n e ∙ ap (λ (k : ℕ). drop k table) e

-- the first n kinds, and the first t entries of the four transistor tables
abbrev pub fronts : ℕ → ℕ → Net → Net
fronts n t net = net_of (take n net.kinds) (take t net.types) (take t net.gates) (take t net.sources) (take t net.drains)

-- what stands behind them
abbrev pub rests : ℕ → ℕ → Net → Net
rests n t net = net_of (drop n net.kinds) (drop t net.types) (drop t net.gates) (drop t net.sources) (drop t net.drains)

-- tables filled with a network have it in front, and behind it what they had
module _ (new net : Net) (n t : ℕ) (a : nodes new ≡ n) (b : transistors new ≡ t) (w : Whole new) where
  filled_fronts : fronts n t (filled new net) ≡ new
  filled_fronts =
      rw (
        front_is new.kinds net.kinds n a,
        front_is new.types net.types t b,
        front_is new.gates net.gates t (w.gates_level ∙ b),
        front_is new.sources net.sources t (w.sources_level ∙ b),
        front_is new.drains net.drains t (w.drains_level ∙ b),
      )

  filled_rests : rests n t (filled new net) ≡ rests n t net
  filled_rests =
      rw (
        rest_is new.kinds net.kinds n a,
        rest_is new.types net.types t b,
        rest_is new.gates net.gates t (w.gates_level ∙ b),
        rest_is new.sources net.sources t (w.sources_level ∙ b),
        rest_is new.drains net.drains t (w.drains_level ∙ b),
      )

-- what DONE says: m is the netlist read. In the largest tables the same is read, and by that reading are the names told
pub record ReadDone (text : List ℕ) (net : Net) (r : Answer) (left : Net) : Type 0 where
  pub m : Netlist
  pub read : reading text (nodes net) (transistors net) ≡ taken m
  pub at_large : full_reading text ≡ taken m
  pub short : length text ≤ most_bytes
  pub room : Sized net
  pub no_place : place r ≡ 0
  pub node_count : first_count r ≡ length m.names
  pub transistor_count : second_count r ≡ transistors m.net
  pub written : left ≡ filled m.net net
  pub promised : Promised text m

-- Reading a text
module _ (text : List ℕ) (net : Net) {r : Answer} {left : Net} (contract : read_by r left ≡ read_outcome text net) where
  -- what holds of each of the three outcomes holds of what the contract leaves
  as_read : (P : Answer → Net → Type 0) → (any (read_sizes text net) ≡ true → P Size net)
      → ((line : ℕ) → any (read_sizes text net) ≡ false → reading text (nodes net) (transistors net) ≡ refused line → P (Text line) net)
      → ((m : Netlist) → any (read_sizes text net) ≡ false → reading text (nodes net) (transistors net) ≡ taken m → P (counted m) (filled m.net net)) → P r left
  unfolding read_outcome read_into
  as_read P size bad done = subst (λ (o : Read). P o.answer o.tables) (sym contract) (go (any (read_sizes text net)) refl (reading text (nodes net) (transistors net)) refl)
    where
      go : (b : Bool) → any (read_sizes text net) ≡ b → (x : Reading) → reading text (nodes net) (transistors net) ≡ x
          → let o = cond b (read_by Size net) (read_into x net) in P o.answer o.tables
      go true h x e = size h
      go false h (taken m) e = done m h e
      go false h (refused line) e = bad line h e

  -- a refusal leaves all tables as they came
  pub read_refusal : 1 ≤ number r → left ≡ net
  read_refusal = as_read (λ a x. 1 ≤ number a → x ≡ net) (λ h l. refl) (λ k h e l. refl) (λ m h e l. absurd (omega arith))

  -- SIZE exactly where a length breaks the bounds
  pub read_sized : (number r ≡ 1) ↔ (any (read_sizes text net) ≡ true)
  read_sized =
      as_read (λ a x. (number a ≡ 1) ↔ (any (read_sizes text net) ≡ true)) (λ h. (λ e. h, λ e. refl)) (λ k h e. (λ n. absurd (omega arith), λ s. absurd (true≢false (sym s ∙ h))))
      (λ m h e. (λ n. absurd (omega arith), λ s. absurd (true≢false (sym s ∙ h))))

  -- a text of 65,536 bytes is too long, and one of 65,535 is not: there the tables alone decide
  pub read_too_long : most_bytes < length text → number r ≡ 1
  unfolding read_sizes
  read_too_long h = read_sized.1 (rw (lt-ltb most_bytes (length text) h))

  pub read-not_too_long : length text ≤ most_bytes → (number r ≡ 1) ↔ (any (check_sizes net) ≡ true)
  unfolding read_sizes
  read-not_too_long h = rw (← same_sizes) read_sized
    where
      same_sizes : any (ltb most_bytes (length text) ∷ check_sizes net) ≡ any (check_sizes net)
      same_sizes = rw (le-ltb most_bytes (length text) h)

  -- TEXT names the first line that offends
  pub read-first-line : number r ≡ 9 → Offends text (nodes net) (transistors net) nothing (line_starts text) (place r)
  read-first-line =
      as_read (λ a x. number a ≡ 9 → Offends text (nodes net) (transistors net) nothing (line_starts text) (place a)) (λ h n. absurd (omega arith))
      (λ k h e n. first-line text (nodes net) (transistors net) k e) (λ m h e n. absurd (omega arith))

  sizes_kept : any (read_sizes text net) ≡ false → (length text ≤ most_bytes) × Sized net
  unfolding read_sizes
  sizes_kept h = let q = or_none (ltb most_bytes (length text)) (any (check_sizes net)) h in (ltb-false most_bytes (length text) q.0, check_sized net q.1)

  done_read : (m : Netlist) → any (read_sizes text net) ≡ false → reading text (nodes net) (transistors net) ≡ taken m → ReadDone text net (counted m) (filled m.net net)
  unfolding full_reading
  done_read m h e =
      let q = sizes_kept h in
      record {
        m = m;
        read = e;
        at_large = more_room text (nodes net) (transistors net) most_nodes most_transistors q.1.few_nodes q.1.few_transistors m e;
        short = q.0;
        room = q.1;
        no_place = refl;
        node_count = refl;
        transistor_count = refl;
        written = refl;
        promised = taken_promised text (nodes net) (transistors net) m e;
      }

  pub read_done : number r ≡ 0 → ReadDone text net r left
  read_done = as_read (λ a x. number a ≡ 0 → ReadDone text net a x) (λ h n. absurd (omega arith)) (λ k h e n. absurd (omega arith)) (λ m h e n. done_read m h e)

  -- the fronts of the tables are the network read
  module _ (d : ReadDone text net r left) where
    nodes-count : nodes d.m.net ≡ first_count r
    nodes-count = sym (d.node_count ∙ d.promised.names_level)

    fronts_are : fronts (first_count r) (second_count r) left ≡ d.m.net
    fronts_are =
        ap (fronts (first_count r) (second_count r)) d.written
        ∙ filled_fronts d.m.net net (first_count r) (second_count r) nodes-count (sym d.transistor_count) d.promised.whole

    rests_are : rests (first_count r) (second_count r) left ≡ rests (first_count r) (second_count r) net
    rests_are =
        ap (rests (first_count r) (second_count r)) d.written
        ∙ filled_rests d.m.net net (first_count r) (second_count r) nodes-count (sym d.transistor_count) d.promised.whole

  -- the tables that are written pass `check`
  pub read_checks_out : number r ≡ 0 → 1 ≤ first_count r → check_answer (fronts (first_count r) (second_count r) left) ≡ Done 0 0 0
  read_checks_out n some =
      let d = read_done n in
      ap check_answer (fronts_are d) ∙ read_checks text (nodes net) (transistors net) d.m d.read (omega (arith, d.node_count)) d.room.few_nodes d.room.few_transistors

  -- each gate, source and drain is the number of a node
  pub read_numbers : number r ≡ 0 → Whole (fronts (first_count r) (second_count r) left) × (nodes (fronts (first_count r) (second_count r) left) ≡ first_count r)
  read_numbers n =
      let d = read_done n in
      (subst Whole (sym (fronts_are d)) d.promised.whole, ap nodes (fronts_are d) ∙ nodes-count d)

  -- the entries past the counts are as they came
  pub read-rest : number r ≡ 0 → rests (first_count r) (second_count r) left ≡ rests (first_count r) (second_count r) net
  read-rest n = rests_are (read_done n)

-- One name: node_span hands back the part that is told here, and node_name the bytes of that part
empty_bytes : (text : List ℕ) (k : ℕ) {bytes : List ℕ} → bytes ≡ part text (name_part text k) → name_part text k ≡ empty_part → bytes ≡ []
empty_bytes text k contract e = contract ∙ part_none text (name_part text k) (ap (λ (s : Span). s.size) e)

-- a text that is taken at large keeps what is promised, whatever tables are lent
pub large_promised : (text : List ℕ) (m : Netlist) → full_reading text ≡ taken m → Promised text m
unfolding full_reading
large_promised text m full = taken_promised text most_nodes most_transistors m full

module _ (text : List ℕ) (m : Netlist) (full : full_reading text ≡ taken m) (short : length text ≤ most_bytes) where
  -- the part of node k, and the empty part where there is no node k
  pub name_used : (k : ℕ) → name_part text k ≡ span_at m.names k
  unfolding name_part
  name_used k = rw (le-ltb most_bytes (length text) short, full)

  pub span_unused : (k : ℕ) → length m.names ≤ k → name_part text k ≡ empty_part
  span_unused k l = name_used k ∙ get_or-eq_default m.names empty_part l

  name-bytes : (k : ℕ) {bytes : List ℕ} → bytes ≡ part text (name_part text k) → bytes ≡ part text (span_at m.names k)
  name-bytes k e = e ∙ ap (part text) (name_used k)

  module _ (k : ℕ) {bytes : List ℕ} (contract : bytes ≡ part text (name_part text k)) where
    pub name_unused : length m.names ≤ k → bytes ≡ []
    name_unused l = empty_bytes text k contract (span_unused k l)

    pub name-some : k < length m.names → 1 ≤ length bytes
    name-some l =
        let f = (large_promised text m full).name_fits k l in
        omega (arith, ap length (name-bytes k contract), part_length text (span_at m.names k) f.inside, f.some_bytes)

    -- the name stands in a device line, and none before it there is the same
    pub name_appears : k < length m.names → (p : ℕ) × (s : Span) × First text (appearances text) p s × (bytes ≡ part text s)
    name_appears l = let q = large_promised text m full in (q.place k, span_at m.names k, q.name_first k l, name-bytes k contract)

  -- no two nodes have the same name
  pub names_apart : (j k : ℕ) {a b : List ℕ} → a ≡ part text (name_part text j) → b ≡ part text (name_part text k) → j < k → k < length m.names → a ≡ b → ⊥
  names_apart j k e f l n same = (large_promised text m full).names_differ j k l n (sym (name-bytes j e) ∙ same ∙ name-bytes k f)

-- of a text that no tables could take each name is empty
module _ (text : List ℕ) (k : ℕ) where
  pub span_refused : (line : ℕ) → full_reading text ≡ refused line → name_part text k ≡ empty_part
  unfolding name_part
  span_refused line e = go (ltb most_bytes (length text))
    where
      go : (b : Bool) → cond b empty_part (name_in (full_reading text) k) ≡ empty_part
      go true = refl
      go false = rw e

  pub span_too_long : most_bytes < length text → name_part text k ≡ empty_part
  unfolding name_part
  span_too_long l = rw (lt-ltb most_bytes (length text) l)

  module _ {bytes : List ℕ} (contract : bytes ≡ part text (name_part text k)) where
    pub name_refused : (line : ℕ) → full_reading text ≡ refused line → bytes ≡ []
    name_refused line e = empty_bytes text k contract (span_refused line e)

    pub name_too_long : most_bytes < length text → bytes ≡ []
    name_too_long l = empty_bytes text k contract (span_too_long l)

-- what DONE says of all names: m is the netlist read, and the tables hold the part of each name
pub record ListedDone (text : List ℕ) (r : Answer) (starts sizes : List ℕ) : Type 0 where
  pub m : Netlist
  pub at_large : full_reading text ≡ taken m
  pub short : length text ≤ most_bytes
  pub no_place : place r ≡ 0
  pub node_count : first_count r ≡ length m.names
  pub transistor_count : second_count r ≡ transistors m.net
  pub each : (k : ℕ) → k < first_count r → span (at starts k) (at sizes k) ≡ name_part text k

-- an entry of a table whose front is told by the parts
told_at : (f : Span → ℕ) → f empty_part ≡ 0 → (names : List Span) (table : List ℕ) (k : ℕ) → k < length names → at (over (map f names) table) k ≡ f (span_at names k)
unfolding over
told_at f z names table k l =
    get_or-append (map f names) (drop (length (map f names)) table) 0 k (omega (arith, length-map names f))
    ∙ ap (λ (d : ℕ). get_or (map f names) k d) (sym z)
    ∙ get_or-map f names k empty_part

-- All names: starts0 and sizes0 are the tables as they were lent, starts and sizes as they are left
module _ (text starts0 sizes0 : List ℕ) {r : Answer} {starts sizes : List ℕ} (contract : listed_by r starts sizes ≡ names_outcome text starts0 sizes0) where
  abbrev small : Netlist → Bool
  small m = ltb (length starts0) (length m.names) || ltb (length sizes0) (length m.names)

  -- what holds of each of the outcomes holds of what the contract leaves
  as_listed : (P : Answer → List ℕ → List ℕ → Type 0) → P Size starts0 sizes0
      → ((line : ℕ) → full_reading text ≡ refused line → P (Text line) starts0 sizes0)
      → ((m : Netlist) → length text ≤ most_bytes → full_reading text ≡ taken m → small m ≡ false → P (counted m) (over (starts_of m.names) starts0) (over (sizes_of m.names) sizes0))
      → P r starts sizes
  unfolding names_outcome list_into
  as_listed P size bad done =
      subst (λ (o : Listed). P o.answer o.starts o.sizes) (sym contract) (go (ltb most_bytes (length text)) refl (full_reading text) refl)
    where
      room : (m : Netlist) → length text ≤ most_bytes → full_reading text ≡ taken m → (b : Bool) → small m ≡ b
          → let o = cond b (listed_by Size starts0 sizes0) (listed_by (counted m) (over (starts_of m.names) starts0) (over (sizes_of m.names) sizes0)) in
          P o.answer o.starts o.sizes
      room m l e true h = size
      room m l e false h = done m l e h

      go : (b : Bool) → ltb most_bytes (length text) ≡ b → (x : Reading) → full_reading text ≡ x
          → let o = cond b (listed_by Size starts0 sizes0) (list_into x starts0 sizes0) in P o.answer o.starts o.sizes
      go true h x e = size
      go false h (taken m) e = room m (ltb-false most_bytes (length text) h) e (small m) refl
      go false h (refused line) e = bad line e

  -- a refusal leaves both tables as they came
  pub listed_refusal : 1 ≤ number r → (starts ≡ starts0) × (sizes ≡ sizes0)
  listed_refusal = as_listed (λ a x y. 1 ≤ number a → (x ≡ starts0) × (y ≡ sizes0)) (λ n. (refl, refl)) (λ k e n. (refl, refl)) (λ m l e h n. absurd (omega arith))

  done_listed : (m : Netlist) → length text ≤ most_bytes → full_reading text ≡ taken m → ListedDone text (counted m) (over (starts_of m.names) starts0) (over (sizes_of m.names) sizes0)
  done_listed m l e =
      record {
        m = m;
        at_large = e;
        short = l;
        no_place = refl;
        node_count = refl;
        transistor_count = refl;
        each = λ k h. rw (told_at (λ s. s.start) refl m.names starts0 k h, told_at (λ s. s.size) refl m.names sizes0 k h) (sym (name_used text m e l k));
      }

  pub listed_done : number r ≡ 0 → ListedDone text r starts sizes
  listed_done = as_listed (λ a x y. number a ≡ 0 → ListedDone text a x y) (λ n. absurd (omega arith)) (λ k e n. absurd (omega arith)) (λ m l e h n. done_listed m l e)

  -- the entries past the count are as they came
  pub listed-rest : number r ≡ 0 → (drop (first_count r) starts ≡ drop (first_count r) starts0) × (drop (first_count r) sizes ≡ drop (first_count r) sizes0)
  listed-rest =
      as_listed (λ a x y. number a ≡ 0 → (drop (first_count a) x ≡ drop (first_count a) starts0) × (drop (first_count a) y ≡ drop (first_count a) sizes0)) (λ n. absurd (omega arith))
      (λ k e n. absurd (omega arith))
      (λ m l e h n. (
        rest_is (starts_of m.names) starts0 (length m.names) (length-map m.names (λ s. s.start)),
        rest_is (sizes_of m.names) sizes0 (length m.names) (length-map m.names (λ s. s.size)),
      ))

  -- a text with more nodes than one of the tables holds is refused by SIZE
  pub listed_short : (m : Netlist) → full_reading text ≡ taken m → (length starts0 < length m.names) ⊎ (length sizes0 < length m.names) → number r ≡ 1
  listed_short m full more =
      as_listed (λ a x y. number a ≡ 1) refl (λ k e. absurd (refused_taken k m (sym e ∙ full))) (λ q l e h. absurd (none q e (or_none _ _ h) more))
    where
      none : (q : Netlist) → full_reading text ≡ taken q → (ltb (length starts0) (length q.names) ≡ false) × (ltb (length sizes0) (length q.names) ≡ false)
          → (length starts0 < length m.names) ⊎ (length sizes0 < length m.names) → ⊥
      none q e h (inl l) = let same : q ≡ m = cc in omega (arith, ltb-false (length starts0) (length q.names) h.0, ap (λ (x : Netlist). length x.names) same)
      none q e h (inr l) = let same : q ≡ m = cc in omega (arith, ltb-false (length sizes0) (length q.names) h.1, ap (λ (x : Netlist). length x.names) same)

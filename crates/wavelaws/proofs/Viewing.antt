-- A viewer that reads the dump of a run sees the wires in node order, the times from 0 to the last step, and at each the states after so many steps.
-- Assumes nothing.
use Prim.Native.Nat.{ℕ, zero, suc, ◌+◌, ◌≤◌, ◌<◌}
use native.Mathlib.Nat.{zero-add, suc_inj, suc-ne-zero, not-suc-le-zero}
use native.Mathlib.Omega.{arith}
use mathlib.Core.Path.{◌≡◌, refl, ap, ap₂, ◌∙◌, sym, subst}
use mathlib.Core.Bool.{Bool, true, false, cond}
use mathlib.Core.List.{List, [], ◌∷◌, ◌++◌, map, reverse, append_assoc, append-nil}
use lib.ListN.{length, take, drop, set, drop_of_length-le}
use lib.Seq.{length-take-le, take_all, drop-cons, set-get_or, get_or_at, paste-suc}
use lib.Dec.{ltb, eqb}
use borrow.Author.Tests.{le-ltb, not-false, eqb-true}
use Rattle.model.specs.Places.{tab, iter, at, same}
use Rattle.text.specs.Bytes.{bytes}
use Rattle.model.specs.Run.{changed}
use Rattle.laws.proofs.Places.{length-tab, tab_more}
use Rattle.laws.proofs.Settle.{same_true, same_refl}
use Rattle.wavelaws.proofs.Iterating.{iter_suc}
use Rattle.waves.specs.Dump.{each, digits, code, decimal, letter, wire_name, wire_line, value_line, header, start_block, time_line, change_line, step_block, block_after, dump_of}
use Rattle.waves.specs.Viewer.{longer, words, number_of, Shot, shot, values, Moment, before, since, View, nothing, shots, find, declared, valued, read_all, reading_of, reading}
use Rattle.wavelaws.proofs.Numerals.{number-decimal, code_distinct, code-some}

-- characters from 33 on, up to one below, are a word
shifted_words : (k : ℕ) → 33 ≤ k → (ds : List ℕ) (c : ℕ) → ltb c 33 ≡ true → (r : List ℕ) → words (map (λ d. k + d) ds ++ c ∷ r) ≡ map (λ d. k + d) ds ∷ words r
shifted_words k h [] c e r = ap (λ (b : Bool). cond b ([] ∷ words r) (longer c (words r))) e
shifted_words k h (d ∷ ds) c e r =
    let rest : List ℕ = map (λ x. k + x) ds ++ c ∷ r in
    ap (λ (b : Bool). cond b ([] ∷ words rest) (longer (k + d) (words rest))) (le-ltb (k + d) 33 (omega arith))
    ∙ ap (longer (k + d)) (shifted_words k h ds c e r)

code-words : (v c : ℕ) → ltb c 33 ≡ true → (r : List ℕ) → words (code v ++ c ∷ r) ≡ code v ∷ words r
unfolding code
code-words v = shifted_words 33 (omega arith) (digits 94 v)

decimal-words : (n c : ℕ) → ltb c 33 ≡ true → (r : List ℕ) → words (decimal n ++ c ∷ r) ≡ decimal n ∷ words r
unfolding decimal
decimal-words n = shifted_words 48 (omega arith) (reverse (digits 10 n))

-- the words of a dump's lines
wire_words : (v : ℕ) (r : List ℕ) → words (wire_line v ++ r) ≡ bytes "$var" ∷ bytes "wire" ∷ bytes "1" ∷ code v ∷ wire_name v ∷ bytes "$end" ∷ words r
unfolding wire_line wire_name
wire_words v r =
    rw (
      append_assoc (code v) (bytes " n" ++ (decimal v ++ bytes " $end\n")) r,
      append_assoc (decimal v) (bytes " $end\n") r,
      code-words v 32 refl (bytes "n" ++ (decimal v ++ (bytes " $end\n" ++ r))),
      decimal-words v 32 refl (bytes "$end\n" ++ r),
    )

letter_high : (x : ℕ) → ltb (letter x) 33 ≡ false
letter_high zero = refl
letter_high (suc zero) = refl
letter_high (suc (suc x)) = refl

value_words : (v x : ℕ) (r : List ℕ) → words (value_line v x ++ r) ≡ (letter x ∷ code v) ∷ words r
unfolding value_line
value_words v x r = rw (letter_high x, append_assoc (code v) (bytes "\n") r, code-words v 10 refl r)

time_words : (k : ℕ) (r : List ℕ) → words (time_line k ++ r) ≡ (bytes "#" ++ decimal k) ∷ words r
unfolding time_line
time_words k r = rw (append_assoc (decimal k) (bytes "\n") r, decimal-words k 10 refl r)

-- the wire that is found by a node's code is the node's
find_distinct : (g : ℕ → List ℕ) → ((i j : ℕ) → g i ≡ g j → i ≡ j) → (n v : ℕ) → v < n → find (g v) (tab n g) ≡ v
find_distinct g d zero v l = absurd (not-suc-le-zero l)
find_distinct g d (suc n) zero l = ap (λ (b : Bool). cond b 0 (1 + find (g 0) (tab n (λ i. g (suc i))))) (same_refl (g 0))
find_distinct g d (suc n) (suc v) l =
    go (same (g (suc v)) (g 0)) refl (find_distinct (λ i. g (suc i)) (λ i j e. suc_inj (d (suc i) (suc j) e)) n v (omega arith))
  where
    go : (b : Bool) → same (g (suc v)) (g 0) ≡ b → find (g (suc v)) (tab n (λ i. g (suc i))) ≡ v
        → cond b 0 (1 + find (g (suc v)) (tab n (λ i. g (suc i)))) ≡ suc v
    go true e r = absurd (suc-ne-zero v (d (suc v) 0 (same_true (g (suc v)) (g 0) e)))
    go false e r = omega arith

-- a text that takes one view to another, whatever follows it
record Takes (v : View) (text : List ℕ) (w : View) : Type 0 where
  read_on : (r : List ℕ) → read_all v (words (text ++ r)) ≡ read_all w (words r)

takes_by : {v w : View} (text : List ℕ) → ((r : List ℕ) → read_all v (words (text ++ r)) ≡ read_all w (words r)) → Takes v text w
takes_by text h = record { read_on = h }

takes_both : {u v w : View} {a b : List ℕ} → Takes u a v → Takes v b w → Takes u (a ++ b) w
takes_both {u} {v} {w} {a} {b} p q = takes_by (a ++ b) (λ r. ap (λ (t : List ℕ). read_all u (words t)) (append_assoc a b r) ∙ p.read_on (b ++ r) ∙ q.read_on r)

takes_each : (n : ℕ) (f : ℕ → List ℕ) (view : ℕ → View) → ((i : ℕ) → i < n → Takes (view i) (f i) (view (suc i))) → Takes (view 0) (each n f) (view n)
takes_each zero f view h = takes_by [] (λ r. refl)
takes_each (suc n) f view h = takes_both (h 0 (omega arith)) (takes_each n (λ i. f (suc i)) (λ i. view (suc i)) (λ i l. h (suc i) (omega arith)))

-- among values: n wires declared, their states, since when, and the times before
abbrev seen : ℕ → List ℕ → Moment → List Shot → View
seen n s m past = record { within = values; codes = tab n code; names = tab n wire_name; states = s; moment = m; past = past }

-- the header: wires, at X until a value is read
abbrev wired : ℕ → View
wired n = seen n (tab n (λ v. 2)) before []

wire_taken : (n : ℕ) (c name : List ℕ) → 1 ≤ length c → (ws : List (List ℕ))
    → read_all (wired n) (bytes "$var" ∷ bytes "wire" ∷ bytes "1" ∷ c ∷ (bytes "n" ++ name) ∷ bytes "$end" ∷ ws)
    ≡ read_all (declared (wired n) (bytes "wire" ∷ bytes "1" ∷ c ∷ (bytes "n" ++ name) ∷ [])) ws
wire_taken n [] name l ws = absurd (not-suc-le-zero l)
wire_taken n (b ∷ c) name l ws = refl

wire_read : (n : ℕ) → Takes (wired n) (wire_line n) (wired (suc n))
unfolding wire_name
wire_read n =
    rw (tab_more n code, tab_more n wire_name, tab_more {A = ℕ} n (λ v. 2))
    (takes_by (wire_line n) (λ r. ap (read_all (wired n)) (wire_words n r) ∙ wire_taken n (code n) (decimal n) (code-some n) (words r)))

header_read : (n : ℕ) → Takes nothing (header n) (wired n)
unfolding header
header_read n =
    takes_both (takes_by (bytes "$timescale 1 ns $end\n$scope module mos $end\n") (λ r. refl))
    (takes_both (takes_each n wire_line wired (λ i l. wire_read i))
    (takes_by (bytes "$upscope $end\n$enddefinitions $end\n") (λ r. refl)))

-- a value, and a time
module _ (n : ℕ) (s : List ℕ) (m : Moment) (past : List Shot) where
  letter-read : (c : List ℕ) (x : ℕ) → x ≤ 2 → (ws : List (List ℕ)) → read_all (seen n s m past) ((letter x ∷ c) ∷ ws) ≡ read_all (valued (seen n s m past) c x) ws
  letter-read c zero l ws = refl
  letter-read c (suc zero) l ws = refl
  letter-read c (suc (suc zero)) l ws = refl
  letter-read c (suc (suc (suc x))) l ws = absurd (omega arith)

  value_read : (v x : ℕ) → v < n → x ≤ 2 → Takes (seen n s m past) (value_line v x) (seen n (set s v x) m past)
  value_read v x l h =
      subst (λ (i : ℕ). Takes (seen n s m past) (value_line v x) (seen n (set s i x) m past)) (find_distinct code code_distinct n v l)
      (takes_by (value_line v x) (λ r. ap (read_all (seen n s m past)) (value_words v x r) ∙ letter-read (code v) x h (words r)))

  time_read : (k : ℕ) → Takes (seen n s m past) (time_line k) (seen n s (since k) (shots (seen n s m past)))
  time_read k =
      subst (λ (t : ℕ). Takes (seen n s m past) (time_line k) (seen n s (since t) (shots (seen n s m past)))) (number-decimal k)
      (takes_by (time_line k) (λ r. ap (read_all (seen n s m past)) (time_words k r)))

-- the new states of the first i nodes, the old ones of the others
abbrev mix : ℕ → List ℕ → List ℕ → List ℕ
mix i old new = take i new ++ drop i old

module _ (n : ℕ) (old new : List ℕ) (o : length old ≡ n) (w : length new ≡ n) where
  mix_more : (i : ℕ) → i < n → set (mix i old new) i (at new i) ≡ mix (suc i) old new
  mix_more i l =
      ap (λ (j : ℕ). set (take i new ++ drop j old) j (at new i)) (sym (zero-add i))
      ∙ paste-suc old 0 new i 0 (omega arith) (omega arith)
      ∙ ap (λ (j : ℕ). take (suc i) new ++ drop j old) (zero-add (suc i))

  mix_old : (i : ℕ) → i < n → at (mix i old new) i ≡ at old i
  mix_old i l =
      ap (λ (x : List ℕ). at (take i new ++ x) i) (drop-cons old i 0 (omega arith))
      ∙ get_or_at (take i new) (at old i) (drop (suc i) old) 0 i (length-take-le i new (omega arith))

  mix_same : (i : ℕ) → i < n → at old i ≡ at new i → mix i old new ≡ mix (suc i) old new
  mix_same i l q = sym (set-get_or (mix i old new) i 0) ∙ ap (set (mix i old new) i) (mix_old i l ∙ q) ∙ mix_more i l

  mix_all : mix n old new ≡ new
  mix_all = ap₂ ◌++◌ (take_all n new (omega arith)) (drop_of_length-le old {i = n} (omega arith)) ∙ append-nil new

  module _ (known : (v : ℕ) → at new v ≤ 2) (m : Moment) (past : List Shot) where
    abbrev mixed : ℕ → View
    mixed i = seen n (mix i old new) m past

    -- lines that bring the nodes from their old to their new states, one node each
    lines_read : (line : ℕ → List ℕ) → ((i : ℕ) → i < n → Takes (mixed i) (line i) (mixed (suc i))) → Takes (seen n old m past) (each n line) (seen n new m past)
    lines_read line h = subst (λ (s : List ℕ). Takes (seen n old m past) (each n line) (seen n s m past)) mix_all (takes_each n line mixed h)

    -- all values, and those that are changed
    put-read : (i : ℕ) → i < n → Takes (mixed i) (value_line i (at new i)) (mixed (suc i))
    put-read i l = rw (← mix_more i l) (value_read n (mix i old new) m past i (at new i) l (known i))

    values_read : Takes (seen n old m past) (each n (λ v. value_line v (at new v))) (seen n new m past)
    values_read = lines_read (λ v. value_line v (at new v)) put-read

    change_read : (i : ℕ) → i < n → Takes (mixed i) (change_line old new i) (mixed (suc i))
    unfolding change_line
    change_read i l = go (changed old new i) refl
      where
        go : (b : Bool) → changed old new i ≡ b → Takes (mixed i) (cond b (value_line i (at new i)) []) (mixed (suc i))
        go true q = put-read i l
        go false q = rw (← mix_same i l (eqb-true (at old i) (at new i) (not-false (eqb (at old i) (at new i)) q))) (takes_by [] (λ r. refl))

    changes-read : Takes (seen n old m past) (each n (change_line old new)) (seen n new m past)
    changes-read = lines_read (change_line old new) change_read

  -- a step: the time before it is over
  step-read : ((v : ℕ) → at new v ≤ 2) → (t k : ℕ) (past : List Shot) → Takes (seen n old (since t) past) (step_block k old new) (seen n new (since k) (past ++ shot t old ∷ []))
  unfolding step_block
  step-read known t k past = rw o (takes_both (time_read n old (since t) past k) (changes-read known (since k) (past ++ shot t old ∷ [])))

-- time 0
start_read : (s : List ℕ) → ((v : ℕ) → at s v ≤ 2) → Takes (wired (length s)) (start_block s) (seen (length s) s (since 0) [])
unfolding start_block number_of
start_read s known =
    takes_both (takes_by (bytes "#0\n$dumpvars\n") (λ r. refl))
    (takes_both (values_read (length s) (tab (length s) (λ v. 2)) s (length-tab (length s) (λ v. 2)) refl known (since 0) [])
    (takes_by (bytes "$end\n") (λ r. refl)))

-- a run whose states stay states, one for each node
module _ (f : List ℕ → List ℕ) (s : List ℕ) (sized : (k : ℕ) → length (iter k f s) ≡ length s) (known : (k v : ℕ) → at (iter k f s) v ≤ 2) where
  -- after k steps: the time k, and what was read up to it
  abbrev after : ℕ → Shot
  after k = shot k (iter k f s)

  abbrev stage : ℕ → View
  stage k = seen (length s) (iter k f s) (since k) (tab k after)

  block_read : (k : ℕ) → Takes (stage k) (block_after f s k) (stage (suc k))
  unfolding block_after
  block_read k =
      rw (iter_suc f k s, tab_more k after)
      (step-read (length s) (iter k f s) (iter (suc k) f s) (sized k) (sized (suc k)) (known (suc k)) k (suc k) (tab k after))

  all_read : (count : ℕ) → Takes nothing (dump_of f s count) (stage count)
  unfolding dump_of
  all_read count = takes_both (header_read (length s)) (takes_both (start_read s (known 0)) (takes_each count (block_after f s) stage (λ k l. block_read k)))

  -- what a viewer sees of the dump
  pub dump_read : (count : ℕ) → reading (dump_of f s count) ≡ record { names = tab (length s) wire_name; times = tab (suc count) (λ k. shot k (iter k f s)) }
  unfolding reading
  dump_read count =
      ap reading_of (ap (λ (t : List ℕ). read_all nothing (words t)) (sym (append-nil (dump_of f s count))) ∙ (all_read count).read_on [])
      ∙ rw (tab_more count after)

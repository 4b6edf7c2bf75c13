-- How names get their numbers: the nodes are the names that have appeared, each once, in the order of their first appearances. Assumes nothing.
use Prim.Native.Nat.{ℕ, ◌≤◌, ◌<◌}
use native.Mathlib.Omega.{arith}
use native.Mathlib.Decide.{dec_lt}
use native.Mathlib.Nat.{not-suc-le-zero}
use mathlib.Core.Path.{◌≡◌, refl, sym, ap, ◌∙◌}
use mathlib.Core.Logic.{inl, inr}
use mathlib.Core.Bool.{Bool, true, false, cond}
use mathlib.Core.List.{List, [], ◌∷◌, ◌++◌}
use borrow.Author.Tests.{ltb-true, ltb-false, lt-ltb, le-ltb}
use lib.ListN.{length, get_or-append}
use lib.Seq.{get_or-append_seam}
use lib.Dec.{ltb}
use Rattle.model.specs.Bounds.{highest_kind}
use Rattle.model.specs.Places.{at, same}
use Rattle.model.specs.Net.{ground, power}
use Rattle.laws.proofs.Judged.{Least, first_says}
use Rattle.laws.proofs.Settle.{same_true, same_false}
use Rattle.text.specs.Bytes.{bytes, empty_part, part, span_at}
use Rattle.text.specs.Netlist.{Nodes, number_of, kind_of, named}
use Rattle.text.specs.Promised.{Fits, First}
use Rattle.text.specs.declared.Span.{Span}
use Rattle.textlaws.proofs.Appended.{length_more, each_more}

-- every kind is one that there is; a name gives a node one
abbrev pub LowKinds : List ℕ → Type 0
LowKinds kinds = (v : ℕ) → v < length kinds → at kinds v ≤ highest_kind

kind_low : (name : List ℕ) → kind_of name ≤ highest_kind
unfolding kind_of
kind_low name = go (same name (bytes "Vdd")) (same name (bytes "Gnd"))
  where
    go : (x y : Bool) → cond x power (cond y ground 0) ≤ highest_kind
    go true y = omega arith
    go false true = omega arith
    go false false = omega arith

module _ (text : List ℕ) where
  -- the number of a name is that of the node that has it, or there is none
  module _ (names : List Span) (s : Span) where
    number_says : Least (length names) (λ k. same (part text (span_at names k)) (part text s)) (number_of text names s)
    unfolding number_of
    number_says = first_says (length names) (λ k. same (part text (span_at names k)) (part text s))

    number-most : number_of text names s ≤ length names
    number-most = elim number_says [ inl h ↦ omega (arith, h.0) | inr h ↦ omega (arith, h.0) ]

    number_has : number_of text names s < length names → part text (span_at names (number_of text names s)) ≡ part text s
    number_has l = elim number_says [ inl h ↦ same_true (part text (span_at names (number_of text names s))) (part text s) h.1 | inr h ↦ absurd (omega (arith, h.0)) ]

    number-new : length names ≤ number_of text names s → (k : ℕ) → k < length names → part text (span_at names k) ≡ part text s → ⊥
    number-new l k m =
        elim number_says [ inl h ↦ absurd (omega (arith, h.0)) | inr h ↦ same_false (part text (span_at names k)) (part text s) (h.1 k m) ]

  -- one more name: its node is there, or it gets one
  abbrev grown : Nodes → Span → Nodes
  grown b s = record { names = b.names ++ s ∷ []; kinds = b.kinds ++ kind_of (part text s) ∷ [] }

  module _ (b : Nodes) (s : Span) where
    by_name : (P : Nodes → Type 0) → (number_of text b.names s < length b.names → P b) → (length b.names ≤ number_of text b.names s → P (grown b s)) → P (named text b s)
    unfolding named
    by_name P old new = go (ltb (number_of text b.names s) (length b.names)) refl
      where
        go : (x : Bool) → ltb (number_of text b.names s) (length b.names) ≡ x → P (cond x b (grown b s))
        go true h = old (ltb-true (number_of text b.names s) (length b.names) h)
        go false h = new (ltb-false (number_of text b.names s) (length b.names) h)

    pub named_grows : length b.names ≤ length (named text b s).names
    named_grows = by_name (λ c. length b.names ≤ length c.names) (λ l. omega arith) (λ l. omega (arith, length_more b.names s))

    pub number_below : number_of text b.names s < length (named text b s).names
    number_below =
        by_name (λ c. number_of text b.names s < length c.names) (λ l. l)
        (λ l. omega (arith, number-most b.names s, length_more b.names s))

    pub named_level : length b.names ≡ length b.kinds → length (named text b s).names ≡ length (named text b s).kinds
    named_level e =
        by_name (λ c. length c.names ≡ length c.kinds) (λ l. e)
        (λ l. omega (arith, length_more b.names s, length_more b.kinds (kind_of (part text s))))

    pub named_kinds : LowKinds b.kinds → LowKinds (named text b s).kinds
    named_kinds h = by_name (λ c. LowKinds c.kinds) (λ l. h) (λ l. each_more b.kinds (kind_of (part text s)) 0 (λ v x. x ≤ highest_kind) h (kind_low (part text s)))

-- the names of the nodes are those that have appeared, seen, each once, in the order of their first appearances
pub record Enrolled (text : List ℕ) (seen names : List Span) : Type 0 where
  pub fits : (k : ℕ) → k < length names → Fits (length text) (span_at names k)
  pub differ : (j k : ℕ) → j < k → k < length names → part text (span_at names j) ≡ part text (span_at names k) → ⊥
  pub has_node : (q : ℕ) → q < length seen → (k : ℕ) × (k < length names) × (part text (span_at names k) ≡ part text (span_at seen q))
  pub place : ℕ → ℕ
  pub firsts : (k : ℕ) → k < length names → First text seen (place k) (span_at names k)
  pub in_order : (j k : ℕ) → j < k → k < length names → place j < place k

pub none_enrolled : (text : List ℕ) → Enrolled text [] []
none_enrolled text =
    record {
      fits = λ k l. absurd (not-suc-le-zero l);
      differ = λ j k m l. absurd (not-suc-le-zero l);
      has_node = λ q l. absurd (not-suc-le-zero l);
      place = λ k. 0;
      firsts = λ k l. absurd (not-suc-le-zero l);
      in_order = λ j k m l. absurd (not-suc-le-zero l);
    }

module _ (text : List ℕ) (b : Nodes) (s : Span) where
  -- a first appearance stays one
  first_more : (seen : List Span) (p : ℕ) (x : Span) → First text seen p x → First text (seen ++ s ∷ []) p x
  first_more seen p x f =
      record {
        there = omega (arith, f.there, length_more seen s);
        is = get_or-append seen (s ∷ []) empty_part p f.there ∙ f.is;
        none = λ q l e. f.none q l (ap (part text) (sym (get_or-append seen (s ∷ []) empty_part q (omega (arith, f.there)))) ∙ e);
      }

  -- the name has a node: it has appeared once more
  module _ (seen : List Span) (h : Enrolled text seen b.names) where
    again : number_of text b.names s < length b.names → Enrolled text (seen ++ s ∷ []) b.names
    again l =
        record {
          fits = h.fits;
          differ = h.differ;
          has_node =
              each_more seen s empty_part (λ q x. (k : ℕ) × (k < length b.names) × (part text (span_at b.names k) ≡ part text x)) h.has_node
              (number_of text b.names s, l, number_has text b.names s l);
          place = h.place;
          firsts = λ k m. first_more seen (h.place k) (span_at b.names k) (h.firsts k m);
          in_order = h.in_order;
        }

    -- it has none: this is its first appearance, and it gets the next number
    newly : Fits (length text) s → length b.names ≤ number_of text b.names s → Enrolled text (seen ++ s ∷ []) (b.names ++ s ∷ [])
    newly f l =
        record {
          fits = each_more b.names s empty_part (λ k x. Fits (length text) x) h.fits f;
          differ = λ j k m o. apart k o j m;
          has_node =
              each_more seen s empty_part (λ q x. (k : ℕ) × (k < length all) × (part text (span_at all k) ≡ part text x))
              (λ q m. let r = h.has_node q m in (r.0, omega (arith, r.1, length_more b.names s), ap (part text) (old r.0 r.1) ∙ r.2))
              (length b.names, omega (arith, length_more b.names s), ap (part text) (get_or-append_seam b.names s [] empty_part));
          place = put;
          firsts =
              each_more b.names s empty_part (λ k x. First text (seen ++ s ∷ []) (put k) x)
              (λ k m. rw (put_old k m) (first_more seen (h.place k) (span_at b.names k) (h.firsts k m)))
              (rw put-new (record { there = omega (arith, length_more seen s); is = get_or-append_seam seen s [] empty_part; none = unseen }));
          in_order = rising;
        }
      where
        all : List Span
        all = b.names ++ s ∷ []

        put : ℕ → ℕ
        put k = cond (ltb k (length b.names)) (h.place k) (length seen)

        put_old : (k : ℕ) → k < length b.names → put k ≡ h.place k
        put_old k m = rw (lt-ltb k (length b.names) m)

        put-new : put (length b.names) ≡ length seen
        put-new = rw (le-ltb (length b.names) (length b.names) (omega arith))

        old : (k : ℕ) → k < length b.names → span_at all k ≡ span_at b.names k
        old k m = get_or-append b.names (s ∷ []) empty_part k m

        apart : (k : ℕ) → k < length all → (j : ℕ) → j < k → part text (span_at all j) ≡ part text (span_at all k) → ⊥
        apart =
            each_more b.names s empty_part (λ k x. (j : ℕ) → j < k → part text (span_at all j) ≡ part text x → ⊥)
            (λ k m j o e. h.differ j k o m (ap (part text) (sym (old j (omega arith))) ∙ e))
            (λ j o e. number-new text b.names s l j o (ap (part text) (sym (old j o)) ∙ e))

        unseen : (q : ℕ) → q < length seen → part text (span_at (seen ++ s ∷ []) q) ≡ part text s → ⊥
        unseen q m e =
            let r = h.has_node q m in
            number-new text b.names s l r.0 r.1 (r.2 ∙ (ap (part text) (sym (get_or-append seen (s ∷ []) empty_part q m)) ∙ e))

        rising : (j k : ℕ) → j < k → k < length all → put j < put k
        rising j k m o =
            elim (dec_lt k (length b.names)) [
              | yes i ↦ rw (put_old j (omega arith), put_old k i) (h.in_order j k m i)
              | no i ↦ last j k m (omega (arith, length_more b.names s))
            ]
          where
            last : (j k : ℕ) → j < k → k ≡ length b.names → put j < put k
            last j k m e = rw (e, put-new, put_old j (omega arith)) (h.firsts j (omega arith)).there

    pub named_enrolled : Fits (length text) s → Enrolled text (seen ++ s ∷ []) (named text b s).names
    named_enrolled f = by_name text b s (λ c. Enrolled text (seen ++ s ∷ []) c.names) again (newly f)

-- A name is sought along its chain, and a new one heads it. Assumes nothing.
use Prim.Native.Nat.{ℕ, suc, ◌+◌, ◌-◌, ◌≤◌, ◌<◌}
use native.Mathlib.Omega.{arith}
use native.Mathlib.Decide.{dec_lt, dec_le}
use mathlib.Core.Path.{◌≡◌, refl, sym, ap, ap₂, ◌∙◌, subst}
use mathlib.Core.Logic.{inl, inr}
use mathlib.Core.Bool.{Bool, true, false, true≢false}
use mathlib.Core.List.{List, [], ◌∷◌, ◌++◌}
use borrow.Author.Tests.{eqb-true, eqb-false}
use lib.ListN.{length, set, length-set}
use lib.Seq.{get_or-set_same, get_or-set_other}
use lib.Dec.{eqb}
use Rattle.model.specs.Places.{at, first, same}
use Rattle.text.specs.Bytes.{span, past, part, empty_part, span_at}
use Rattle.text.specs.Netlist.{number_of}
use Rattle.text.specs.declared.Span.{Span}
use Rattle.laws.proofs.Places.{length-tab, get_or-tab, tab_cong, tab_more, first-same}
use Rattle.laws.proofs.Judged.{Least, first_says}
use Rattle.laws.proofs.Settle.{same_true, same_refl}
use Rattle.basis.proofs.Finding.{first-at, first_none}
use Rattle.names.specs.Known.{Known, known, one_more as entered}
use Rattle.names.specs.Chains.{spans, chain_of, name_of, Last, Linked}
use Rattle.names.proofs.Seen.{seen_text, seen_count, seen_span}

-- node k has the name s
module _ (text starts sizes : List ℕ) (s : Span) where
  abbrev pub Has : ℕ → Bool
  Has k = same (name_of text starts sizes k) (part text s)

  has_chain : (k : ℕ) → Has k ≡ true → chain_of (name_of text starts sizes k) ≡ chain_of (part text s)
  has_chain k h = ap chain_of (same_true (name_of text starts sizes k) (part text s) h)

  -- the number of a name by the tables
  number_at : (n : ℕ) → number_of text (spans n starts sizes) s ≡ first n Has
  unfolding number_of spans
  number_at n =
      ap (λ (j : ℕ). first j (λ k. same (part text (span_at (spans n starts sizes) k)) (part text s))) (length-tab n (λ k. span (at starts k) (at sizes k)))
      ∙ first-same n (λ k. same (part text (span_at (spans n starts sizes) k)) (part text s)) Has
      (λ k l. ap (λ (x : Span). same (part text x) (part text s)) (get_or-tab n (λ k. span (at starts k) (at sizes k)) empty_part k l))

  -- the walk along a chain, with e left of it: no node from e on has the name
  pub record Walk (n e : ℕ) : Type 0 where
    pub chain : (k : ℕ) → e ≡ k + 1 → (k < n) × (chain_of (name_of text starts sizes k) ≡ chain_of (part text s))
    pub passed : (g : ℕ) → e ≤ g → g < n → Has g ≡ true → ⊥

module _ (text starts sizes heads nexts : List ℕ) (n : ℕ) (s : Span) (w : Linked text n starts sizes heads nexts) where
  pub walk_start : (b : ℕ) → b < 4096 → b ≡ chain_of (part text s) → Walk text starts sizes s n (at heads b)
  walk_start b l e =
      let h = w.head b l in
      record { chain = λ k q. ((h.found k q).0, (h.found k q).1 ∙ e); passed = λ g a c t. h.none g a c (has_chain text starts sizes s g t ∙ sym e) }

  module _ (e : ℕ) (v : Walk text starts sizes s n e) (some : 0 < e) where
    again : e ≡ (e - 1) + 1
    again = omega arith

    pub walk_below : e - 1 < n
    walk_below = (v.chain (e - 1) again).0

    pub walk_less : at nexts (e - 1) < e
    walk_less = elim (dec_lt (at nexts (e - 1)) e) [ yes h ↦ h | no h ↦ absurd (far (at nexts (e - 1) - 1) (omega arith) (omega arith)) ]
      where
        far : (j : ℕ) → at nexts (e - 1) ≡ j + 1 → e - 1 ≤ j → ⊥
        far j q l = omega (arith, ((w.next (e - 1) walk_below).found j q).0)

    pub walk_miss : Has text starts sizes s (e - 1) ≡ false → Walk text starts sizes s n (at nexts (e - 1))
    walk_miss f = record { chain = λ k q. (omega (arith, (before.found k q).0, walk_below), (before.found k q).1 ∙ (v.chain (e - 1) again).1); passed = passed }
      where
        before : Last text starts sizes (chain_of (name_of text starts sizes (e - 1))) (e - 1) (at nexts (e - 1))
        before = w.next (e - 1) walk_below

        passed : (g : ℕ) → at nexts (e - 1) ≤ g → g < n → Has text starts sizes s g ≡ true → ⊥
        passed g a b t =
            elim (dec_lt g (e - 1)) [ yes y ↦ before.none g a y (has_chain text starts sizes s g t ∙ sym (v.chain (e - 1) again).1) | no y ↦ elim (dec_le e g) [ yes z ↦ v.passed g z b t | no z ↦ true≢false (sym t ∙ subst (λ (j : ℕ). Has text starts sizes s j ≡ false) (here y z) f) ] ]
          where
            here : (g < e - 1 → ⊥) → (e ≤ g → ⊥) → e - 1 ≡ g
            here y z = omega arith

    -- names differ, so that no lower node has the name too
    pub walk_hit : Has text starts sizes s (e - 1) ≡ true → e - 1 ≡ number_of text (spans n starts sizes) s
    walk_hit t = first-at n (Has text starts sizes s) (e - 1) walk_below t (λ g l. other g l (Has text starts sizes s g) refl) ∙ sym (number_at text starts sizes s n)
      where
        other : (g : ℕ) → g < e - 1 → (x : Bool) → Has text starts sizes s g ≡ x → x ≡ false
        other g l true h = absurd (w.differ g (e - 1) l walk_below (same_true (name_of text starts sizes g) (part text s) h ∙ sym (same_true (name_of text starts sizes (e - 1)) (part text s) t)))
        other g l false h = refl

  pub walk_end : (e : ℕ) → Walk text starts sizes s n e → e ≤ 0 → n ≡ number_of text (spans n starts sizes) s
  walk_end e v z = first_none n (Has text starts sizes s) n (omega arith) (omega arith) (λ g l. other g l (Has text starts sizes s g) refl) ∙ sym (number_at text starts sizes s n)
    where
      other : (g : ℕ) → g < n → (x : Bool) → Has text starts sizes s g ≡ x → x ≡ false
      other g l true h = absurd (v.passed g (omega arith) l h)
      other g l false h = refl

-- the walk, as a clause sees it
module _ (text starts sizes heads nexts : List ℕ) (n : ℕ) (w : Linked text n starts sizes heads nexts) (k : Known) (v : known text (spans n starts sizes) ≡ k) (s : Span) where
  pub found_starts : (b : ℕ) → b < 4096 → b ≡ chain_of (part k.text s) → Walk text starts sizes s n (at heads b)
  found_starts b l e = walk_start text starts sizes heads nexts n s w b l (rw (seen_text text n starts sizes k v) e)

  number_seen : number_of text (spans n starts sizes) s ≡ number_of k.text k.names s
  number_seen = ap (λ (x : Known). number_of x.text x.names s) v

  pub found_none : (e : ℕ) → Walk text starts sizes s n e → e ≤ 0 → number_of k.text k.names s ≡ length k.names
  found_none e u z = sym number_seen ∙ (sym (walk_end text starts sizes heads nexts n s w e u z) ∙ seen_count text n starts sizes k v)

  module _ (e : ℕ) (u : Walk text starts sizes s n e) (some : 0 < e) where
    pub found_below : e - 1 < length k.names
    found_below = omega (arith, walk_below text starts sizes heads nexts n s w e u some, seen_count text n starts sizes k v)

    pub found_inside : (p : Span) → p ≡ span_at k.names (e - 1) → past p ≤ length text
    found_inside p q = let l = walk_below text starts sizes heads nexts n s w e u some in subst (λ (x : Span). past x ≤ length text) (seen_span text n starts sizes k v (e - 1) l ∙ sym q) (w.inside (e - 1) l)

    -- what the code compares
    has_seen : (p : Span) → p ≡ span_at k.names (e - 1) → (a b : List ℕ) → a ≡ part text p → b ≡ part text s → Has text starts sizes s (e - 1) ≡ same a b
    has_seen p q a b ea eb =
        ap₂ same (ap (part text) (seen_span text n starts sizes k v (e - 1) (walk_below text starts sizes heads nexts n s w e u some) ∙ sym q) ∙ sym ea) (sym eb)

    pub found_hit : (p : Span) → p ≡ span_at k.names (e - 1) → (a b : List ℕ) → a ≡ part text p → b ≡ part text s → (r : Bool) → r ≡ same a b → r ≡ true
        → (e - 1 ≡ number_of k.text k.names s) × (e - 1 < length k.names)
    found_hit p q a b ea eb r er t = (walk_hit text starts sizes heads nexts n s w e u some (has_seen p q a b ea eb ∙ (sym er ∙ t)) ∙ number_seen, found_below)

    pub found_miss : (p : Span) → p ≡ span_at k.names (e - 1) → (a b : List ℕ) → a ≡ part text p → b ≡ part text s → (r : Bool) → r ≡ same a b → r ≡ false
        → Walk text starts sizes s n (at nexts (e - 1))
    found_miss p q a b ea eb r er f = walk_miss text starts sizes heads nexts n s w e u some (has_seen p q a b ea eb ∙ (sym er ∙ f))

-- with no node yet
pub linked_none : (text starts sizes heads nexts : List ℕ) → length text ≤ 65535 → length starts ≡ 4099 → length sizes ≡ 4099 → length heads ≡ 4096 → length nexts ≡ 4099 → ((b : ℕ) → b < 4096 → at heads b ≡ 0) → Linked text 0 starts sizes heads nexts
linked_none text starts sizes heads nexts o p q r t z =
    record {
      short = o;
      starts_long = p;
      sizes_long = q;
      heads_long = r;
      nexts_long = t;
      few = omega arith;
      inside = λ k l. absurd (below k l);
      differ = λ j k l m. absurd (below k m);
      head = λ b l. record { found = λ k e. absurd (empty b k l e); none = λ g a h c. omega arith };
      next = λ k l. absurd (below k l);
    }
  where
    empty : (b k : ℕ) → b < 4096 → at heads b ≡ k + 1 → ⊥
    empty b k l e = omega (arith, z b l)

    below : (k : ℕ) → k < 0 → ⊥
    below k l = omega arith

-- a new node heads its chain
module _ (text starts sizes heads nexts : List ℕ) (n : ℕ) (s : Span) (w : Linked text n starts sizes heads nexts) (room : n < 4099) (fits : past s ≤ length text)
    (b : ℕ) (lb : b < 4096) (eb : b ≡ chain_of (part text s)) (new : number_of text (spans n starts sizes) s ≡ n) where
  abbrev pub S : List ℕ
  S = set starts n s.start

  abbrev pub Z : List ℕ
  Z = set sizes n s.size

  abbrev pub H : List ℕ
  H = set heads b (n + 1)

  abbrev pub X : List ℕ
  X = set nexts n (at heads b)

  old_span : (g : ℕ) → g < n → span (at S g) (at Z g) ≡ span (at starts g) (at sizes g)
  old_span g l = ap₂ span (get_or-set_other starts n g s.start 0 (λ e. no e)) (get_or-set_other sizes n g s.size 0 (λ e. no e))
    where
      no : g ≡ n → ⊥
      no e = omega arith

  new-span : span (at S n) (at Z n) ≡ s
  new-span = ap₂ span (get_or-set_same starts n s.start 0 (omega (arith, w.starts_long))) (get_or-set_same sizes n s.size 0 (omega (arith, w.sizes_long)))

  old_name : (g : ℕ) → g < n → name_of text S Z g ≡ name_of text starts sizes g
  old_name g l = ap (part text) (old_span g l)

  new-name : name_of text S Z n ≡ part text s
  new-name = ap (part text) new-span

  one_more : n + 1 ≡ suc n
  one_more = omega arith

  -- the names with one more
  pub spans-new : spans (n + 1) S Z ≡ spans n starts sizes ++ s ∷ []
  unfolding spans
  spans-new =
      ap (λ (j : ℕ). spans j S Z) one_more
      ∙ (tab_more n (λ k. span (at S k) (at Z k))
      ∙ ap₂ (λ (x : List Span) (y : Span). x ++ y ∷ []) (tab_cong n (λ k. span (at S k) (at Z k)) (λ k. span (at starts k) (at sizes k)) old_span) new-span)

  -- the new name is none of the others
  apart : (g : ℕ) → g < n → name_of text starts sizes g ≡ part text s → ⊥
  apart g l e = go (first_says n (Has text starts sizes s))
    where
      there : Has text starts sizes s g ≡ true
      there = subst (λ (x : List ℕ). same x (part text s) ≡ true) (sym e) (same_refl (part text s))

      go : Least n (Has text starts sizes s) (first n (Has text starts sizes s)) → ⊥
      go (inl h) = omega (arith, h.0, number_at text starts sizes s n, new)
      go (inr h) = true≢false (sym there ∙ h.1 g l)

  kept : (c m e : ℕ) → m ≤ n → Last text starts sizes c m e → Last text S Z c m e
  kept c m e h l =
      record {
        found = λ k q. let f = l.found k q in (f.0, ap chain_of (old_name k (omega (arith, f.0))) ∙ f.1);
        none = λ g a u d. l.none g a u (sym (ap chain_of (old_name g (omega arith))) ∙ d);
      }

  head_other : (c : ℕ) → (c ≡ b → ⊥) → c < 4096 → Last text S Z c (n + 1) (at H c)
  head_other c d l =
      rw (get_or-set_other heads b c (n + 1) 0 d)
      (record {
        found = λ k q. let f = (w.head c l).found k q in (omega (arith, f.0), ap chain_of (old_name k f.0) ∙ f.1);
        none = λ g a u e. elim (dec_lt g n) [ yes y ↦ (w.head c l).none g a y (sym (ap chain_of (old_name g y)) ∙ e) | no y ↦ d (sym e ∙ (ap (λ (j : ℕ). chain_of (name_of text S Z j)) (top g u y) ∙ (ap chain_of new-name ∙ sym eb))) ];
      })
    where
      top : (g : ℕ) → g < n + 1 → (g < n → ⊥) → g ≡ n
      top g u y = omega arith

  head_own : Last text S Z b (n + 1) (at H b)
  head_own =
      rw (get_or-set_same heads b (n + 1) 0 (omega (arith, w.heads_long)))
      (record {
        found = λ k q. (omega arith, ap (λ (j : ℕ). chain_of (name_of text S Z j)) (one k q) ∙ (ap chain_of new-name ∙ sym eb));
        none = λ g a u c. omega arith;
      })
    where
      one : (k : ℕ) → n + 1 ≡ k + 1 → k ≡ n
      one k q = omega arith

  next_old : (k : ℕ) → k < n → Last text S Z (chain_of (name_of text S Z k)) k (at X k)
  next_old k l =
      rw (get_or-set_other nexts n k (at heads b) 0 (λ e. no e), old_name k l)
      (kept (chain_of (name_of text starts sizes k)) k (at nexts k) (omega arith) (w.next k l))
    where
      no : k ≡ n → ⊥
      no e = omega arith

  next-new : Last text S Z (chain_of (name_of text S Z n)) n (at X n)
  next-new =
      rw (get_or-set_same nexts n (at heads b) 0 (omega (arith, w.nexts_long)), new-name, sym eb)
      (kept b n (at heads b) (omega arith) (w.head b lb))

  linked_so : Linked text (n + 1) S Z H X
  linked_so =
      record {
        short = w.short;
        starts_long = length-set starts n s.start ∙ w.starts_long;
        sizes_long = length-set sizes n s.size ∙ w.sizes_long;
        heads_long = length-set heads b (n + 1) ∙ w.heads_long;
        nexts_long = length-set nexts n (at heads b) ∙ w.nexts_long;
        few = omega arith;
        inside = λ k l. elim (dec_lt k n) [ yes y ↦ subst (λ (x : Span). past x ≤ length text) (sym (old_span k y)) (w.inside k y) | no y ↦ subst (λ (j : ℕ). past (span (at S j) (at Z j)) ≤ length text) (last k l y) (subst (λ (x : Span). past x ≤ length text) (sym new-span) fits) ];
        differ = λ j k l m e. elim (dec_lt k n) [ yes y ↦ w.differ j k l y (sym (old_name j (omega arith)) ∙ (e ∙ old_name k y)) | no y ↦ apart j (omega arith) (sym (old_name j (omega arith)) ∙ (e ∙ (ap (name_of text S Z) (sym (last k m y)) ∙ new-name))) ];
        head = λ c l. way c l (eqb c b) refl;
        next = λ k l. elim (dec_lt k n) [ yes y ↦ next_old k y | no y ↦ subst (λ (j : ℕ). Last text S Z (chain_of (name_of text S Z j)) j (at X j)) (last k l y) next-new ];
      }
    where
      last : (k : ℕ) → k < n + 1 → (k < n → ⊥) → n ≡ k
      last k l y = omega arith

      way : (c : ℕ) → c < 4096 → (x : Bool) → eqb c b ≡ x → Last text S Z c (n + 1) (at H c)
      way c l true e = subst (λ (j : ℕ). Last text S Z j (n + 1) (at H j)) (sym (eqb-true c b e)) head_own
      way c l false e = head_other c (eqb-false c b e) l

  pub linked-new : Linked text (n + 1) (set starts n s.start) (set sizes n s.size) (set heads b (n + 1)) (set nexts n (at heads b))
  linked-new = linked_so

-- the same, as a clause sees it
module _ (text starts sizes heads nexts : List ℕ) (n : ℕ) (w : Linked text n starts sizes heads nexts) (k : Known) (v : known text (spans n starts sizes) ≡ k)
    (s : Span) (b : ℕ) (room : length k.names < 4099) (fits : past s ≤ length k.text) (lb : b < 4096) (eb : b ≡ chain_of (part k.text s))
    (new : number_of k.text k.names s ≡ length k.names) (m : ℕ) (em : m ≡ length k.names) where
  last_so : m ≡ n
  last_so = em ∙ sym (seen_count text n starts sizes k v)

  few_so : n < 4099
  few_so = omega (arith, last_so)

  fits_so : past s ≤ length text
  fits_so = rw (seen_text text n starts sizes k v) fits

  chain_so : b ≡ chain_of (part text s)
  chain_so = rw (seen_text text n starts sizes k v) eb

  new_so : number_of text (spans n starts sizes) s ≡ n
  new_so = ap (λ (x : Known). number_of x.text x.names s) v ∙ (new ∙ sym (seen_count text n starts sizes k v))

  pub entered_linked : Linked text (n + 1) (set starts m s.start) (set sizes m s.size) (set heads b (n + 1)) (set nexts m (at heads b))
  entered_linked = rw last_so (linked-new text starts sizes heads nexts n s w few_so fits_so b lb chain_so new_so)

  pub entered_seen : known text (spans (n + 1) (set starts m s.start) (set sizes m s.size)) ≡ entered k s
  entered_seen =
      rw last_so (ap (known text) (spans-new text starts sizes heads nexts n s w few_so fits_so b lb chain_so new_so) ∙ ap (λ (x : Known). entered x s) v)

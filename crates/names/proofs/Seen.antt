-- What a clause sees of the tables: as many names as are counted, each by where it starts and its size. Assumes nothing.
use Prim.Native.Nat.{ℕ, zero, suc, ◌≤◌, ◌<◌}
use native.Mathlib.Omega.{arith}
use mathlib.Core.Path.{◌≡◌, refl, sym, ap, ap₂, ◌∙◌}
use mathlib.Core.List.{List, [], ◌∷◌, map}
use lib.ListN.{length, take, get_or, get_or-map}
use Rattle.model.specs.Places.{tab, at}
use Rattle.laws.proofs.Places.{length-tab, get_or-tab}
use Rattle.text.specs.Bytes.{span, part, span_at, empty_part}
use Rattle.text.specs.Reading.{starts_of, sizes_of}
use Rattle.text.specs.declared.Span.{Span}
use Rattle.names.specs.Known.{Known, known}
use Rattle.names.specs.Chains.{spans, chain_of}

pub spans_long : (n : ℕ) (starts sizes : List ℕ) → length (spans n starts sizes) ≡ n
unfolding spans
spans_long n starts sizes = length-tab n (λ k. span (at starts k) (at sizes k))

spans_at : (n : ℕ) (starts sizes : List ℕ) (k : ℕ) → k < n → span (at starts k) (at sizes k) ≡ span_at (spans n starts sizes) k
unfolding spans
spans_at n starts sizes k l = sym (get_or-tab n (λ j. span (at starts j) (at sizes j)) empty_part k l)

-- the tables' fronts are the names' places and sizes
front : (n : ℕ) (l : List ℕ) → n ≤ length l → tab n (at l) ≡ take n l
front zero l h = refl
front (suc n) [] h = absurd (none h)
  where
    none : suc n ≤ 0 → ⊥
    none h = omega arith
front (suc n) (x ∷ l) h = ap (λ (r : List ℕ). x ∷ r) (front n l (omega arith))

map-tab : {A : Type 0} (g : A → ℕ) (n : ℕ) (f : ℕ → A) → map g (tab n f) ≡ tab n (λ k. g (f k))
map-tab g zero f = refl
map-tab g (suc n) f = ap (λ (r : List ℕ). g (f zero) ∷ r) (map-tab g n (λ i. f (suc i)))

starts_front : (n : ℕ) (starts sizes : List ℕ) → n ≤ length starts → take n starts ≡ starts_of (spans n starts sizes)
unfolding spans
starts_front n starts sizes h = sym (map-tab (λ (s : Span). s.start) n (λ k. span (at starts k) (at sizes k)) ∙ front n starts h)

sizes_front : (n : ℕ) (starts sizes : List ℕ) → n ≤ length sizes → take n sizes ≡ sizes_of (spans n starts sizes)
unfolding spans
sizes_front n starts sizes h = sym (map-tab (λ (s : Span). s.size) n (λ k. span (at starts k) (at sizes k)) ∙ front n sizes h)

module _ (text : List ℕ) (n : ℕ) (starts sizes : List ℕ) (k : Known) (v : known text (spans n starts sizes) ≡ k) where
  pub seen_text : text ≡ k.text
  seen_text = ap (λ (x : Known). x.text) v

  -- the chain of a name, made of its bytes
  pub seen_chain : (s : Span) (bytes : List ℕ) → bytes ≡ part text s → (b : ℕ) → b ≡ chain_of bytes → b ≡ chain_of (part k.text s)
  seen_chain s bytes eb b e = e ∙ ap chain_of (eb ∙ ap (λ (t : List ℕ). part t s) seen_text)

  pub seen_count : n ≡ length k.names
  seen_count = sym (spans_long n starts sizes) ∙ ap (λ (x : Known). length x.names) v

  pub seen_span : (i : ℕ) → i < n → span (at starts i) (at sizes i) ≡ span_at k.names i
  seen_span i l = spans_at n starts sizes i l ∙ ap (λ (x : Known). span_at x.names i) v

  pub seen_starts : n ≤ length starts → take (length k.names) starts ≡ starts_of k.names
  seen_starts l = ap (λ j. take j starts) (sym seen_count) ∙ starts_front n starts sizes l ∙ ap (λ (x : Known). starts_of x.names) v

  pub seen_sizes : n ≤ length sizes → take (length k.names) sizes ≡ sizes_of k.names
  seen_sizes l = ap (λ j. take j sizes) (sym seen_count) ∙ sizes_front n starts sizes l ∙ ap (λ (x : Known). sizes_of x.names) v

-- a name, by the fronts of the tables
pub span_told : (names : List Span) (k : ℕ) → span (get_or (starts_of names) k 0) (get_or (sizes_of names) k 0) ≡ span_at names k
span_told names k = ap₂ span (get_or-map (λ (s : Span). s.start) names k empty_part) (get_or-map (λ (s : Span). s.size) names k empty_part)

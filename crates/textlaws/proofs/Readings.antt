-- How a reading goes on, line by line: what is read has the room that is given, and more room alters nothing. Assumes nothing.
use Prim.Native.Nat.{ℕ, suc, ◌≤◌}
use native.Mathlib.Omega.{arith}
use mathlib.Core.Path.{◌≡◌, refl, sym, ◌∙◌}
use mathlib.Core.Logic.{◌⊎◌, inl, inr}
use mathlib.Core.Bool.{Bool, true, false}
use mathlib.Core.List.{List, [], ◌∷◌}
use borrow.Author.Tests.{ltb-false, le-ltb}
use lib.ListN.{length}
use lib.Dec.{ltb}
use Rattle.model.specs.Net.{transistors}
use Rattle.text.specs.Lines.{line_starts, line_at}
use Rattle.text.specs.Netlist.{Netlist, nothing, added, bad, offends, Reading, taken, refused, read_on, reading}
use Rattle.text.specs.declared.Line.{Line}
use Rattle.textlaws.proofs.Tests.{or_none}

-- what was read, with the line that starts at i; and whether that line offends
abbrev pub after : List ℕ → ℕ → Netlist → Netlist
after text i m = added text (line_at text i) m

abbrev pub stops : List ℕ → ℕ → ℕ → ℕ → Netlist → Bool
stops text n t i m = offends n t (line_at text i) (after text i m)

-- no reading is both
pub refused_taken : (k : ℕ) (m : Netlist) → refused k ≡ taken m → ⊥
refused_taken k m e = let z : ◌≡◌ {A = ℕ} 0 1 = cc in omega arith

-- a line that does not offend is not bad, and there is room for what it adds
pub record Roomy (n t : ℕ) (l : Line) (m : Netlist) : Type 0 where
  pub good : bad l ≡ false
  pub nodes_fit : length m.names ≤ n
  pub transistors_fit : transistors m.net ≤ t

pub offends-not : (n t : ℕ) (l : Line) (m : Netlist) → offends n t l m ≡ false → Roomy n t l m
unfolding offends
offends-not n t l m h =
    let a = or_none (bad l) _ h in
    let b = or_none (ltb n (length m.names)) (ltb t (transistors m.net)) a.1 in
    record { good = a.0; nodes_fit = ltb-false n (length m.names) b.0; transistors_fit = ltb-false t (transistors m.net) b.1 }

pub roomy_passes : (n t : ℕ) (l : Line) (m : Netlist) → Roomy n t l m → offends n t l m ≡ false
unfolding offends
roomy_passes n t l m r = rw (r.good, le-ltb n (length m.names) r.nodes_fit, le-ltb t (transistors m.net) r.transistors_fit)

-- one more line
module _ (text : List ℕ) (n t k : ℕ) (m : Netlist) (i : ℕ) (starts : List ℕ) where
  abbrev rest : Reading
  rest = read_on text n t (suc k) (after text i m) starts

  pub on_stops : stops text n t i m ≡ true → read_on text n t k m (i ∷ starts) ≡ refused k
  unfolding read_on
  on_stops h = rw h

  pub on_goes : stops text n t i m ≡ false → read_on text n t k m (i ∷ starts) ≡ rest
  unfolding read_on
  on_goes h = rw h

  pub on_taken : (r : Netlist) → read_on text n t k m (i ∷ starts) ≡ taken r → (stops text n t i m ≡ false) × (rest ≡ taken r)
  on_taken r e = go (stops text n t i m) refl
    where
      go : (x : Bool) → stops text n t i m ≡ x → (stops text n t i m ≡ false) × (rest ≡ taken r)
      go true h = absurd (refused_taken k r (sym (on_stops h) ∙ e))
      go false h = (h, sym (on_goes h) ∙ e)

  pub on_refused : (j : ℕ) → read_on text n t k m (i ∷ starts) ≡ refused j
      → ((stops text n t i m ≡ true) × (k ≡ j)) ⊎ ((stops text n t i m ≡ false) × (rest ≡ refused j))
  on_refused j e = go (stops text n t i m) refl
    where
      go : (x : Bool) → stops text n t i m ≡ x → ((stops text n t i m ≡ true) × (k ≡ j)) ⊎ ((stops text n t i m ≡ false) × (rest ≡ refused j))
      go true h = let f = sym (on_stops h) ∙ e in inl (h, cc)
      go false h = inr (h, sym (on_goes h) ∙ e)

-- what is read has the room that is given
within_on : (text : List ℕ) (n t k : ℕ) (m : Netlist) (starts : List ℕ) (r : Netlist) → length m.names ≤ n → transistors m.net ≤ t
    → read_on text n t k m starts ≡ taken r → (length r.names ≤ n) × (transistors r.net ≤ t)
unfolding read_on
within_on text n t k m [] r a b e = let f : m ≡ r = cc in rw (← f) (a, b)
within_on text n t k m (i ∷ starts) r a b e =
    let h = on_taken text n t k m i starts r e in
    let p = offends-not n t (line_at text i) (after text i m) h.0 in
    within_on text n t (suc k) (after text i m) starts r p.nodes_fit p.transistors_fit h.1

pub read_within : (text : List ℕ) (n t : ℕ) (m : Netlist) → reading text n t ≡ taken m → (length m.names ≤ n) × (transistors m.net ≤ t)
unfolding reading
read_within text n t m e = within_on text n t 0 nothing (line_starts text) m (omega arith) (omega arith) e

-- where there is room for a line there is more room for it
passes_more : (n t n2 t2 : ℕ) (l : Line) (m : Netlist) → n ≤ n2 → t ≤ t2 → offends n t l m ≡ false → offends n2 t2 l m ≡ false
passes_more n t n2 t2 l m a b h =
    let r = offends-not n t l m h in
    roomy_passes n2 t2 l m (record { good = r.good; nodes_fit = omega arith; transistors_fit = omega arith })

-- lines from k on are refused at none before it
from_on : (text : List ℕ) (n t k : ℕ) (m : Netlist) (starts : List ℕ) (j : ℕ) → read_on text n t k m starts ≡ refused j → k ≤ j
unfolding read_on
from_on text n t k m [] j e = absurd (refused_taken j m (sym e))
from_on text n t k m (i ∷ starts) j e = go (on_refused text n t k m i starts j e) (λ f. from_on text n t (suc k) (after text i m) starts j f)
  where
    go : ((stops text n t i m ≡ true) × (k ≡ j)) ⊎ ((stops text n t i m ≡ false) × (read_on text n t (suc k) (after text i m) starts ≡ refused j))
        → (read_on text n t (suc k) (after text i m) starts ≡ refused j → suc k ≤ j) → k ≤ j
    go (inl h) f = omega arith
    go (inr h) f = omega (arith, f h.1)

-- more room than a text needs alters nothing; and with less room it is refused no later
module _ (text : List ℕ) (n t n2 t2 : ℕ) (a : n ≤ n2) (b : t ≤ t2) where
  more_on : (k : ℕ) (m : Netlist) (starts : List ℕ) (r : Netlist) → read_on text n t k m starts ≡ taken r → read_on text n2 t2 k m starts ≡ taken r
  unfolding read_on
  more_on k m [] r e = e
  more_on k m (i ∷ starts) r e =
      let h = on_taken text n t k m i starts r e in
      on_goes text n2 t2 k m i starts (passes_more n t n2 t2 (line_at text i) (after text i m) a b h.0) ∙ more_on (suc k) (after text i m) starts r h.1

  pub more_room : (m : Netlist) → reading text n t ≡ taken m → reading text n2 t2 ≡ taken m
  unfolding reading
  more_room m e = more_on 0 nothing (line_starts text) m e

  less_on : (k : ℕ) (m : Netlist) (starts : List ℕ) (j : ℕ) → read_on text n2 t2 k m starts ≡ refused j → (p : ℕ) × (read_on text n t k m starts ≡ refused p) × (p ≤ j)
  unfolding read_on
  less_on k m [] j e = absurd (refused_taken j m (sym e))
  less_on k m (i ∷ starts) j e = go (stops text n t i m) refl (λ f. less_on (suc k) (after text i m) starts j f)
    where
      go : (x : Bool) → stops text n t i m ≡ x
          → (read_on text n2 t2 (suc k) (after text i m) starts ≡ refused j → (p : ℕ) × (read_on text n t (suc k) (after text i m) starts ≡ refused p) × (p ≤ j))
          → (p : ℕ) × (read_on text n t k m (i ∷ starts) ≡ refused p) × (p ≤ j)
      go true h f = (k, on_stops text n t k m i starts h, from_on text n2 t2 k m (i ∷ starts) j e)
      go false h f =
          let more = on_goes text n2 t2 k m i starts (passes_more n t n2 t2 (line_at text i) (after text i m) a b h) in
          let r = f (sym more ∙ e) in
          (r.0, on_goes text n t k m i starts h ∙ r.1, r.2)

  pub less_room : (k : ℕ) → reading text n2 t2 ≡ refused k → (j : ℕ) × (reading text n t ≡ refused j) × (j ≤ k)
  unfolding reading
  less_room k e = less_on 0 nothing (line_starts text) k e

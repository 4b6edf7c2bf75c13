-- What `judge` says: the refusal of the first broken rule at its first place, exactly when one is broken. Assumes nothing.
use Prim.Native.Nat.{ℕ, zero, suc, ◌≤◌, ◌<◌}
use native.Mathlib.Nat.{not-suc-le-zero, le_of_suc-le-suc}
use native.Mathlib.Omega.{arith}
use mathlib.Core.Path.{◌≡◌, refl, ap, ◌∙◌, sym, subst}
use mathlib.Core.Logic.{◌⊎◌, inl, inr}
use mathlib.Core.Bool.{Bool, true, false, not, ◌&&◌, true≢false, and-eq-true_iff}
use mathlib.Core.List.{List, [], ◌∷◌, ◌++◌}
use lib.ListN.{get_or}
use lib.Dec.{eqb, ltb, leb}
use borrow.Author.Tests.{eqb-true, eqb-false, ltb-true, ltb-false, leb-true, not-true, not-false}
use Rattle.model.specs.Places.{any, first}
use Rattle.model.specs.Answer.{number}
use Rattle.model.specs.Rules.{Verdict, Rule, judge, given}
use Rattle.model.specs.Demands.{Clean, Broken, now, later, Applies, by, past, Judged, Lowest}
use Rattle.model.specs.declared.Answer.{Answer}
use Rattle.std.proofs.Common.{Ok, Err}

-- k is the least place below n at which the test passes; or k is n, and there is none
abbrev pub Least : ℕ → (ℕ → Bool) → ℕ → Type 0
Least n p k = ((k < n) × (p k ≡ true) × ((q : ℕ) → q < k → p q ≡ false)) ⊎ ((k ≡ n) × ((q : ℕ) → q < n → p q ≡ false))

before : (p : ℕ → Bool) (k : ℕ) → p zero ≡ false → ((q : ℕ) → q < k → p (suc q) ≡ false) → (q : ℕ) → q < suc k → p q ≡ false
before p k e h zero l = e
before p k e h (suc q) l = h q (le_of_suc-le-suc l)

pub first_says : (n : ℕ) (p : ℕ → Bool) → Least n p (first n p)
first_says zero p = inr (refl, λ q l. absurd (not-suc-le-zero l))
first_says (suc n) p = go (p zero) refl (first_says n (λ i. p (suc i)))
  where
    k : ℕ
    k = first n (λ i. p (suc i))

    go : (b : Bool) → p zero ≡ b → Least n (λ i. p (suc i)) k → Least (suc n) p (elim b as (λ x. ℕ) [ true ↦ zero | false ↦ suc k ])
    go true e h = inl (omega arith, e, λ q l. absurd (not-suc-le-zero l))
    go false e (inl h) = inl (omega arith, h.1, before p k e h.2)
    go false e (inr h) = inr (ap suc h.0, before p n e h.1)

pub judge_says : (rs : List Rule) → Judged rs (judge rs)
judge_says [] = tt
judge_says (r ∷ rs) = go _ refl (first_says r.places r.breaks) (judge rs) (judge_says rs)
  where
    p : ℕ
    p = first r.places r.breaks

    go : (b : Bool) → ltb p r.places ≡ b → Least r.places r.breaks p → (v : Verdict) → Judged rs v → Judged (r ∷ rs) (elim b as (λ x. Verdict) [ true ↦ Err (r.refusal p) | false ↦ v ])
    go true e (inl h) v j = now h.0 h.1 h.2
    go true e (inr h) v j = absurd (omega (arith, ltb-true p r.places e))
    go false e (inl h) v j = absurd (omega (arith, ltb-false p r.places e))
    go false e (inr h) (Ok _) j = (h.1, j)
    go false e (inr h) (Err a) j = later h.1 j

-- no rules are both clean and broken
pub clean_unbroken : (rs : List Rule) (a : Answer) → Clean rs → Broken rs a → ⊥
clean_unbroken rs a c (now {p = p} l e h) = true≢false (sym e ∙ c.0 p l)
clean_unbroken rs a c (later {rs = qs} h b) = clean_unbroken qs a c.1 b

-- the first rule is broken, or it is not and a later one is
abbrev pub HeadBroken : List Rule → Answer → Type 0
HeadBroken [] a = ⊥
HeadBroken (r ∷ rs) a =
    ((p : ℕ) × (p < r.places) × (r.breaks p ≡ true) × (a ≡ r.refusal p) × ((q : ℕ) → q < p → r.breaks q ≡ false))
    ⊎ (((q : ℕ) → q < r.places → r.breaks q ≡ false) × Broken rs a)

pub broken_head : (rs : List Rule) (a : Answer) → Broken rs a → HeadBroken rs a
broken_head rs a (now {p = p} l e f) = inl (p, l, e, refl, f)
broken_head rs a (later f b) = inr (f, b)

pub first_one : (t : ℕ → Bool) (p q : ℕ) → t p ≡ true → t q ≡ true → ((k : ℕ) → k < p → t k ≡ false) → ((k : ℕ) → k < q → t k ≡ false) → p ≡ q
first_one t p q d e f g = go (ltb p q) refl (ltb q p) refl
  where
    go : (x : Bool) → ltb p q ≡ x → (y : Bool) → ltb q p ≡ y → p ≡ q
    go true h y k = absurd (true≢false (sym d ∙ g p (ltb-true p q h)))
    go false h true k = absurd (true≢false (sym e ∙ f q (ltb-true q p k)))
    go false h false k = omega (arith, ltb-false p q h, ltb-false q p k)

-- one refusal at most is that of the first broken rule at its first place
pub broken_one : (rs : List Rule) (a b : Answer) → Broken rs a → Broken rs b → a ≡ b
broken_one [] a b x y = absurd (broken_head [] a x)
broken_one (r ∷ rs) a b x y = go (broken_head (r ∷ rs) a x) (broken_head (r ∷ rs) b y) (broken_one rs a b)
  where
    go : HeadBroken (r ∷ rs) a → HeadBroken (r ∷ rs) b → (Broken rs a → Broken rs b → a ≡ b) → a ≡ b
    go (inl h) (inl k) f = h.3 ∙ (ap r.refusal (first_one r.breaks h.0 k.0 h.2 k.2 h.4 k.4) ∙ sym k.3)
    go (inl h) (inr k) f = absurd (true≢false (sym h.2 ∙ k.0 h.0 h.1))
    go (inr h) (inl k) f = absurd (true≢false (sym k.2 ∙ h.0 k.0 k.1))
    go (inr h) (inr k) f = f h.1 k.1

pub judge_broken : (rs : List Rule) (a : Answer) → Broken rs a → judge rs ≡ Err a
judge_broken rs a x = go (judge rs) refl (judge_says rs)
  where
    go : (v : Verdict) → judge rs ≡ v → Judged rs v → judge rs ≡ Err a
    go (Ok _) e j = absurd (clean_unbroken rs a j x)
    go (Err b) e j = e ∙ ap Err (broken_one rs b a j x)

pub judge_clean : (rs : List Rule) → Clean rs → judge rs ≡ Ok tt
judge_clean rs c = go (judge rs) refl (judge_says rs)
  where
    go : (v : Verdict) → judge rs ≡ v → Judged rs v → judge rs ≡ Ok tt
    go (Ok _) e j = e
    go (Err a) e j = absurd (clean_unbroken rs a c j)

-- no place breaks the rule; none breaks any of those that are accepted
abbrev pub Kept : Rule → Type 0
Kept r = (q : ℕ) → q < r.places → r.breaks q ≡ false

pub clean : (rs : List Rule) → judge rs ≡ Ok tt → Clean rs
clean rs e = subst (λ (v : Verdict). Judged rs v) e (judge_says rs)

-- a fact of each place that breaks a rule is a fact of the refusal
abbrev pub Each : (Answer → Type 0) → List Rule → Type 0
Each P [] = Unit {0}
Each P (r ∷ rs) = ((p : ℕ) → p < r.places → r.breaks p ≡ true → P (r.refusal p)) × Each P rs

pub broken_each : (P : Answer → Type 0) (rs : List Rule) (a : Answer) → Each P rs → Broken rs a → P a
broken_each P rs a h (now {p = p} l e f) = h.0 p l e
broken_each P rs a h (later {rs = qs} f b) = broken_each P qs a h.1 b

-- the numbers with which the rules refuse, one after the other
pub data Numbers : List ℕ → List Rule → Type 0 where
  none : Numbers [] []
  also : {m : ℕ} {ms : List ℕ} {r : Rule} {rs : List Rule} → ((p : ℕ) → number (r.refusal p) ≡ m) → Numbers ms rs → Numbers (m ∷ ms) (r ∷ rs)

-- no rule refuses with the number 0, nor with `other`
abbrev pub Numbered : ℕ → List Rule → Type 0
Numbered other [] = Unit {0}
Numbered other (r ∷ rs) = ((p : ℕ) → (1 ≤ number (r.refusal p)) × (number (r.refusal p) ≡ other → ⊥)) × Numbered other rs

abbrev pub without : ℕ → List ℕ → Bool
without other [] = true
without other (m ∷ ms) = not (eqb m 0) && (not (eqb m other) && without other ms)

pub numbered : (other : ℕ) {ms : List ℕ} {rs : List Rule} → Numbers ms rs → without other ms ≡ true → Numbered other rs
numbered other none e = tt
numbered other (also {m = m} {ms = ms} h ns) e = (λ p. rw (h p) (positive m some.0, eqb-false m other (not-true _ some.1)), numbered other ns some.2)
  where
    some : (not (eqb m 0) ≡ true) × (not (eqb m other) ≡ true) × (without other ms ≡ true)
    some =
        let f = (and-eq-true_iff (not (eqb m 0)) _).0 e in
        let g = (and-eq-true_iff (not (eqb m other)) (without other ms)).0 f.1 in
        (f.0, g.0, g.1)

    positive : (k : ℕ) → not (eqb k 0) ≡ true → 1 ≤ k
    positive zero h = absurd (true≢false (sym h))
    positive (suc k) h = omega arith

pub broken_number : (other : ℕ) (rs : List Rule) (a : Answer) → Numbered other rs → Broken rs a → (1 ≤ number a) × (number a ≡ other → ⊥)
broken_number other rs a h (now {p = p} l e f) = h.0 p
broken_number other rs a h (later {rs = qs} f b) = broken_number other qs a h.1 b

-- where none of the tests passes, the one at i fails
pub any_none : (bs : List Bool) → any bs ≡ false → (i : ℕ) → get_or bs i false ≡ false
any_none [] e i = refl
any_none (true ∷ bs) e i = absurd (true≢false e)
any_none (false ∷ bs) e zero = refl
any_none (false ∷ bs) e (suc i) = any_none bs e i

-- and where that one says that two lengths differ, they are equal
pub level_at : (a b : ℕ) (bs : List Bool) (i : ℕ) → any bs ≡ false → get_or bs i false ≡ not (eqb a b) → a ≡ b
level_at a b bs i e h = eqb-true a b (not-false (eqb a b) (sym h ∙ any_none bs e i))

-- each rule has one number, and they rise from n on
abbrev pub Sorted : ℕ → List Rule → Type 0
Sorted n [] = Unit {0}
Sorted n (r ∷ rs) = (m : ℕ) × (n ≤ m) × ((p : ℕ) → number (r.refusal p) ≡ m) × Sorted m rs

abbrev pub rising : ℕ → List ℕ → Bool
rising n [] = true
rising n (m ∷ ms) = leb n m && rising m ms

pub sorted : (n : ℕ) {ms : List ℕ} {rs : List Rule} → Numbers ms rs → rising n ms ≡ true → Sorted n rs
sorted n none e = tt
sorted n (also {m = m} {ms = ms} h ns) e =
    let f = (and-eq-true_iff (leb n m) (rising m ms)).0 e in
    (m, leb-true n m f.0, h, sorted m ns f.1)

abbrev HeadApplies : List Rule → Answer → Type 0
HeadApplies [] a = ⊥
HeadApplies (r ∷ rs) a = ((p : ℕ) × (p < r.places) × (r.breaks p ≡ true) × (a ≡ r.refusal p)) ⊎ Applies rs a

applies_head : (rs : List Rule) (a : Answer) → Applies rs a → HeadApplies rs a
applies_head rs a (by {p = p} l e) = inl (p, l, e, refl)
applies_head rs a (past x) = inr x

sorted_least : (n : ℕ) (rs : List Rule) (a : Answer) → Sorted n rs → Applies rs a → n ≤ number a
sorted_least n rs a h (by {p = p} l e) = omega (arith, h.1, h.2 p)
sorted_least n rs a h (past {rs = qs} x) = omega (arith, h.1, sorted_least h.0 qs a h.3 x)

lowest : (n : ℕ) (rs : List Rule) (a b : Answer) → Sorted n rs → Broken rs a → Applies rs b → number a ≤ number b
lowest n rs a b h (now {r = r} {rs = qs} {p = p} l e f) x =
    elim (applies_head (r ∷ qs) b x) [
      | inl k ↦ omega (arith, h.2 p, ap number k.3 ∙ h.2 k.0)
      | inr y ↦ omega (arith, h.2 p, sorted_least h.0 qs b h.3 y)
    ]
lowest n rs a b h (later {r = r} {rs = qs} f y) x =
    elim (applies_head (r ∷ qs) b x) [ inl k ↦ absurd (true≢false (sym k.2 ∙ f k.0 k.1)) | inr z ↦ lowest h.0 qs a b h.3 y z ]

clean_applies : (rs : List Rule) (b : Answer) → Clean rs → Applies rs b → ⊥
clean_applies rs b c (by {p = p} l e) = true≢false (sym e ∙ c.0 p l)
clean_applies rs b c (past {rs = qs} x) = clean_applies qs b c.1 x

-- what is given applies itself
broken_applies : (rs : List Rule) (a : Answer) → Broken rs a → Applies rs a
broken_applies rs a (now l e f) = by l e
broken_applies rs a (later f b) = past (broken_applies _ a b)

pub judged_lowest : (n : ℕ) (rs : List Rule) (accept : Answer) → Sorted n rs → Lowest rs (given (judge rs) (λ a. a) accept)
judged_lowest n rs accept h b x = go (judge rs) (judge_says rs)
  where
    go : (v : Verdict) → Judged rs v → Applies rs (given v (λ a. a) accept) × (number (given v (λ a. a) accept) ≤ number b)
    go (Ok _) j = absurd (clean_applies rs b j x)
    go (Err a) j = (broken_applies rs a j, lowest n rs a b h j x)

-- rules one after the other
pub judge_append : (rs qs : List Rule) → judge (rs ++ qs) ≡ given (judge rs) Err (judge qs)
judge_append [] qs = refl
judge_append (r ∷ rs) qs = go (ltb (first r.places r.breaks) r.places) (judge_append rs qs)
  where
    go : (b : Bool) → judge (rs ++ qs) ≡ given (judge rs) Err (judge qs)
        → elim b as (λ x. Verdict) [ true ↦ Err (r.refusal (first r.places r.breaks)) | false ↦ judge (rs ++ qs) ]
        ≡ given (elim b as (λ x. Verdict) [ true ↦ Err (r.refusal (first r.places r.breaks)) | false ↦ judge rs ]) Err (judge qs)
    go true h = refl
    go false h = h

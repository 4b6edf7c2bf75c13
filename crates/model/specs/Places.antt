-- Tables made from a rule, and tests over the places of a table: the vocabulary of all other definitions. Assumes nothing.
use Rattle.std.specs.Prelude.{ℕ, zero, suc, max, ◌+◌, Bool, true, false, cond, ◌&&◌, ◌||◌, List, [], ◌∷◌, get_or, eqb}

module _ {A : Type 0} where
  -- the table of n entries whose entry at i is f i
  abbrev pub tab : ℕ → (ℕ → A) → List A
  tab zero f = []
  tab (suc n) f = f zero ∷ tab n (λ i. f (suc i))

  -- f, n times
  abbrev pub iter : ℕ → (A → A) → A → A
  iter zero f a = a
  iter (suc n) f a = iter n f (f a)

-- the test passes at each, at one, of the places below n
abbrev pub every : ℕ → (ℕ → Bool) → Bool
every zero p = true
every (suc n) p = p zero && every n (λ i. p (suc i))

abbrev pub some : ℕ → (ℕ → Bool) → Bool
some zero p = false
some (suc n) p = p zero || some n (λ i. p (suc i))

-- the largest of f 0 .. f (n - 1), and 0 where there is none
abbrev pub most : ℕ → (ℕ → ℕ) → ℕ
most zero f = 0
most (suc n) f = max (f zero) (most n (λ i. f (suc i)))

-- the least place below n at which the test passes, and n where there is none
abbrev pub first : ℕ → (ℕ → Bool) → ℕ
first zero p = zero
first (suc n) p = elim (p zero) [ true ↦ zero | false ↦ suc (first n (λ i. p (suc i))) ]

-- how many places below n pass the test
abbrev pub count : ℕ → (ℕ → Bool) → ℕ
count zero p = 0
count (suc n) p = cond (p zero) 1 0 + count n (λ i. p (suc i))

-- one of a list of tests passes
abbrev pub any : List Bool → Bool
any [] = false
any (b ∷ bs) = b || any bs

abbrev pub imp : Bool → Bool → Bool
imp true b = b
imp false b = true

-- what stands at i, and 0 past the end: so every definition is total
abbrev pub at : List ℕ → ℕ → ℕ
at l i = get_or l i 0

abbrev pub same : List ℕ → List ℕ → Bool
same [] [] = true
same [] (y ∷ ys) = false
same (x ∷ xs) [] = false
same (x ∷ xs) (y ∷ ys) = eqb x y && same xs ys

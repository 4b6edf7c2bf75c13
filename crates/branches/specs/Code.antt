-- What the cells of a step's tables say. Assumes nothing.
use Rattle.std.specs.Prelude.{ℕ, ◌+◌, ◌*◌, ◌-◌, ◌/◌, ◌%◌, ◌≤◌, ◌≡◌, Bool, true, cond, eqb, leb, ltb}

-- In a table of strengths a cell is 2k + 1 where its node has the strength k, and 2k where it has none and nothing up to k may come to it.
unfoldable pub strength_of : ℕ → ℕ
strength_of c = cond (eqb (c % 2) 0) 0 (c / 2)

-- Before that, a cell tells of sources: how strong the strongest are, k, and at what states, m: 1 all at 0, 2 all at 1, 3 otherwise.
abbrev pub telling : ℕ → ℕ → ℕ
telling k m = 64 + 4 * k + m

-- the least cell that tells of sources
abbrev pub least_telling : ℕ
least_telling = 64

abbrev pub rank : ℕ → ℕ
rank c = c / 4 - 16

abbrev pub mark : ℕ → ℕ
mark c = c % 4

-- the mark of one source
unfoldable pub mark_of : ℕ → ℕ
mark_of x = cond (ltb 1 x) 3 (x + 1)

-- the sources that two cells tell of, together
unfoldable pub together : ℕ → ℕ → ℕ
together a b = cond (eqb (a / 4) (b / 4)) (cond (eqb a b) a (4 * (a / 4) + 3)) (cond (ltb a b) b a)

-- by the mark m, one of the sources is not at b (0 or 1)
unfoldable pub unlike : ℕ → ℕ → Bool
unlike b m = cond (eqb b 0) (leb 2 m) (eqb (m % 2) 1)

-- nothing of what the cell x tells is lost in c
pub record Within (x c : ℕ) : Type 0 where
  pub lower : x / 4 ≤ c / 4
  pub kept : (b : ℕ) → b ≤ 1 → x / 4 ≡ c / 4 → unlike b (mark x) ≡ true → unlike b (mark c) ≡ true

-- what the table against b begins with at a node: c tells of the sources of its joined set, and u, if not 0, of the inputs behind unknown transistors
unfoldable pub begin : ℕ → ℕ → ℕ → ℕ
begin b c u = cond (unlike b (mark u)) 7 (cond (unlike b (mark c)) (2 * rank c + 1) (2 * (rank c - 1)))

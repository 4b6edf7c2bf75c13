-- How a wave viewer reads a value change dump (IEEE 1364), from the text alone: words, wires as they are declared, times, and values that stay until they
-- change. Assumes nothing.
use Rattle.std.specs.Prelude.{ℕ, ◌+◌, ◌-◌, ◌*◌, cond, ◌||◌, List, [], ◌∷◌, ◌++◌, map, reverse, length, set, get_or, eqb, ltb}
use Rattle.model.specs.Places.{any, same}
use Rattle.text.specs.Bytes.{bytes}

-- one more character at the front of the first word
abbrev pub longer : ℕ → List (List ℕ) → List (List ℕ)
longer b [] = (b ∷ []) ∷ []
longer b (w ∷ ws) = (b ∷ w) ∷ ws

-- the words of a text: parted by spaces and all that is below them, tabs and line feeds; between two of these in a row stands an empty word
abbrev pub words : List ℕ → List (List ℕ)
words [] = []
words (b ∷ bs) = cond (ltb b 33) ([] ∷ words bs) (longer b (words bs))

-- the number that has these digits, lowest first
abbrev pub numeral : ℕ → List ℕ → ℕ
numeral base [] = 0
numeral base (d ∷ ds) = d + base * numeral base ds

-- a number as it is written
unfoldable pub number_of : List ℕ → ℕ
number_of w = numeral 10 (reverse (map (λ c. c - 48) w))

-- a time, and the states of all wires at it, as they were declared
pub record Shot : Type 0 where
  pub time : ℕ
  pub states : List ℕ

abbrev pub shot : ℕ → List ℕ → Shot
shot t s = record { time = t; states = s }

-- where the reading stands: among values; in a command that is passed over; in a `$var`, with the words that it has so far
pub data Within : Type 0 where
  values : Within
  command : Within
  wire : List (List ℕ) → Within

-- before any time, or since a time
pub data Moment : Type 0 where
  before : Moment
  since : ℕ → Moment

-- what was read so far: the declared wires, their present states, the present time, and the times that are over
pub record View : Type 0 where
  pub within : Within
  pub codes : List (List ℕ)
  pub names : List (List ℕ)
  pub states : List ℕ
  pub moment : Moment
  pub past : List Shot

abbrev pub nothing : View
nothing = record { within = values; codes = []; names = []; states = []; moment = before; past = [] }

-- the times up to here
abbrev pub shots : View → List Shot
shots v = elim v.moment [ before ↦ v.past | since t ↦ v.past ++ (shot t v.states ∷ []) ]

-- which wire was declared with this code, the first of them; past the end where none was
abbrev pub find : List ℕ → List (List ℕ) → ℕ
find c [] = 0
find c (d ∷ ds) = cond (same c d) 0 (1 + find c ds)

abbrev pub going : View → Within → View
going v w = record { within = w; codes = v.codes; names = v.names; states = v.states; moment = v.moment; past = v.past }

-- type, size, code, name: one wire more, at X
abbrev pub declared : View → List (List ℕ) → View
declared v fields =
    record {
      within = values;
      codes = v.codes ++ (get_or fields 2 [] ∷ []);
      names = v.names ++ (get_or fields 3 [] ∷ []);
      states = v.states ++ (2 ∷ []);
      moment = v.moment;
      past = v.past;
    }

-- a new time begins, with the states as they are
abbrev pub timed : View → ℕ → View
timed v t = record { within = values; codes = v.codes; names = v.names; states = v.states; moment = since t; past = shots v }

-- the wire with this code takes a state
abbrev pub valued : View → List ℕ → ℕ → View
valued v c x =
    record { within = values; codes = v.codes; names = v.names; states = set v.states (find c v.codes) x; moment = v.moment; past = v.past }

-- a keyword: `$var` begins a declaration; `$dumpvars` and the `$end` after its values are no more than brackets; all others are passed over up to `$end`
abbrev pub keyword : View → List ℕ → View
keyword v w =
    cond (same w (bytes "var")) (going v (wire []))
    (cond (any (same w (bytes "dumpvars") ∷ same w (bytes "end") ∷ [])) v
    (going v command))

-- a word among values, by its first character: # a time, $ a keyword, 0, 1 and x a value
abbrev pub value_word : View → ℕ → List ℕ → View
value_word v b w =
    cond (eqb b 35) (timed v (number_of w))
    (cond (eqb b 36) (keyword v w)
    (cond (eqb b 48) (valued v w 0)
    (cond (eqb b 49) (valued v w 1)
    (cond (eqb b 120 || eqb b 88) (valued v w 2) v))))

-- one word more; the four words of a `$var` are taken as they stand, whatever they are
abbrev pub read : View → List ℕ → View
read v [] = v
read v (b ∷ w) =
    elim v.within [
      | values ↦ value_word v b w
      | command ↦ cond (same (b ∷ w) (bytes "$end")) (going v values) v
      | wire fields ↦
          cond (ltb (length fields) 4) (going v (wire (fields ++ ((b ∷ w) ∷ []))))
          (cond (same (b ∷ w) (bytes "$end")) (declared v fields) v)
    ]

abbrev pub read_all : View → List (List ℕ) → View
read_all v [] = v
read_all v (w ∷ ws) = read_all (read v w) ws

-- what a viewer shows of a text: the wires' names, and their states at each time
pub record Reading : Type 0 where
  pub names : List (List ℕ)
  pub times : List Shot

abbrev pub reading_of : View → Reading
reading_of v = record { names = v.names; times = shots v }

unfoldable pub reading : List ℕ → Reading
reading text = reading_of (read_all nothing (words text))

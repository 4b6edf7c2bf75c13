-- The names that are known of a text, and what one more adds. Assumes nothing.
use Rattle.std.specs.Prelude.{ℕ, cond, List, [], ◌∷◌, ◌++◌, length, ltb}
use Rattle.text.specs.Netlist.{number_of}
use Rattle.text.specs.declared.Span.{Span}

-- by number: where the name of each node first appears in the text
pub record Known : Type 0 where
  pub text : List ℕ
  pub names : List Span

abbrev pub known : List ℕ → List Span → Known
known text names = record { text = text; names = names }

abbrev pub one_more : Known → Span → Known
one_more k s = known k.text (k.names ++ s ∷ [])

-- with the name s, which is one more if it is not there yet
abbrev pub knowing : Known → Span → Known
knowing k s = cond (ltb (number_of k.text k.names s) (length k.names)) k (one_more k s)

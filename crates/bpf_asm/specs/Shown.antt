-- The code's borrowed results as lists of octets and tokens. No public contract depends on these definitions.
use Rattle.std.specs.Prelude.{List, [], ◌∷◌, ℕ}
use Rattle.bpf_asm.specs.declared.spelling.Front as front
use Rattle.bpf_asm.specs.declared.spelling.Words.{Words}
use Rattle.bpf_asm.specs.declared.spelling.Words.TheVariants.{Empty, One, Two, Three}
use Rattle.bpf_asm.specs.declared.rows.Row as row
use Rattle.bpf_asm.specs.Token.{tokens}
use Rattle.bpf_asm.specs.Reading.{Front, Row}

-- the word, and the tokens after it
abbrev pub shown_front : front.Front → Front
shown_front f = record { word = f.word.now; left = tokens f.left.now }

-- the words as a list
abbrev pub shown_words : Words → List (List ℕ)
shown_words Empty = []
shown_words (One first) = first.now ∷ []
shown_words (Two first second) = first.now ∷ second.now ∷ []
shown_words (Three first second third) = first.now ∷ second.now ∷ third.now ∷ []

-- the row, with its words as a list
abbrev pub shown_row : row.Row → Row
shown_row r = record { code = r.code; operation = r.operation; words = shown_words r.words }

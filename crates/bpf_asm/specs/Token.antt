-- The tokens of a line: words of letters, digits and `_`, and every other octet except blanks by itself.
-- A word that begins with a digit is meant as a number and may have dots, any other is meant as a name. `;` begins a comment.
use Rattle.std.specs.Prelude.{ℕ, List, [], ◌∷◌, ◌++◌, Bool, false, ◌||◌, ◌&&◌, not, ◌==◌, if◌then◌else◌}
use Rattle.std.specs.Char.{is_ascii_alphanumeric, is_ascii_digit}

-- a letter, a digit or `_`
abbrev pub is_word_octet : ℕ → Bool
is_word_octet c = is_ascii_alphanumeric c || (c == 95)

-- begins with a digit
abbrev pub begins_number : List ℕ → Bool
begins_number [] = false
begins_number (c ∷ cs) = is_ascii_digit c

-- the octet goes on with this word: a letter, a digit or `_`, or a dot in a word that begins with a digit
abbrev pub goes_on : List ℕ → ℕ → Bool
goes_on word c = is_word_octet c || ((c == 46) && begins_number word)

-- a space or a tab
abbrev pub is_blank : ℕ → Bool
is_blank c = (c == 32) || (c == 9)

-- the word as a token, if it is not empty
abbrev pub ended : List ℕ → List (List ℕ)
ended [] = []
ended (c ∷ cs) = (c ∷ cs) ∷ []

-- the octet as a token, if it is not a blank
abbrev pub sign_token : ℕ → List (List ℕ)
sign_token c = if is_blank c then [] else (c ∷ []) ∷ []

-- the tokens of the rest of a line, where `word` is the unfinished word before it
abbrev pub tokens_after : List ℕ → List ℕ → List (List ℕ)
tokens_after word [] = ended word
tokens_after word (c ∷ cs) =
    if goes_on word c then tokens_after (word ++ c ∷ []) cs
    else (if c == 59 then ended word else (ended word ++ sign_token c) ++ tokens_after [] cs)

-- the tokens of a line
abbrev pub tokens : List ℕ → List (List ℕ)
tokens line = tokens_after [] line

-- begins with an octet of a word
abbrev pub starts_word : List ℕ → Bool
starts_word [] = false
starts_word (c ∷ cs) = is_word_octet c

-- a word that doesn't begin with a digit
abbrev pub is_label : List ℕ → Bool
is_label [] = false
is_label (c ∷ cs) = is_word_octet c && not (is_ascii_digit c)

-- not a blank
abbrev pub is_text : ℕ → Bool
is_text c = not (is_blank c)

-- not `;`
abbrev pub begins_no_comment : ℕ → Bool
begins_no_comment c = not (c == 59)

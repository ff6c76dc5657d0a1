-- The words of an argument list that ask something of the program about itself. 45 is a dash.
use Rattle.std.specs.Prelude.{ℕ, ◌≡◌, ◌==◌, ◌&&◌, ◌||◌, ◌++◌, List, [], ◌∷◌, codes, bytes_eq, not, slice_index, String, string_bytes, ⊤, if◌then◌else◌, Bool, true, false, Option, Some, None}
use Rattle.std.specs.List.{list_any}
use Rattle.std.specs.declared.alloc.Global.{Global}
use Rattle.commands.specs.declared.asking.Question.{Question}
use Rattle.commands.specs.declared.asking.Question.TheVariants.{Text, Configuration}

-- the words that ask for the version, and for a text: the version or a help text
abbrev pub is_version_word : List ℕ → Bool
is_version_word word = bytes_eq word (codes "--version") || bytes_eq word (codes "-V")

abbrev pub is_text_word : List ℕ → Bool
is_text_word word =
    is_version_word word || bytes_eq word (codes "help") || bytes_eq word (codes "--help") || bytes_eq word (codes "-h")

-- the words that ask for a text, or for a check of a configuration
abbrev pub is_asking_word : List ℕ → Bool
is_asking_word word = is_text_word word || bytes_eq word (codes "--check")

-- whether an argument list, which begins with the program's name, has one of these words and no other
abbrev pub asks_for_text : List (List ℕ) → Bool
asks_for_text (name ∷ word ∷ []) = is_text_word word
asks_for_text _ = false

-- whether it has one of the words for the version and no other
abbrev pub asks_for_version : List (List ℕ) → Bool
asks_for_version (name ∷ word ∷ []) = is_version_word word
asks_for_version _ = false

-- the line that tells a version: the program's name, and the version
abbrev pub version_line : List ℕ → List ℕ
version_line version = codes "cache_main " ++ version ++ codes "\n"

-- whether one of the words of an argument list is the one that asks for a check
abbrev pub has_check : List (String Global) → Bool
has_check words = list_any (λ word. bytes_eq (string_bytes word) (codes "--check")) words

-- the configuration to check, by the words after the program's name: `serve`, and in either order `--check` and a file whose name
-- begins with no dash
abbrev pub is_file : List ℕ → Bool
is_file word = not (slice_index word 0 == 45)

abbrev pub checked_in : List ℕ → List ℕ → List ℕ → Option (List ℕ)
checked_in command one other =
    if not (bytes_eq command (codes "serve")) then None
    else if bytes_eq one (codes "--check") && is_file other then Some other
    else if bytes_eq other (codes "--check") && is_file one then Some one
    else None

abbrev pub checked : List (List ℕ) → Option (List ℕ)
checked (name ∷ command ∷ one ∷ other ∷ []) = checked_in command one other
checked _ = None

-- what is asked for
abbrev pub IsText : Question → Type 0
IsText (Text text) = ⊤
IsText (Configuration file) = ⊥

abbrev pub IsConfiguration : List ℕ → Question → Type 0
IsConfiguration path (Text text) = ⊥
IsConfiguration path (Configuration file) = file.now ≡ path

abbrev pub IsVersion : List ℕ → Question → Type 0
IsVersion version (Text text) = string_bytes text ≡ version_line version
IsVersion version (Configuration file) = ⊥

-- a configuration is to be checked only where a word of the argument list asks for a check
abbrev pub IsAskedBy : List (String Global) → Question → Type 0
IsAskedBy words (Text text) = ⊤
IsAskedBy words (Configuration file) = has_check words ≡ true

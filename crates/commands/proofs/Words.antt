-- Who asks for a text or for a check has a word that asks.
use Rattle.std.proofs.Common.{◌≡◌, ℕ, List, [], ◌∷◌, ◌||◌, ◌&&◌, not, map, drop, refl, sym, ◌∙◌, Bool, true, false, Some, None, codes, arith}
use Rattle.std.specs.Prelude.{String, bytes_eq, if◌then◌else◌}
use Rattle.std.specs.List.{list_any}
use Rattle.std.specs.String.{string_bytes}
use Rattle.std.specs.declared.alloc.Global.{Global}
use Rattle.commands.specs.Asking.{asks_for_text, asks_for_version, checked, has_check, is_asking_word, is_file, is_text_word}

pub text_asks : (words : List (String Global)) → asks_for_text (map string_bytes words) ≡ true
    → list_any (λ word. is_asking_word (string_bytes word)) (drop 1 words) ≡ true
text_asks [] h = absurd (grind arith)
text_asks (name ∷ []) h = absurd (grind arith)
text_asks (name ∷ word ∷ []) h = rw h refl
text_asks (name ∷ word ∷ other ∷ words) h = absurd (grind arith)

-- a truth has one value
clash : true ≡ false → ⊥
clash h = absurd (grind arith)

-- who has no word that asks doesn't ask for a text
pub no_text : (words : List (String Global)) → list_any (λ word. is_asking_word (string_bytes word)) (drop 1 words) ≡ false
    → asks_for_text (map string_bytes words) ≡ true → ⊥
no_text words none asks = clash (sym (text_asks words asks) ∙ none)

-- where a file is found, one of two words asks for a check
found : (serve one_asks one_is other_asks other_is : Bool) (one other file : List ℕ)
    → (if not serve then None else if one_asks && other_is then Some other else if other_asks && one_is then Some one else None) ≡ Some file
    → (one_asks || other_asks) ≡ true
found false a f b g one other file h = absurd (grind arith)
found true true f b g one other file h = refl
found true false f true g one other file h = refl
found true false f false g one other file h = absurd (grind arith)

-- then one of three asks
among : (first first_asks second second_asks third third_asks : Bool) → (second_asks || third_asks) ≡ true
    → ((first || first_asks) || ((second || second_asks) || ((third || third_asks) || false))) ≡ true
among true a b c d e h = refl
among false true b c d e h = refl
among false false true c d e h = refl
among false false false true d e h = refl
among false false false false true e h = refl
among false false false false false true h = refl
among false false false false false false h = absurd (grind arith)

pub check_asks : (words : List (String Global)) (file : List ℕ) → checked (map string_bytes words) ≡ Some file
    → list_any (λ word. is_asking_word (string_bytes word)) (drop 1 words) ≡ true
check_asks [] file h = absurd (grind arith)
check_asks (name ∷ []) file h = absurd (grind arith)
check_asks (name ∷ a ∷ []) file h = absurd (grind arith)
check_asks (name ∷ a ∷ b ∷ []) file h = absurd (grind arith)
check_asks (name ∷ a ∷ b ∷ c ∷ []) file h =
    among (is_text_word (string_bytes a)) (bytes_eq (string_bytes a) (codes "--check")) (is_text_word (string_bytes b))
    (bytes_eq (string_bytes b) (codes "--check")) (is_text_word (string_bytes c)) (bytes_eq (string_bytes c) (codes "--check"))
    (found (bytes_eq (string_bytes a) (codes "serve")) (bytes_eq (string_bytes b) (codes "--check")) (is_file (string_bytes b))
    (bytes_eq (string_bytes c) (codes "--check")) (is_file (string_bytes c)) (string_bytes b) (string_bytes c) file h)
check_asks (name ∷ a ∷ b ∷ c ∷ d ∷ words) file h = absurd (grind arith)

-- who asks for the version asks for a text
pub version_asks : (words : List (String Global)) → asks_for_version (map string_bytes words) ≡ true
    → asks_for_text (map string_bytes words) ≡ true
version_asks [] h = absurd (grind arith)
version_asks (name ∷ []) h = absurd (grind arith)
version_asks (name ∷ word ∷ []) h = rw h refl
version_asks (name ∷ word ∷ other ∷ words) h = absurd (grind arith)

-- one of four is
one_is : (first second third fourth : Bool) → (third || fourth) ≡ true → (first || (second || (third || (fourth || false)))) ≡ true
one_is true a b c h = refl
one_is false true b c h = refl
one_is false false true c h = refl
one_is false false false true h = refl
one_is false false false false h = absurd (grind arith)

-- where a file is found, a word asks for a check
pub check_named : (words : List (String Global)) (file : List ℕ) → checked (map string_bytes words) ≡ Some file
    → has_check words ≡ true
check_named [] file h = absurd (grind arith)
check_named (name ∷ []) file h = absurd (grind arith)
check_named (name ∷ a ∷ []) file h = absurd (grind arith)
check_named (name ∷ a ∷ b ∷ []) file h = absurd (grind arith)
check_named (name ∷ a ∷ b ∷ c ∷ []) file h =
    one_is (bytes_eq (string_bytes name) (codes "--check")) (bytes_eq (string_bytes a) (codes "--check"))
    (bytes_eq (string_bytes b) (codes "--check")) (bytes_eq (string_bytes c) (codes "--check"))
    (found (bytes_eq (string_bytes a) (codes "serve")) (bytes_eq (string_bytes b) (codes "--check")) (is_file (string_bytes b))
    (bytes_eq (string_bytes c) (codes "--check")) (is_file (string_bytes c)) (string_bytes b) (string_bytes c) file h)
check_named (name ∷ a ∷ b ∷ c ∷ d ∷ words) file h = absurd (grind arith)

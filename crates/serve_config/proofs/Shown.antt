-- Laws about the files of a configuration and the values that they stand for.
use Rattle.std.proofs.Common.{◌≡◌, ℕ, ◌+◌, ◌<◌, ◌^◌, List, [], ◌∷◌, ◌++◌, map, refl, ap, sym, ◌∙◌, append_assoc, add-one, arith, Bool, true, Some}
use Rattle.std.specs.Prelude.{bytes_eq, nat_lt}
use Rattle.std.specs.Cmp.Lexicographic.{nat_list_eq_equiv}
use Rattle.std.specs.declared.alloc.Global.{Global}
use Rattle.std.specs.Fmt.{decimal}
use Rattle.std.specs.List.{list_all}
use Rattle.std.specs.Map.{keys_of}
use Rattle.std.specs.Str.Parse.{digits_value}
use Rattle.std.specs.Prelude.{String}
use Rattle.std.specs.String.{string_bytes}
use Rattle.std.proofs.lemmas.Fmt.{decimal_is_IsNumeral}
use Rattle.std.proofs.lemmas.List.{map-append}
use Rattle.filter_slots.specs.declared.slot.Slot.TheVariants as slots
use Rattle.filter_text.specs.declared.file.FilterFile.{FilterFile}
use Rattle.serde_json.specs.Data.{Data, null, boolean, number, string, array, object}
use Rattle.serde_json.specs.Find.{as_str}
use Rattle.serde_json.specs.View.{members_view}
use Rattle.serde_json.specs.declared.value.Value.{Value}
use Rattle.serve_config.specs.Files.{all_keys, is_number, neighbour_rows, row, shown, socket_rows, value_at}

-- a value with a text is that text
pub text_of : (d : Data) (text : List ℕ) → as_str d ≡ Some text → d ≡ string text
text_of null text h = grind arith
text_of (boolean b) text h = grind arith
text_of (number n) text h = grind arith
text_of (string s) text h = grind arith
text_of (array ds) text h = grind arith
text_of (object ms) text h = grind arith

-- one file more
pub shown_with : (files : List FilterFile) (file : FilterFile) → map shown (files ++ file ∷ []) ≡ map shown files ++ map shown (file ∷ [])
shown_with files file = map-append shown files (file ∷ [])

-- the rows of one neighbour more
pub more_rows : (filters : Data) (n : ℕ) → socket_rows filters ++ neighbour_rows filters (n + 1) ≡ (socket_rows filters ++ neighbour_rows filters n) ++ row (slots.Neighbour n) (value_at filters (slots.Neighbour n))
more_rows filters n = rw (add-one n) (sym (append_assoc (socket_rows filters) (neighbour_rows filters n) (row (slots.Neighbour n) (value_at filters (slots.Neighbour n)))))

-- how a number is written is a number
pub written_number : (n neighbours : ℕ) (text : List ℕ) → text ≡ decimal n → n < neighbours → neighbours < 2 ^ 64 → is_number neighbours text ≡ true
written_number n neighbours text e below small =
    let value : digits_value 10 text ≡ n = ap (digits_value 10) e ∙ (decimal_is_IsNumeral n (omega arith)).1 in
    let low : nat_lt n neighbours ≡ true = grind arith in
    let same : bytes_eq text (decimal n) ≡ true = rw (sym e) (nat_list_eq_equiv.refl text) in
    rw (value, low, same) refl

-- the keys of an object, in a map and in its data
pub keys_of_members : (holds : List ℕ → Bool) (entries : List (String Global × Value)) → all_keys holds (members_view entries) ≡ list_all (λ key. holds (string_bytes key)) (keys_of entries)
keys_of_members holds [] = refl
keys_of_members holds (e ∷ entries) = rw (keys_of_members holds entries) refl

-- Which text represents which filter program, and why a text represents none.
use Rattle.std.specs.Prelude.{◌≡◌, ℕ, ◌==◌, ◌||◌, not, Bool, true, false, List, Option, Some, None, slice_get}
use Rattle.std.specs.List.{position}
use Rattle.std.specs.Char.{is_ascii_digit}
use Rattle.std.specs.Str.Lines.{lines}
use Rattle.bpf_check.specs.declared.insn.Insn.{Insn}
use Rattle.bpf_check.specs.Accepted.{IsFirstFault}
use Rattle.bpf_check.specs.Listing as listing
use Rattle.bpf_asm.specs.Assembly as assembler
use Rattle.bpf_asm.specs.Assembly.{token_lines}
use Rattle.filter_text.specs.declared.fault.ProgramFault.{ProgramFault}
use Rattle.filter_text.specs.declared.fault.ProgramFault.TheVariants.{Listing, Assembler, Check}

-- a space, a tab, CR or LF
abbrev pub is_space : ℕ → Bool
is_space c = (c == 32) || (c == 9) || (c == 13) || (c == 10)

-- not a space, a tab, CR or LF
abbrev pub is_text : ℕ → Bool
is_text c = not (is_space c)

-- there is an octet, and it is a digit
abbrev pub is_digit : Option ℕ → Bool
is_digit None = false
is_digit (Some c) = is_ascii_digit c

-- the text has a digit at the index, if there is an index
abbrev pub is_digit_at : List ℕ → Option ℕ → Bool
is_digit_at text None = false
is_digit_at text (Some place) = is_digit (slice_get text place)

-- the first octet except spaces, tabs, CR and LF is a digit; any other text is assembler text
abbrev pub is_listing : List ℕ → Bool
is_listing text = is_digit_at text (position is_text text)

-- the text represents these instructions, as a listing or as assembler text
abbrev pub Reads : List ℕ → Bool → List Insn → Type 0
Reads text true p = listing.IsListing (lines text) p
Reads text false p = assembler.Assembles (token_lines text) p

-- the text represents these instructions
abbrev pub StandsFor : List ℕ → List Insn → Type 0
StandsFor text p = Reads text (is_listing text) p

-- why a text is refused: it is not a listing or not assembler text, or the checker refuses its instructions
abbrev pub IsFaultOf : List ℕ → ProgramFault → Type 0
IsFaultOf text (Listing fault) = (is_listing text ≡ true) × listing.IsListingFault (lines text) fault
IsFaultOf text (Assembler fault) = (is_listing text ≡ false) × assembler.IsAssemblyFault (token_lines text) fault
IsFaultOf text (Check fault) = (p : List Insn) × StandsFor text p × IsFirstFault p fault

-- What is printed of an accepted program, and of the fault of a text.
use Rattle.std.specs.Prelude.{ℕ, List, [], ◌∷◌, ◌++◌, Bool, true, false, Option, None, Some, length, codes, decimal}
use Rattle.bpf_check.specs.declared.insn.Insn.{Insn}
use Rattle.bpf_check.specs.Accepted as check
use Rattle.bpf_check.specs.Listing as listing
use Rattle.bpf_check.specs.declared.listing.ListingFault.{ListingFault}
use Rattle.bpf_check.specs.declared.listing.ListingFault.TheVariants as listing_faults
use Rattle.bpf_asm.specs.Text.{program_text}
use Rattle.bpf_asm.specs.Assembly as assembler
use Rattle.bpf_asm.specs.declared.fault.AsmFault.{AsmFault}
use Rattle.bpf_asm.specs.declared.fault.AsmFault.TheVariants as assembler_faults
use Rattle.filter_text.specs.declared.fault.ProgramFault.{ProgramFault}
use Rattle.filter_text.specs.declared.fault.ProgramFault.TheVariants.{Listing, Assembler, Check}

-- an instruction in the swap line of a script: `code,jt,jf,k`
abbrev pub fields_text : Insn → List ℕ
fields_text i = decimal i.code ++ (codes "," ++ decimal i.jt) ++ (codes "," ++ decimal i.jf) ++ (codes "," ++ decimal i.k)

-- the instructions after the first, each with a semicolon before it
abbrev pub others_text : List Insn → List ℕ
others_text [] = []
others_text (i ∷ is) = codes ";" ++ fields_text i ++ others_text is

-- a program in the swap line of a script: its instructions, separated by semicolons
abbrev pub swap_text : List Insn → List ℕ
swap_text [] = []
swap_text (i ∷ is) = fields_text i ++ others_text is

-- what the command `check` prints of an accepted program: the number of instructions, then a line for each
abbrev pub accepted_text : List Insn → List ℕ
accepted_text p = codes "accepted " ++ decimal (length p) ++ codes "\n" ++ program_text p

-- ` line <n>`, if there is a line
abbrev pub line_text : Option ℕ → List ℕ
line_text None = []
line_text (Some n) = codes " line " ++ decimal n

-- ` place <i>`, if there is a place
abbrev pub place_text : Option ℕ → List ℕ
place_text None = []
place_text (Some i) = codes " place " ++ decimal i

-- the line of a fault, without the line's end
abbrev pub fault_text : ProgramFault → List ℕ
fault_text (Listing fault) = codes "listing fault " ++ decimal (listing.fault_number fault) ++ line_text (listing.fault_line fault)
fault_text (Assembler fault) = codes "assembler fault " ++ decimal (assembler.fault_number fault) ++ line_text (assembler.fault_line fault)
fault_text (Check fault) = codes "check fault " ++ decimal (check.fault_number fault) ++ place_text (check.fault_place fault)

-- the listing's fault is lack of memory
abbrev pub listing_wants_memory : ListingFault → Bool
listing_wants_memory listing_faults.NoMemory = true
listing_wants_memory _ = false

-- the same for assembler text
abbrev pub assembler_wants_memory : AsmFault → Bool
assembler_wants_memory assembler_faults.NoMemory = true
assembler_wants_memory _ = false

-- memory ran out, and the text may be a program; what the checker refuses is none
abbrev pub is_want_of_memory : ProgramFault → Bool
is_want_of_memory (Listing fault) = listing_wants_memory fault
is_want_of_memory (Assembler fault) = assembler_wants_memory fault
is_want_of_memory (Check fault) = false

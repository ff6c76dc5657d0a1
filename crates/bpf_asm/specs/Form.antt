-- The syntax of each operation: its mnemonic, and the tokens after it.
use Rattle.std.specs.Prelude.{ℕ, List, [], ◌∷◌, codes}
use Rattle.bpf_check.specs.declared.operation.Width.{Width}
use Rattle.bpf_check.specs.declared.operation.Width.TheVariants.{Word, Half, Byte}
use Rattle.bpf_check.specs.declared.operation.Operand.TheVariants.{Constant, Index}
use Rattle.bpf_check.specs.declared.operation.Arithmetic.{Arithmetic}
use Rattle.bpf_check.specs.declared.operation.Arithmetic.TheVariants.{Add, Subtract, Multiply, Divide, Or, And, ShiftLeft, ShiftRight, Modulo, ExclusiveOr}
use Rattle.bpf_check.specs.declared.operation.Comparison.{Comparison}
use Rattle.bpf_check.specs.declared.operation.Comparison.TheVariants.{Equal, AtLeast, Above, SharesBit}
use Rattle.bpf_check.specs.declared.operation.Operation.{Operation}
use Rattle.bpf_check.specs.declared.operation.Operation.TheVariants.{LoadAbsolute, LoadIndirect, LoadConstant, LoadScratch, LoadLength, IndexConstant, IndexScratch, IndexLength, IndexHeader, StoreAccumulator, StoreIndex, Compute, Negate, Jump, Branch, ReturnConstant, ReturnAccumulator, ToIndex, ToAccumulator}
use Rattle.bpf_asm.specs.declared.form.Piece.{Piece}
use Rattle.bpf_asm.specs.declared.form.Piece.TheVariants.{Hash, Open, Close, X, Plus, M, Len, Four, Star, LeftParen, Ampersand, LowFour, RightParen, A, Comma, Number, Label}

-- the mnemonic of an arithmetic operation
abbrev pub arithmetic_mnemonic : Arithmetic → List ℕ
arithmetic_mnemonic Add = codes "add"
arithmetic_mnemonic Subtract = codes "sub"
arithmetic_mnemonic Multiply = codes "mul"
arithmetic_mnemonic Divide = codes "div"
arithmetic_mnemonic Or = codes "or"
arithmetic_mnemonic And = codes "and"
arithmetic_mnemonic ShiftLeft = codes "lsh"
arithmetic_mnemonic ShiftRight = codes "rsh"
arithmetic_mnemonic Modulo = codes "mod"
arithmetic_mnemonic ExclusiveOr = codes "xor"

-- the mnemonic of a packet load into the accumulator, by its width
abbrev pub load_mnemonic : Width → List ℕ
load_mnemonic Word = codes "ld"
load_mnemonic Half = codes "ldh"
load_mnemonic Byte = codes "ldb"

-- the mnemonic of a conditional jump, by its test
abbrev pub branch_mnemonic : Comparison → List ℕ
branch_mnemonic Equal = codes "jeq"
branch_mnemonic AtLeast = codes "jge"
branch_mnemonic Above = codes "jgt"
branch_mnemonic SharesBit = codes "jset"

-- the mnemonic of an operation, its first token
abbrev pub mnemonic : Operation → List ℕ
mnemonic (LoadAbsolute width) = load_mnemonic width
mnemonic (LoadIndirect width) = load_mnemonic width
mnemonic LoadConstant = codes "ld"
mnemonic LoadScratch = codes "ld"
mnemonic LoadLength = codes "ld"
mnemonic IndexConstant = codes "ldx"
mnemonic IndexScratch = codes "ldx"
mnemonic IndexLength = codes "ldx"
mnemonic IndexHeader = codes "ldxb"
mnemonic StoreAccumulator = codes "st"
mnemonic StoreIndex = codes "stx"
mnemonic (Compute arithmetic side) = arithmetic_mnemonic arithmetic
mnemonic Negate = codes "neg"
mnemonic Jump = codes "ja"
mnemonic (Branch comparison side) = branch_mnemonic comparison
mnemonic ReturnConstant = codes "ret"
mnemonic ReturnAccumulator = codes "ret"
mnemonic ToIndex = codes "tax"
mnemonic ToAccumulator = codes "txa"

-- the tokens of a constant operand
abbrev pub constant_pieces : List Piece
constant_pieces = Hash ∷ Number ∷ []

-- the tokens of a scratch word operand
abbrev pub scratch_pieces : List Piece
scratch_pieces = M ∷ Open ∷ Number ∷ Close ∷ []

-- the tokens after the mnemonic
abbrev pub pieces : Operation → List Piece
pieces (LoadAbsolute width) = Open ∷ Number ∷ Close ∷ []
pieces (LoadIndirect width) = Open ∷ X ∷ Plus ∷ Number ∷ Close ∷ []
pieces LoadConstant = constant_pieces
pieces LoadScratch = scratch_pieces
pieces LoadLength = Len ∷ []
pieces IndexConstant = constant_pieces
pieces IndexScratch = scratch_pieces
pieces IndexLength = Len ∷ []
pieces IndexHeader = Four ∷ Star ∷ LeftParen ∷ Open ∷ Number ∷ Close ∷ Ampersand ∷ LowFour ∷ RightParen ∷ []
pieces StoreAccumulator = scratch_pieces
pieces StoreIndex = scratch_pieces
pieces (Compute arithmetic Constant) = constant_pieces
pieces (Compute arithmetic Index) = X ∷ []
pieces Negate = []
pieces Jump = Label ∷ []
pieces (Branch comparison Constant) = Hash ∷ Number ∷ Comma ∷ Label ∷ Comma ∷ Label ∷ []
pieces (Branch comparison Index) = X ∷ Comma ∷ Label ∷ Comma ∷ Label ∷ []
pieces ReturnConstant = constant_pieces
pieces ReturnAccumulator = A ∷ []
pieces ToIndex = []
pieces ToAccumulator = []

-- the octets of a fixed token; placeholders have none
abbrev pub fixed : Piece → List ℕ
fixed Hash = codes "#"
fixed Open = codes "["
fixed Close = codes "]"
fixed X = codes "x"
fixed Plus = codes "+"
fixed M = codes "M"
fixed Len = codes "len"
fixed Four = codes "4"
fixed Star = codes "*"
fixed LeftParen = codes "("
fixed Ampersand = codes "&"
fixed LowFour = codes "0xf"
fixed RightParen = codes ")"
fixed A = codes "a"
fixed Comma = codes ","
fixed Number = []
fixed Label = []

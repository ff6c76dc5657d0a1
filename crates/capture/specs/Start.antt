-- What a capture file begins with: the header of a classic file, or the section header of a pcapng file.
use Rattle.std.specs.Prelude.{◌≡◌, ℕ, IsTrue, List, [], Option, Some, None, ⊤}
use Rattle.capture.specs.declared.order.Order.{Order}
use Rattle.capture.specs.declared.order.Order.TheVariants.{Big}
use Rattle.capture.specs.declared.reading.Form.{Form}
use Rattle.capture.specs.declared.reading.Form.TheVariants.{Classic, Blocks}
use Rattle.capture.specs.Head.{IsHead}
use Rattle.capture.specs.Block.{StandsBlock, begins_section}
use Rattle.capture.specs.Blocks.{is_section}
use Rattle.capture.specs.Packet.{SoFar}

-- a section header stands in front of the octets
pub record StandsSection (order : Order) (octets rest : List ℕ) : Type 0 where
  pub block : List ℕ
  pub stands : StandsBlock Big octets order block rest
  pub begins : IsTrue (begins_section block)
  pub section : IsTrue (is_section order block)

abbrev pub IsFront : Form → List ℕ → List ℕ → Type 0
IsFront (Classic file) octets rest = IsHead octets file rest
IsFront (Blocks order) octets rest = StandsSection order octets rest

-- a file begins so, and then comes the rest; no interface is described yet
pub record IsStart (octets : List ℕ) (start : SoFar) (rest : List ℕ) : Type 0 where
  pub front : IsFront start.form octets rest
  pub none : start.interfaces ≡ []

-- taking the start leaves the rest; nothing is claimed of a reader whose octets aren't known
abbrev pub TakesStart : Option (List ℕ) → Option (List ℕ) → SoFar → Type 0
TakesStart None new start = ⊤
TakesStart (Some octets) None start = ⊥
TakesStart (Some octets) (Some rest) start = IsStart octets start rest

-- of private functions: taking a section header
abbrev pub TakesSection : Option (List ℕ) → Option (List ℕ) → Order → Type 0
TakesSection None new order = ⊤
TakesSection (Some octets) None order = ⊥
TakesSection (Some octets) (Some rest) order = StandsSection order octets rest

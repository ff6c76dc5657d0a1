-- The packets of a capture file: what stands in front of the octets that are left, and what the file says of it.
use Rattle.std.specs.Prelude.{◌≡◌, ℕ, suc, ◌+◌, ◌*◌, ◌/◌, ◌%◌, Bool, false, if◌then◌else◌, List, [], ◌∷◌, ◌++◌, Option, Some, None, ⊤}
use Rattle.capture.specs.declared.order.Order.{Order}
use Rattle.capture.specs.declared.file.FileHead.{FileHead}
use Rattle.capture.specs.declared.record.RecordHead.{RecordHead}
use Rattle.capture.specs.declared.head.PacketHead.{PacketHead}
use Rattle.capture.specs.declared.interface.Interface.{Interface}
use Rattle.capture.specs.declared.reading.Form.{Form}
use Rattle.capture.specs.declared.reading.Form.TheVariants.{Classic, Blocks}
use Rattle.capture.specs.Fields.{word}
use Rattle.capture.specs.Record.{IsRecord}
use Rattle.capture.specs.Block.{StandsBlock}
use Rattle.capture.specs.Blocks.{HoldsPacket, interfaces_after, is_packet}

-- What was read of a file so far: a classic file's header, or the byte order of a section of a pcapng file; and its interfaces.
pub record SoFar : Type 0 where
  pub form : Form
  pub interfaces : List Interface

-- the parts that a classic file counts in a second: nanoseconds or microseconds, by its magic number
abbrev pub ticks_in_second : Bool → ℕ
ticks_in_second nanoseconds = if nanoseconds then 1000000000 else 1000000

-- What a classic file says of a packet by the header of its record. A fraction of a second or more, which no writer gives, is
-- carried over.
abbrev pub head_of : FileHead → RecordHead → PacketHead
head_of file said = record {
  link = Some file.link;
  seconds = said.seconds + said.fraction / ticks_in_second file.nanoseconds;
  nanoseconds = (said.fraction % ticks_in_second file.nanoseconds) * (1000000000 / ticks_in_second file.nanoseconds);
  original = said.original;
}

-- a record of which a classic file says this, with these captured octets, stands in front of the octets, and then the rest
pub record StandsRecord (file : FileHead) (octets : List ℕ) (head : PacketHead) (captured rest : List ℕ) : Type 0 where
  pub said : RecordHead
  pub is_record : IsRecord file.order octets said captured rest
  pub head_is : head ≡ head_of file said

-- likewise a block of a pcapng file
pub record StandsPacket (order : Order) (interfaces : List Interface) (octets : List ℕ) (head : PacketHead) (captured rest : List ℕ) : Type 0 where
  pub own : Order
  pub block : List ℕ
  pub stands : StandsBlock order octets own block rest
  pub holds : HoldsPacket own interfaces block head captured

-- a packet stands first
abbrev pub IsFirst : Form → List Interface → List ℕ → PacketHead → List ℕ → List ℕ → Type 0
IsFirst (Classic file) interfaces octets head captured rest = StandsRecord file octets head captured rest
IsFirst (Blocks order) interfaces octets head captured rest = StandsPacket order interfaces octets head captured rest

-- a block without a packet stands first in a section, and after it so much was read
pub record StandsOther (order : Order) (interfaces : List Interface) (octets : List ℕ) (new : SoFar) (rest : List ℕ) : Type 0 where
  pub own : Order
  pub block : List ℕ
  pub stands : StandsBlock order octets own block rest
  pub other : is_packet (word own block 0) ≡ false
  pub form : new.form ≡ Blocks own
  pub after : interfaces_after own interfaces block ≡ Some new.interfaces

-- only a pcapng file has such
abbrev pub IsPassed : Form → List Interface → List ℕ → SoFar → List ℕ → Type 0
IsPassed (Classic file) interfaces octets new rest = ⊥
IsPassed (Blocks order) interfaces octets new rest = StandsOther order interfaces octets new rest

-- one block without a packet, and then others
pub record PassesOne (old : SoFar) (octets : List ℕ) (Others : SoFar → List ℕ → Type 0) : Type 0 where
  pub next : SoFar
  pub middle : List ℕ
  pub first : IsPassed old.form old.interfaces octets next middle
  pub others : Others next middle

-- so many blocks without a packet stand in front of the octets, one after the other, then the rest, where so much was read
abbrev pub Passes : ℕ → SoFar → List ℕ → SoFar → List ℕ → Type 0
Passes ℕ.zero new rest old octets = (old ≡ new) × (octets ≡ rest)
Passes (suc blocks) new rest old octets = PassesOne old octets (Passes blocks new rest)

-- a packet of which the file says this, with these captured octets, stands in front of the octets, behind blocks without one
pub record IsPacket (old : SoFar) (octets : List ℕ) (new : SoFar) (head : PacketHead) (captured rest : List ℕ) : Type 0 where
  pub blocks : ℕ
  pub middle : List ℕ
  pub passes : Passes blocks new middle old octets
  pub is_first : IsFirst new.form new.interfaces middle head captured rest

-- no packet stands in the octets, which are blocks without one
pub record HasNoPacket (old : SoFar) (octets : List ℕ) : Type 0 where
  pub blocks : ℕ
  pub new : SoFar
  pub passes : Passes blocks new [] old octets

-- taking the packet in front leaves the rest; nothing is claimed of a reader whose octets aren't known
abbrev pub TakesPacket : SoFar → Option (List ℕ) → SoFar → Option (List ℕ) → PacketHead → List ℕ → Type 0
TakesPacket old None new left head captured = ⊤
TakesPacket old (Some octets) new None head captured = ⊥
TakesPacket old (Some octets) new (Some rest) head captured = IsPacket old octets new head captured rest

-- likewise where none is left
abbrev pub TakesNoPacket : SoFar → Option (List ℕ) → Type 0
TakesNoPacket old None = ⊤
TakesNoPacket old (Some octets) = HasNoPacket old octets

-- The header of a classic pcap file.
use Rattle.std.specs.Prelude.{◌≡◌, ℕ, ◌%◌, ◌==◌, Bool, true, false, if◌then◌else◌, List, ◌++◌, length, Option, Some, None, ⊤}
use Rattle.capture.specs.declared.order.Order.{Order}
use Rattle.capture.specs.declared.order.Order.TheVariants.{Big, Little}
use Rattle.capture.specs.declared.file.FileHead.{FileHead}
use Rattle.capture.specs.Fields.{half, word}
use Rattle.capture.specs.Link.{link_of}

-- the byte order in which the first word is a magic number of pcap, and whether it is the one for nanoseconds
abbrev pub form_of : List ℕ → Option (Order × Bool)
form_of header =
    if word Big header 0 == 0xa1b2c3d4 then Some (Big, false)
    else if word Big header 0 == 0xa1b23c4d then Some (Big, true)
    else if word Little header 0 == 0xa1b2c3d4 then Some (Little, false)
    else if word Little header 0 == 0xa1b23c4d then Some (Little, true)
    else None

-- the header says this; the link type's upper bits are about check sequences behind the frames
pub record Says (header : List ℕ) (head : FileHead) : Type 0 where
  pub form : form_of header ≡ Some (head.order, head.nanoseconds)
  pub version : half head.order header 4 ≡ 2
  pub link_is : link_of (word head.order header 20 % 65536) ≡ Some head.link

-- the octets begin with a header of 24 octets that says this
pub record IsHead (octets : List ℕ) (head : FileHead) (rest : List ℕ) : Type 0 where
  pub header : List ℕ
  pub long : length header ≡ 24
  pub parts : octets ≡ header ++ rest
  pub says : Says header head

-- taking the header in front leaves the rest; nothing is claimed of a reader whose octets aren't known
abbrev pub TakesHead : Option (List ℕ) → Option (List ℕ) → FileHead → Type 0
TakesHead None new head = ⊤
TakesHead (Some octets) None head = ⊥
TakesHead (Some octets) (Some rest) head = IsHead octets head rest

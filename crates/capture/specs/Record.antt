-- The records of a classic pcap file: what stands in front of the octets that are left.
use Rattle.std.specs.Prelude.{◌≡◌, ℕ, List, ◌++◌, length, Option, Some, None, ⊤}
use Rattle.capture.specs.declared.order.Order.{Order}
use Rattle.capture.specs.declared.record.RecordHead.{RecordHead}
use Rattle.capture.specs.Fields.{word}

-- the longest record that is read, in octets
abbrev pub most_octets : ℕ
most_octets = 262144

-- A record is a header of four words of the file's byte order, then as many octets of the packet as the third word says, which
-- are the captured ones; the fourth says how long the packet was. The first two are the moment: seconds, and their fraction.
pub record IsRecord (order : Order) (octets : List ℕ) (head : RecordHead) (captured rest : List ℕ) : Type 0 where
  pub header : List ℕ
  pub long : length header ≡ 16
  pub parts : octets ≡ header ++ (captured ++ rest)
  pub seconds_is : head.seconds ≡ word order header 0
  pub fraction_is : head.fraction ≡ word order header 4
  pub captured_is : length captured ≡ word order header 8
  pub original_is : head.original ≡ word order header 12

-- taking the record in front leaves the rest; nothing is claimed of a reader whose octets aren't known
abbrev pub TakesRecord : Order → Option (List ℕ) → Option (List ℕ) → RecordHead → List ℕ → Type 0
TakesRecord order None new head captured = ⊤
TakesRecord order (Some octets) None head captured = ⊥
TakesRecord order (Some octets) (Some rest) head captured = IsRecord order octets head captured rest

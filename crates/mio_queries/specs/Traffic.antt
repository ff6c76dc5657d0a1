-- What a wire receives and sends, and how much of it is known.
use Rattle.std.specs.Prelude.{ℕ, List, ◌++◌, Option, Result, Ok, Err}
use Rattle.std.specs.Option.{option_map}
use Rattle.std.specs.Arc.{arc_value}
use Rattle.filter_slots.specs.Datagram.{DatagramFields}
use Rattle.node_core.specs.Counters.{plus}
use Rattle.mio_queries.specs.declared.traffic.Received.{Received}
use Rattle.mio_queries.specs.declared.traffic.Received.TheVariants as received
use Rattle.mio_queries.specs.declared.traffic.Sending.{Sending}
use Rattle.mio_queries.specs.declared.traffic.WireFault.{WireFault}
use Rattle.mio_queries.specs.declared.traffic.WireFault.TheVariants.{Io, NoMemory}

-- the result of receiving, with its time: a datagram came, or none did
pub data Receipt : Type 0 where
  came : (datagram : DatagramFields) (now : ℕ) → Receipt
  idled : (now : ℕ) → Receipt

-- what was received, by value
abbrev pub receipt_of : Received → Receipt
receipt_of (received.Datagram datagram now) = came (arc_value datagram) now
receipt_of (received.Idle now) = idled now

-- everything received and everything sent, in order, if the wire reports it; and the number of calls that failed
pub record Traffic : Type 0 where
  pub received : Option (List Receipt)
  pub sent : Option (List Sending)
  pub faults : ℕ

-- a reported list with more appended
abbrev pub grown : {A : Type 0} → Option (List A) → List A → Option (List A)
grown list more = option_map (λ xs. xs ++ more) list

-- the number of failures after a call: one more if the wire failed; an allocation failure is not counted
abbrev pub faults_after : {A : Type 0} → ℕ → Result A WireFault → ℕ
faults_after faults (Ok answer) = faults
faults_after faults (Err Io) = plus faults 1
faults_after faults (Err NoMemory) = faults

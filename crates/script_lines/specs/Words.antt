-- The words of a line: numbers, addresses, endpoints, networks, octets, programs, keys and keywords.
-- 32 is a space, 44 a comma, 46 a dot, 47 a slash, 58 a colon, 59 a semicolon.
use Rattle.std.specs.Prelude.{ℕ, ◌+◌, ◌-◌, ◌*◌, List, [], ◌∷◌, length, take, Bool, true, false, ◌&&◌, nat_le, nat_lt, Option, Some, None, option_map, codes, ◌==◌, if◌then◌else◌}
use Rattle.std.specs.Result.{result_ok}
use Rattle.std.specs.Char.{is_ascii_digit}
use Rattle.std.specs.List.{list_all, slice_split}
use Rattle.std.specs.Str.{bytes_eq}
use Rattle.hex.specs.Hex.{decode_of}
use Rattle.wire_octets.specs.Decimal.{is_numeral, value_after}
use Rattle.bpf_check.specs.declared.insn.Insn.{Insn}
use Rattle.node_terms.specs.declared.ends.End.{End}
use Rattle.node_terms.specs.declared.ends.Socket.{Socket}
use Rattle.node_terms.specs.declared.ends.Socket.TheVariants.{Icp, Htcp}
use Rattle.filter_slots.specs.declared.slot.Slot.{Slot}
use Rattle.filter_slots.specs.declared.slot.Slot.TheVariants as slots
use Rattle.neighbours.specs.declared.neighbour.Role.{Role}
use Rattle.neighbours.specs.declared.neighbour.Role.TheVariants.{Sibling, Parent}
use Rattle.node_terms.specs.declared.network.Network.{Network}
use Rattle.node_terms.specs.declared.mode.Mode.{Mode}
use Rattle.node_terms.specs.declared.mode.Mode.TheVariants.{Shared, Cached, Private}
use Rattle.object_store.specs.Object.{ObjectFields, object_of}

-- a decimal number of at most `most`
abbrev pub number : ℕ → List ℕ → Option ℕ
number most text = if is_numeral text && nat_le (value_after 0 text) most then Some (value_after 0 text) else None

-- a moment in milliseconds, at most 4,294,967,295,999
abbrev pub moment : List ℕ → Option ℕ
moment text = number 4294967295999 text

-- a client number, of 64 bits
abbrev pub client_number : List ℕ → Option ℕ
client_number text = number 18446744073709551615 text

-- the list of four values, if all are present
abbrev pub four : Option ℕ → Option ℕ → Option ℕ → Option ℕ → Option (List ℕ)
four (Some a) (Some b) (Some c) (Some d) = Some (a ∷ b ∷ c ∷ d ∷ [])
four _ _ _ _ = None

-- an address from exactly four parts
abbrev pub address_of : List (List ℕ) → Option (List ℕ)
address_of (a ∷ b ∷ c ∷ d ∷ []) = four (number 255 a) (number 255 b) (number 255 c) (number 255 d)
address_of _ = None

-- an address, such as `10.0.0.1`
abbrev pub address : List ℕ → Option (List ℕ)
address text = address_of (slice_split (λ c. c == 46) text)

-- the pair of two values, if both are present
abbrev pub both : Option (List ℕ) → Option ℕ → Option (List ℕ × ℕ)
both (Some addr) (Some n) = Some (addr, n)
both _ _ = None

-- an address and a number of at most `most`, from exactly two parts
abbrev pub address_and : ℕ → List (List ℕ) → Option (List ℕ × ℕ)
address_and most (a ∷ n ∷ []) = both (address a) (number most n)
address_and most _ = None

-- the endpoint with this address and port
abbrev pub end_with : List ℕ × ℕ → End
end_with p = record { addr = p.0; port = p.1 }

-- an endpoint, such as `10.0.0.1:3130`
abbrev pub end_at : List ℕ → Option End
end_at text = option_map end_with (address_and 65535 (slice_split (λ c. c == 58) text))

-- the network with this address and prefix length
abbrev pub network_with : List ℕ × ℕ → Network
network_with p = record { addr = p.0; prefix = p.1 }

-- a network, such as `10.0.0.0/8`
abbrev pub network : List ℕ → Option Network
network text = option_map network_with (address_and 32 (slice_split (λ c. c == 47) text))

-- the octets of a hexadecimal text; `-` is the empty sequence, and an empty text is malformed
abbrev pub octets : List ℕ → Option (List ℕ)
octets text =
    if length text == 0 then None
    else if bytes_eq text (codes "-") then Some []
    else result_ok (decode_of text)

-- the instruction with these four fields, if all are present
abbrev pub insn_with : Option ℕ → Option ℕ → Option ℕ → Option ℕ → Option Insn
insn_with (Some code) (Some jt) (Some jf) (Some k) = Some (record { code = code; jt = jt; jf = jf; k = k })
insn_with _ _ _ _ = None

-- an instruction from exactly four parts, each within the range of its field
abbrev pub insn_of : List (List ℕ) → Option Insn
insn_of (code ∷ jt ∷ jf ∷ k ∷ []) = insn_with (number 65535 code) (number 255 jt) (number 255 jf) (number 4294967295 k)
insn_of _ = None

-- an instruction, such as `21,0,1,1`
abbrev pub insn : List ℕ → Option Insn
insn text = insn_of (slice_split (λ c. c == 44) text)

-- the list with one more element at the front, if both are present
abbrev pub onto : Option Insn → Option (List Insn) → Option (List Insn)
onto (Some first) (Some rest) = Some (first ∷ rest)
onto _ _ = None

-- the instructions of all parts, if none is malformed
abbrev pub insns_of : List (List ℕ) → Option (List Insn)
insns_of [] = Some []
insns_of (part ∷ parts) = onto (insn part) (insns_of parts)

-- a program: instructions separated by semicolons
abbrev pub program : List ℕ → Option (List Insn)
program text = insns_of (slice_split (λ c. c == 59) text)

-- a for the word `first`, b for the word `second`
abbrev pub either : {T : Type 0} → List ℕ → List ℕ → T → List ℕ → T → Option T
either text first a second b = if bytes_eq text first then Some a else if bytes_eq text second then Some b else None

-- `on` or `off`
abbrev pub switch : List ℕ → Option Bool
switch text = either text (codes "on") true (codes "off") false

-- `icp` or `htcp`
abbrev pub socket : List ℕ → Option Socket
socket text = either text (codes "icp") Icp (codes "htcp") Htcp

-- the slot of a socket, if present
abbrev pub slot_of_socket : Option Socket → Option Slot
slot_of_socket None = None
slot_of_socket (Some by) = Some (slots.Socket by)

-- the slot of the neighbour with this index, if present
abbrev pub slot_of_neighbour : Option ℕ → Option Slot
slot_of_neighbour None = None
slot_of_neighbour (Some n) = Some (slots.Neighbour n)

-- `sibling` or `parent`
abbrev pub role : List ℕ → Option Role
role text = either text (codes "sibling") Sibling (codes "parent") Parent

-- `shared`, `cached` or `private`
abbrev pub mode : List ℕ → Option Mode
mode text =
    if bytes_eq text (codes "shared") then Some Shared
    else if bytes_eq text (codes "cached") then Some Cached
    else if bytes_eq text (codes "private") then Some Private
    else None

-- the name of a key; `-` stands for no key
abbrev pub name : List ℕ → Option (List ℕ)
name text = if bytes_eq text (codes "-") then None else Some text

-- visible ASCII
abbrev pub is_visible : ℕ → Bool
is_visible c = nat_le 33 c && nat_le c 126

-- a key of the store: at most 8,192 octets of visible ASCII, beginning with `http://`
abbrev pub key : List ℕ → Option (List ℕ)
key text =
    if nat_le (length text) 8192 && (bytes_eq (take 7 text) (codes "http://") && list_all is_visible text) then Some text else None

-- the number, if it is present and at least 100
abbrev pub from_hundred : Option ℕ → Option ℕ
from_hundred (Some n) = if nat_lt n 100 then None else Some n
from_hundred None = None

-- a status code, 100 to 999
abbrev pub status : List ℕ → Option ℕ
status text = from_hundred (number 999 text)

-- an object with an empty head, if all its parts are present
abbrev pub object_with : Option ℕ → Option ℕ → Option ℕ → Option (List ℕ) → Option ObjectFields
object_with (Some life) (Some age) (Some code) (Some body) = Some (object_of code [] body age life)
object_with _ _ _ _ = None

-- an object: its lifetime and age in seconds, its status and its body
abbrev pub object : List ℕ → List ℕ → List ℕ → List ℕ → Option ObjectFields
object life age code body = object_with (number 4294967295 life) (number 4294967295 age) (status code) (octets body)

-- Interface description blocks of a pcapng file: the link type, the most octets captured of a packet (0: all), and the options
-- if_tsresol (9) and if_tsoffset (14).
use Rattle.std.specs.Prelude.{ℕ, suc, ◌+◌, ◌-◌, ◌%◌, ◌==◌, ◌&&◌, not, nat_le, Bool, if◌then◌else◌, List, length, take, drop, slice_index}
use Rattle.byteorder.specs.Endian.{big_number, little_number}
use Rattle.capture.specs.declared.order.Order.{Order}
use Rattle.capture.specs.declared.order.Order.TheVariants.{Big, Little}
use Rattle.capture.specs.declared.interface.Interface.{Interface}
use Rattle.capture.specs.Fields.{half, word}
use Rattle.capture.specs.Link.{link_of}

-- the number that eight octets are
abbrev pub long : Order → List ℕ → ℕ
long Big octets = big_number 8 octets
long Little octets = little_number 8 octets

-- what an option says; one of another code or length says nothing here
abbrev pub with_option : Order → ℕ → List ℕ → Interface → Interface
with_option order code value interface =
    if (code == 9) && (length value == 1) then record interface { resolution = slice_index value 0 }
    else if (code == 14) && (length value == 8) then record interface { offset = long order value }
    else interface

-- the octets begin with a whole option that isn't the end of the options: code, length, value
abbrev pub has_option : Order → List ℕ → Bool
has_option order octets =
    nat_le 4 (length octets) && not (half order octets 0 == 0) && nat_le (4 + half order octets 2) (length octets)

-- the value of the option in front
abbrev pub value_of : Order → List ℕ → List ℕ
value_of order octets = take (half order octets 2) (drop 4 octets)

-- what follows it: it is padded to a multiple of four octets
abbrev pub behind_option : Order → List ℕ → List ℕ
behind_option order octets = drop (4 + half order octets 2 + (4 - half order octets 2 % 4) % 4) octets

-- what the options in the octets say, at most so many
unfoldable pub with_options : Order → ℕ → Interface → List ℕ → Interface
with_options order ℕ.zero interface octets = interface
with_options order (suc most) interface octets =
    if has_option order octets then
    with_options order most (with_option order (half order octets 0) (value_of order octets) interface) (behind_option order octets)
    else interface

-- what the block's fields say; moments are in microseconds where no option says otherwise
abbrev pub without_options : Order → List ℕ → Interface
without_options order block = record {
  link = link_of (half order block 8);
  snap = word order block 12;
  resolution = 6;
  offset = 0;
}

-- the octets of the options, which stand between the fields and the length at the end
abbrev pub options_in : List ℕ → List ℕ
options_in block = drop 16 (take (length block - 4) block)

-- what an interface description block says
abbrev pub interface_of : Order → List ℕ → Interface
interface_of order block =
    with_options order (length (options_in block)) (without_options order block) (options_in block)

-- The moment of a packet in a pcapng file, by what its interface says.
use Rattle.std.specs.Prelude.{ℕ, ◌+◌, ◌-◌, ◌*◌, ◌/◌, ◌%◌, ◌^◌, min, nat_lt, if◌then◌else◌, Option, Some, None}
use Rattle.capture.specs.declared.interface.Interface.{Interface}
use Rattle.capture.specs.declared.packet.Fields.{Fields}
use Rattle.capture.specs.declared.head.PacketHead.{PacketHead}

-- the parts of a second: a negative power of ten, or of two with the highest bit
abbrev pub parts_of_second : ℕ → ℕ
parts_of_second resolution = if nat_lt resolution 128 then 10 ^ resolution else 2 ^ (resolution - 128)

-- seconds with an offset of 64 bits in two's complement: none below 0, and at most 2^64 - 1
abbrev pub with_offset : ℕ → ℕ → ℕ
with_offset offset seconds =
    if nat_lt offset 0x8000000000000000 then min (seconds + offset) 0xffffffffffffffff
    else seconds - (0x10000000000000000 - offset)

abbrev pub seconds_of : Interface → Option ℕ → ℕ
seconds_of interface None = 0
seconds_of interface (Some stamp) = with_offset interface.offset (stamp / parts_of_second interface.resolution)

abbrev pub nanoseconds_of : Interface → Option ℕ → ℕ
nanoseconds_of interface None = 0
nanoseconds_of interface (Some stamp) =
    ((stamp % parts_of_second interface.resolution) * 1000000000) / parts_of_second interface.resolution

-- what the file says of a packet besides its octets; a simple packet block has no moment: its is 0
abbrev pub head_by : Interface → Fields → PacketHead
head_by interface fields = record {
  link = interface.link;
  seconds = seconds_of interface fields.stamp;
  nanoseconds = nanoseconds_of interface fields.stamp;
  original = fields.original;
}

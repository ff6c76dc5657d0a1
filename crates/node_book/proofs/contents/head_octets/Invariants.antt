use Rattle.std.proofs.Common.{◌≡◌, ◌+◌, ◌-◌, ◌^◌, length, min, sum_by, take}
use Rattle.node_book.proofs.contents.head_octets.Given as goal

-- the octets of the fields so far
abbrev pub invariant-loop-field : goal.invariant-loop-field
invariant-loop-field l = l.octets ≡ min (sum_by (λ field. length field.0.items + length field.1.items) (take l.field-index l.head)) (2 ^ 64 - 1)

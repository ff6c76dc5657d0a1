-- The blocks of a pcapng file (draft-ietf-opsawg-pcapng). Places are octets from the block's start.
use Rattle.std.specs.Prelude.{◌≡◌, ℕ, ◌-◌, ◌%◌, ◌==◌, ◌&&◌, nat_le, Bool, IsTrue, if◌then◌else◌, List, ◌++◌, length, Option, Some, None, ⊤}
use Rattle.capture.specs.declared.order.Order.{Order}
use Rattle.capture.specs.declared.order.Order.TheVariants.{Big, Little}
use Rattle.capture.specs.Fields.{word}

-- the type of a section header block, which is one number in both byte orders
abbrev pub begins_section : List ℕ → Bool
begins_section block = word Big block 0 == 0x0a0d0d0a

-- the byte order of a block behind blocks of an order: a section header says its section's by its magic number
abbrev pub order_of : Order → List ℕ → Option Order
order_of order block =
    if begins_section block then
    if word Big block 8 == 0x1a2b3c4d then Some Big
    else if word Little block 8 == 0x1a2b3c4d then Some Little
    else None
    else Some order

-- a block's length stands behind its type and at its end
abbrev pub is_block : Order → List ℕ → Bool
is_block order block =
    nat_le 12 (length block)
    && (length block % 4 == 0)
    && (word order block 4 == length block)
    && (word order block (length block - 4) == length block)

-- a block of the order `own` stands in front of the octets, behind blocks of the other order
pub record StandsBlock (order : Order) (octets : List ℕ) (own : Order) (block rest : List ℕ) : Type 0 where
  pub parts : octets ≡ block ++ rest
  pub own_is : order_of order block ≡ Some own
  pub whole : IsTrue (is_block own block)

-- taking the block in front leaves the rest; nothing is claimed of a reader whose octets aren't known
abbrev pub TakesBlock : Order → Option (List ℕ) → Option (List ℕ) → Order → List ℕ → Type 0
TakesBlock order None new own block = ⊤
TakesBlock order (Some octets) None own block = ⊥
TakesBlock order (Some octets) (Some rest) own block = StandsBlock order octets own block rest

-- what a reader had left before these octets were taken out of it
abbrev pub prepended : List ℕ → Option (List ℕ) → Option (List ℕ)
prepended front None = None
prepended front (Some octets) = Some (front ++ octets)

-- Receipts as plain data.
use Rattle.std.specs.Arc.{arc_value}
use Rattle.node_core.specs.Happening.{Happening, happening}
use Rattle.plain_node.specs.declared.tally.Tally.{Tally}
use Rattle.node_book.specs.declared.booked.Receipt.{Receipt}
use Rattle.node_book.specs.Seats.{Claim, claim}

abbrev pub claim_of : Receipt → Claim
claim_of receipt = claim receipt.number (happening (arc_value receipt.event)) receipt.tally

-- its event and tally, in the form of an entry of the book
abbrev pub said_of : Receipt → Happening × Tally
said_of receipt = (happening (arc_value receipt.event), receipt.tally)

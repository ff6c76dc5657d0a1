-- An entry of the book as plain data.
use Rattle.std.specs.Arc.{arc_value}
use Rattle.node_core.specs.Happening.{Happening, happening}
use Rattle.plain_node.specs.declared.tally.Tally.{Tally}
use Rattle.node_book.specs.declared.booked.Entry.{Entry}

abbrev pub entry_of : Entry → Happening × Tally
entry_of entry = (happening (arc_value entry.event), entry.tally)

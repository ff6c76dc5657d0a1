-- The book that the fields of a `Booked` represent.
use Rattle.std.specs.Prelude.{map}
use Rattle.node_book.specs.Entries.{entry_of}
use Rattle.node_book.specs.Book.{Book}
use Rattle.node_book.specs.declared.booked.Booked.TheInside.{Inside}

abbrev pub book_of : Inside → Book
book_of b = record { first = b.first; opening = b.opening; entries = map entry_of b.kept.items; base = b.base; present = b.present; volume = b.volume; octets = b.most_octets }

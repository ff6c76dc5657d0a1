-- How large a book and the store of its node are, as it is shown.
use Rattle.std.specs.Prelude.{◌≡◌, length}
use Rattle.object_store.specs.Pairs.{total_size}
use Rattle.node_book.specs.Book.{Book, count_of}
use Rattle.node_words.specs.declared.views.Sizes.{Sizes}

-- the numbers of a book: events in all volumes and before the present one, and the stored objects of its node with their octets
-- (nothing is said of how many objects had to make room)
pub record AreSizes (b : Book) (sizes : Sizes) : Type 0 where
  pub events : sizes.events ≡ count_of b
  pub base : sizes.base ≡ b.base
  pub objects : sizes.objects ≡ length b.present.plain.store.pairs
  pub octets : sizes.octets ≡ total_size b.present.plain.store.pairs

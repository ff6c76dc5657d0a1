-- The state of a store after a loan of one of its entries has ended.
use Rattle.std.specs.Prelude.{◌≡◌, ⊤}
use Rattle.std.specs.Borrow.{Fml, MutBor, follows_so}
use mathlib.Core.Option.{none}
use Rattle.object_store.specs.Store.{StoreState}
use Rattle.object_store.specs.contracts.store.Store.{the_row}

-- the store ends in this state
abbrev pub ends_as : MutBor StoreState → StoreState → Fml
ends_as store after = follows_so the_row the_row store.ghost_name none (λ _ _. ⊤) (λ ended. ended ≡ after)

-- The octets of an object's body, however they are held.
use Rattle.std.specs.Prelude.{ℕ, List}
use Rattle.object_store.specs.declared.object.Body.{Body}
use Rattle.object_store.specs.declared.object.Body.TheVariants.{Own, Shared}

abbrev pub body_octets : Body → List ℕ
body_octets (Own octets) = octets.items
body_octets (Shared octets) = octets

-- Which answers with status 304 confirm a stored object (RFC 9111, section 4.3.4), and what there is to show for it.
use Rattle.std.specs.Prelude.{◌≡◌, ℕ, List, ◌==◌, ◌&&◌, true, Option, Some, None, if◌then◌else◌}
use Rattle.object_store.specs.Object.{ObjectFields}
use Rattle.http_rules.specs.Fields.{Field}
use Rattle.http_rules.specs.Validation.{is_about}

-- a stored object, and the fields of a 304 that is about it
pub record Confirmation : Type 0 where
  pub given : List Field
  pub object : ObjectFields

-- what an answer with this status and these fields confirms, to a request with the validators of this object
abbrev pub confirmation_of : ℕ → List Field → ObjectFields → Option Confirmation
confirmation_of status given object =
    if status == 304 && is_about given object.head then Some (record { given = given; object = object }) else None

-- the 304 is about the object
abbrev pub IsConfirmed : Confirmation → Type 0
IsConfirmed c = is_about c.given c.object.head ≡ true

-- The fields that the fetches for all clients send.
use Rattle.std.specs.Prelude.{ℕ, ◌≡◌, ◌≤◌, List, [], ◌∷◌, All, map, length, codes, bytes_eq, nat_eq, nat_le, ◌&&◌, ◌||◌, not, Bool, true, Some, MatchOption, String}
use Rattle.std.specs.List.{list_all, list_any, starts_with, ends_with}
use Rattle.std.specs.String.{string_bytes}
use Rattle.std.specs.declared.alloc.Global.{Global}
use Rattle.serde_json.specs.Data.{Data, string}
use Rattle.serde_json.specs.Find.{as_object, get}
use Rattle.serde_json.specs.View.{members_of}
use Rattle.serve_config.specs.declared.shared_fields.SharedField.{SharedField}

-- whether a field with this name may be set: User-Agent, Accept, Accept-Language and From
unfoldable pub is_field_name : List ℕ → Bool
is_field_name name =
    list_any (bytes_eq name) (codes "user-agent" ∷ codes "accept" ∷ codes "accept-language" ∷ codes "from" ∷ [])

-- a blank or visible ASCII
abbrev pub is_text_octet : ℕ → Bool
is_text_octet octet = nat_le 32 octet && nat_le octet 126

-- 1 to 255 of them
abbrev pub is_short_text : List ℕ → Bool
is_short_text text = nat_le 1 (length text) && nat_le (length text) 255 && list_all is_text_octet text

-- a text with a blank at one end
abbrev pub is_padded : List ℕ → Bool
is_padded text = starts_with nat_eq text (codes " ") || ends_with nat_eq text (codes " ")

-- the value of such a field
unfoldable pub is_field_value : List ℕ → Bool
is_field_value text = is_short_text text && not (is_padded text)

-- a field of an accepted configuration
pub record IsSharedField (field : SharedField) : Type 0 where
  pub name : is_field_name (string_bytes field.name) ≡ true
  pub value : is_field_value (string_bytes field.value) ≡ true

-- the key and the value that name it
abbrev pub field_member : SharedField → String Global × Data
field_member field = (field.name, string (string_bytes field.value))

-- the fields of a configuration: those of its object, in that order, at most 16; none without the key
pub record AreSharedFields (settings : Data) (fields : List SharedField) : Type 0 where
  pub said : MatchOption (get (codes "shared_fields") settings) (fields ≡ [])
      (λ value. as_object value ≡ Some (members_of (map field_member fields)))
  pub most : length fields ≤ 16
  pub each : All IsSharedField fields

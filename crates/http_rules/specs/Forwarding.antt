-- Which fields are hop-by-hop and not forwarded: Connection, the fields that it names, and the other known hop-by-hop fields
-- (RFC 9110, section 7.6.1), among them those that authenticate to one proxy (RFC 9110, section 11.7). CDN-Loop stays though Connection
-- names it: whoever sends requests in a circle could else take off the marks that show it (RFC 8586, section 2).
-- 44 is a comma.
use Rattle.std.specs.Prelude.{ℕ, List, [], ◌∷◌, codes, bytes_eq, filter, flat_map, map, length, not, ◌==◌, ◌&&◌, ◌||◌, Bool}
use Rattle.std.specs.List.{list_any, slice_split}
use Rattle.http_header.specs.Token.{lowercase}
use Rattle.http_rules.specs.Fields.{Field, values_of}
use Rattle.http_rules.specs.Text.{trimmed}

-- the names of fields that are never forwarded
abbrev pub always_removed : List (List ℕ)
always_removed =
    codes "connection" ∷ codes "keep-alive" ∷ codes "proxy-authenticate" ∷ codes "proxy-authentication-info"
    ∷ codes "proxy-authorization" ∷ codes "proxy-connection" ∷ codes "te" ∷ codes "trailer" ∷ codes "transfer-encoding"
    ∷ codes "upgrade" ∷ []

-- a list element in lower case, without surrounding white space
abbrev pub option_of : List ℕ → List ℕ
option_of part = lowercase (trimmed part)

-- the options of one Connection value: its list elements, of which empty ones do not count (RFC 9110, section 5.6.1.2)
abbrev pub options_in : List ℕ → List (List ℕ)
options_in value = filter (λ option. not (length option == 0)) (map option_of (slice_split (λ c. c == 44) value))

-- the options of all Connection fields of a head
abbrev pub options : List Field → List (List ℕ)
options fields = flat_map options_in (values_of (codes "connection") fields)

-- whether the Connection fields take fields with this name off
abbrev pub is_taken_off : List Field → List ℕ → Bool
is_taken_off fields name = not (bytes_eq name (codes "cdn-loop")) && list_any (bytes_eq name) (options fields)

-- whether fields with this name are not forwarded
abbrev pub is_hop_by_hop : List Field → List ℕ → Bool
is_hop_by_hop fields name = list_any (bytes_eq name) always_removed || is_taken_off fields name

-- the fields that are forwarded
abbrev pub end_to_end : List Field → List Field
end_to_end fields = filter (λ f. not (is_hop_by_hop fields f.0)) fields

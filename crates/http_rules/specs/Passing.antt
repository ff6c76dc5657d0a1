-- What a request that is passed on takes along.
use Rattle.std.specs.Prelude.{ℕ, ◌-◌, ◌≡◌, List, [], ◌∷◌, codes, bytes_eq, drop, filter, length, map, nat_le, not, take, ◌==◌, ◌&&◌, ◌||◌, Bool, true, false, Option, Some, None, option_map, unwrap_or, if◌then◌else◌}
use Rattle.std.specs.Fmt.{decimal}
use Rattle.std.specs.List.{list_any}
use Rattle.http_header.specs.Token.{lowercase}
use Rattle.http_rules.specs.declared.forwarding.Onward.{Onward}
use Rattle.http_rules.specs.declared.forwarding.Onward.TheVariants.{Pass, Last}
use Rattle.http_rules.specs.Fields.{Field, values_of}
use Rattle.http_rules.specs.Forwarding.{end_to_end}
use Rattle.http_rules.specs.Text.{seconds}

-- the methods that are known to be safe (RFC 9110, section 9.2.1)
abbrev pub safe_methods : List (List ℕ)
safe_methods = codes "GET" ∷ codes "HEAD" ∷ codes "OPTIONS" ∷ codes "TRACE" ∷ []

-- all others, also those that are not known
abbrev pub is_unsafe : List ℕ → Bool
is_unsafe method = not (list_any (bytes_eq method) safe_methods)

-- whether a target is an `http` URL with nothing behind its host and port
abbrev pub has_no_path : List ℕ → Bool
has_no_path target =
    nat_le 7 (length target)
    && (bytes_eq (lowercase (take 7 target)) (codes "http://") && not (list_any (λ c. c == 47 || c == 63) (drop 7 target)))

-- the methods whose requests a proxy may be the last recipient of (RFC 9110, section 7.6.2), without TRACE, which is not passed on
abbrev pub is_counted : List ℕ → Bool
is_counted method = bytes_eq method (codes "OPTIONS")

-- whether a request is about its server as a whole, and so reaches it with the target `*` (RFC 9112, section 3.2.4): OPTIONS for an
-- absolute URL with an empty path and no query. 47 is a slash, 63 a question mark
abbrev pub is_for_server : List ℕ → List ℕ → Bool
is_for_server method target = bytes_eq method (codes "OPTIONS") && has_no_path target

-- the hops that a Max-Forwards value still has, at most 2,147,483,648; none if it is no number
abbrev pub hops : List ℕ → Option ℕ
hops value = seconds value

-- a value of one hop less
abbrev pub less_one : List ℕ → List ℕ
less_one value = unwrap_or (option_map (λ n. decimal (n - 1)) (hops value)) value

-- whether a Max-Forwards field is 0
abbrev pub is_zero : Option ℕ → Bool
is_zero None = false
is_zero (Some n) = n == 0

abbrev pub has_no_hops : List Field → Bool
has_no_hops fields = list_any (λ value. is_zero (hops value)) (values_of (codes "max-forwards") fields)

-- the fields that do not go on as they came: framing and host are those of the next connection. Expect ends here: this proxy asks for
-- the content itself, as it begins to read it. An exception to section 10.1.1, by which a proxy does so only for a next server that
-- speaks HTTP/1.0: so the client sends its content whatever the server says to the head
abbrev pub is_made_anew : List ℕ → Bool
is_made_anew name = list_any (bytes_eq name) (codes "host" ∷ codes "expect" ∷ codes "content-length" ∷ [])

-- the value that a field is forwarded with: Max-Forwards less one where it counts (RFC 9110, section 7.6.2), others as they are
abbrev pub onward_value : Bool → List ℕ → List ℕ → List ℕ
onward_value counted name value = if counted && bytes_eq name (codes "max-forwards") then less_one value else value

-- what is forwarded of these fields
abbrev pub onward_fields : Bool → List Field → List Field
onward_fields counted fields =
    map (λ f. (f.0, onward_value counted f.0 f.1)) (filter (λ f. not (is_made_anew f.0)) fields)

-- what becomes of a request: this proxy is its last recipient just where Max-Forwards counts and is 0, and otherwise what is
-- forwarded are the end-to-end fields that are not made anew
abbrev pub GoesOnward : List ℕ → List Field → Onward → Type 0
GoesOnward method fields Last = (is_counted method && has_no_hops fields) ≡ true
GoesOnward method fields (Pass kept) =
    ((is_counted method && has_no_hops fields) ≡ false)
    × (map (λ f. (f.0.items, f.1.items)) kept.items ≡ onward_fields (is_counted method) (end_to_end fields))

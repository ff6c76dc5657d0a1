-- What a response to a request that is not safe makes stale (RFC 9111, section 4.4).
use Rattle.std.specs.Prelude.{ℕ, List, [], ◌++◌, codes, bytes_eq, length, nat_eq, nat_le, ◌&&◌, Bool, Option, Some, None, option_and_then, option_map, option_to_list, if◌then◌else◌}
use Rattle.std.specs.Option.{option_eq, option_or}
use Rattle.std.specs.Result.{result_ok}
use Rattle.std.specs.Str.{is_utf8}
use Rattle.url.specs.Host.{host_text}
use Rattle.url.specs.Parts.{Parts, nonempty_host}
use Rattle.url.specs.Parser.{parse_url}
use Rattle.url.specs.Scheme.{default_port}
use Rattle.http_rules.specs.Fields.{Field, first_value}
use Rattle.http_rules.specs.Passing.{is_unsafe}
use Rattle.http_rules.specs.Targets.{is_plain, text_of}

-- a response that is no error, to a request that is not safe
abbrev pub is_change : List ℕ → ℕ → Bool
is_change method status = is_unsafe method && (nat_le 200 status && nat_le status 399)

-- the text that octets are
abbrev pub text_in : List ℕ → Option (List ℕ)
text_in octets = if is_utf8 octets then Some octets else None

-- the URL that octets are, or that they refer to from a base
abbrev pub url_of : Option Parts → List ℕ → Option Parts
url_of base octets = option_and_then (λ text. result_ok (parse_url base text)) (text_in octets)

-- whether two URLs have the same scheme, host and port, which is the scheme's own where they name none (RFC 9110, section 4.3.1)
abbrev pub is_same_origin : Parts → Parts → Bool
is_same_origin a b =
    bytes_eq a.scheme b.scheme
    && (option_eq bytes_eq (option_map host_text (nonempty_host a)) (option_map host_text (nonempty_host b))
    && option_eq nat_eq (option_or a.port (default_port a.scheme)) (option_or b.port (default_port b.scheme)))

-- the key of a URL
abbrev pub short_key : Parts → Option (List ℕ)
short_key url = if is_plain url && nat_le (length (text_of url)) 8192 then Some (text_of url) else None

-- the same where it is of the same origin as another URL
abbrev pub key_within : Parts → Parts → Option (List ℕ)
key_within base url = if is_same_origin base url then short_key url else None

-- the key that a reference from a URL has, if it is of the same origin
abbrev pub key_beside : List ℕ → Parts → Option (List ℕ)
key_beside reference base = option_and_then (key_within base) (url_of (Some base) reference)

-- the key that the first field with this name refers to from a key, if it is of the same origin
abbrev pub named_key : List ℕ → List ℕ → List Field → Option (List ℕ)
named_key key name fields =
    option_and_then (λ reference. option_and_then (key_beside reference) (url_of None key)) (first_value name fields)

-- what Location and Content-Location name of the same origin
abbrev pub named_keys : List ℕ → List Field → List (List ℕ)
named_keys key fields =
    option_to_list (named_key key (codes "location") fields)
    ++ option_to_list (named_key key (codes "content-location") fields)

-- what becomes stale beside what was asked for, which does where there is a change
abbrev pub other_keys : List ℕ → List ℕ → ℕ → List Field → List (List ℕ)
other_keys key method status fields = if is_change method status then named_keys key fields else []

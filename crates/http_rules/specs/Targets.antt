-- The cache key of a request target: the text of an `http` URL without its fragment.
use Rattle.std.specs.Prelude.{◌≡◌, ◌⊎◌, ℕ, ◌<◌, ◌≤◌, List, codes, length, bytes_eq, nat_le, not, Bool, true, ◌&&◌, Option, Some, None, IsSomeAnd, option_and_then, if◌then◌else◌}
use Rattle.std.specs.List.{list_all}
use Rattle.std.specs.Result.{result_ok}
use Rattle.url.specs.Parts.{Parts, has_host, has_credentials, serialize}
use Rattle.url.specs.Parser.{parse_url}
use Rattle.http_rules.specs.declared.target.TargetFault.{TargetFault}
use Rattle.http_rules.specs.declared.target.TargetFault.TheVariants.{NotHttp, TooLong, NoMemory}

-- the text of a URL without its fragment
abbrev pub text_of : Parts → List ℕ
text_of url = serialize (record url { fragment = None })

-- visible ASCII
abbrev pub is_visible : ℕ → Bool
is_visible octet = nat_le 0x21 octet && nat_le octet 0x7e

-- whether a URL is a valid key, apart from its length: scheme `http`, a host, no user or password, all visible ASCII
abbrev pub is_plain : Parts → Bool
is_plain url =
    bytes_eq url.scheme (codes "http")
    && (has_host url && (not (has_credentials url) && list_all is_visible (text_of url)))

-- the key of a URL, of any length
abbrev pub url_key : Parts → Option (List ℕ)
url_key url = if is_plain url then Some (text_of url) else None

-- the key of a target, of any length
abbrev pub target_key : List ℕ → Option (List ℕ)
target_key target = option_and_then url_key (result_ok (parse_url None target))

-- why a URL has no key: it is not a valid one, its text is too long, or memory ran out
abbrev pub IsFaultOf : Parts → TargetFault → Type 0
IsFaultOf url NotHttp = url_key url ≡ None
IsFaultOf url TooLong = (is_plain url ≡ true) × (8192 < length (text_of url))
IsFaultOf url NoMemory = (is_plain url ≡ true) × (length (text_of url) ≤ 8192)

-- a valid key but for its length
abbrev pub IsLongKey : Parts → Type 0
IsLongKey url = (is_plain url ≡ true) × (8192 < length (text_of url))

-- a target is too long: its URL has a text of more than 8,192 octets, or it has so many itself
abbrev pub IsTooLong : List ℕ → Type 0
IsTooLong target = (8192 < length target) ⊎ IsSomeAnd (result_ok (parse_url None target)) IsLongKey

-- The URLs that requests in origin form (RFC 9112, section 3.2.1) stand for.
use Rattle.std.specs.Prelude.{ℕ, List, ◌++◌, drop, find, length, nat_eq, Bool, Option, option_map}
use Rattle.std.specs.List.{starts_with}
use Rattle.std.specs.String.{string_bytes}
use Rattle.http_rules.specs.declared.mirrors.Mirror.{Mirror}

-- whether a target begins with a mirror's path
abbrev pub is_below : List ℕ → Mirror → Bool
is_below target mirror = starts_with nat_eq target (string_bytes mirror.path)

-- the URL of a target at a mirror: the mirror's URL, and behind it what the target has behind the mirror's path
abbrev pub url_at : List ℕ → Mirror → List ℕ
url_at target mirror = string_bytes mirror.url ++ drop (length (string_bytes mirror.path)) target

-- the URL that a target stands for: at the first of the mirrors whose path it begins with
abbrev pub mirrored : List Mirror → List ℕ → Option (List ℕ)
mirrored mirrors target = option_map (url_at target) (find (is_below target) mirrors)

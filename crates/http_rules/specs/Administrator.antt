-- Which requests to the administration are the administrator's. Whoever is on the same host connects over loopback, and so do a proxy
-- that fetches for a client and a browser that shows a page from elsewhere. They are told apart by the fields Host, Via and Origin.
-- 47 is a slash, 58 a colon. The names 127.0.0.1 and localhost and the front http:// have 9, 9 and 7 octets.
use Rattle.std.specs.Prelude.{ℕ, List, [], ◌∷◌, codes, decimal, bytes_eq, take, drop, length, not, ◌==◌, ◌&&◌, ◌||◌, Bool, true, false}
use Rattle.std.specs.List.{list_all}
use Rattle.http_header.specs.Token.{lowercase}
use Rattle.http_rules.specs.Fields.{Field, values_of, has_field}

-- 127.0.0.1, or localhost in any case
abbrev pub is_loopback_name : List ℕ → Bool
is_loopback_name name =
    bytes_eq (lowercase name) (codes "127.0.0.1") || bytes_eq (lowercase name) (codes "localhost")

-- what follows the name: a colon and the port in decimal, or nothing if the port is 80
abbrev pub is_port_part : ℕ → List ℕ → Bool
is_port_part port text = bytes_eq text (58 ∷ decimal port) || (length text == 0 && port == 80)

-- the host and port of the administration
abbrev pub is_own_host : ℕ → List ℕ → Bool
is_own_host port text = is_loopback_name (take 9 text) && is_port_part port (drop 9 text)

-- the origin of a page that the administration itself would have served
abbrev pub is_own_origin : ℕ → List ℕ → Bool
is_own_origin port text = bytes_eq (take 7 text) (codes "http://") && is_own_host port (drop 7 text)

-- nothing, or a path
abbrev pub is_path : List ℕ → Bool
is_path [] = true
is_path (c ∷ cs) = c == 47

-- a host, then nothing or a path
abbrev pub begins_with_host : List ℕ → List ℕ → Bool
begins_with_host host text = bytes_eq (take (length host) text) host && is_path (drop (length host) text)

-- a target that is no URL, or is one of this host
abbrev pub is_of_host : List ℕ → List ℕ → Bool
is_of_host host target =
    not (bytes_eq (take 7 target) (codes "http://")) || begins_with_host host (drop 7 target)

-- whether there is exactly one Host, which is the administration's, and the target names no other one
abbrev pub names_own_host : ℕ → List ℕ → List (List ℕ) → Bool
names_own_host port target [] = false
names_own_host port target (host ∷ []) = is_own_host port host && is_of_host host target
names_own_host port target (host ∷ (other ∷ hosts)) = false

-- whether a request is the administrator's: it names the administration as its host, comes through no proxy, and from no page of
-- elsewhere
abbrev pub is_administrator : ℕ → List ℕ → List Field → Bool
is_administrator port target fields =
    names_own_host port target (values_of (codes "host") fields)
    && (not (has_field (codes "via") fields)
    && list_all (is_own_origin port) (values_of (codes "origin") fields))

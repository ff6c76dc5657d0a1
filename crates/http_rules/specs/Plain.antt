-- Requests without any field that decides how they are answered.
use Rattle.std.specs.Prelude.{ℕ, List, [], ◌∷◌, codes, bytes_eq, not, Bool}
use Rattle.std.specs.List.{list_any, list_all}
use Rattle.http_rules.specs.Fields.{Field, has_field}

-- the names of those fields, which are all that the mode of a request (`mode_of`, and `chosen` with nothing stored), the answer from a
-- stored object (`answer_to`) and the look for a request that came back (`has_come_back`) depend on: credentials, what a request says to
-- caches, ranges and conditions, and the marks of caches on its way
abbrev pub deciding_names : List (List ℕ)
deciding_names =
    codes "authorization" ∷ codes "cookie" ∷ codes "cache-control" ∷ codes "pragma" ∷ codes "range" ∷ codes "if-match"
    ∷ codes "if-none-match" ∷ codes "if-modified-since" ∷ codes "if-unmodified-since" ∷ codes "if-range" ∷ codes "cdn-loop" ∷ []

-- whether a request has none of them
abbrev pub is_plain_request : List Field → Bool
is_plain_request fields = list_all (λ name. not (has_field name fields)) deciding_names

-- whether a name is one of them, as the code asks for each name in turn
abbrev pub decides : List ℕ → Bool
decides name = list_any (bytes_eq name) deciding_names

-- How a request may be answered, from its method and header fields.
use Rattle.std.specs.Prelude.{ℕ, List, codes, bytes_eq, not, ◌&&◌, ◌||◌, Bool, Result, Ok, Err, if◌then◌else◌}
use Rattle.node_terms.specs.declared.mode.Mode.{Mode}
use Rattle.node_terms.specs.declared.mode.Mode.TheVariants.{Shared, Cached, Private}
use Rattle.http_rules.specs.Fields.{Field, has_field}
use Rattle.http_rules.specs.Directives.{asks, has_unclosed}

-- whether a request has no-cache, or may have it behind an unclosed double quote
abbrev pub may_ask_no_cache : List Field → Bool
may_ask_no_cache fields = asks (codes "no-cache") fields || has_unclosed fields

-- requests that are neither answered from the shared store nor stored there
abbrev pub is_private : List Field → Bool
is_private fields =
    has_field (codes "authorization") fields || has_field (codes "cookie") fields
    || has_field (codes "range") fields || asks (codes "no-store") fields || may_ask_no_cache fields

-- how a request is answered, or the status code of its refusal; the first case that applies counts
abbrev pub mode_of : List ℕ → List Field → Result Mode ℕ
mode_of method fields =
    if not (bytes_eq method (codes "GET")) then Err 501
    else if asks (codes "only-if-cached") fields && may_ask_no_cache fields then Err 504
    else if asks (codes "only-if-cached") fields then Ok Cached
    else if is_private fields then Ok Private
    else Ok Shared

-- Whether the answer to a request is another client's.
use Rattle.std.specs.Prelude.{ℕ, Bool, true, false, Option, Some, None}
use Rattle.http_traffic.specs.declared.asking.Forward.{Forward}
use Rattle.http_traffic.specs.declared.asking.Forward.TheVariants.{Collapsed}
use Rattle.http_traffic.specs.declared.asking.Outcome.{Outcome}
use Rattle.http_traffic.specs.declared.asking.Outcome.TheVariants.{Got}
use Rattle.http_traffic.specs.declared.asking.Supplier.{Supplier}
use Rattle.http_traffic.specs.declared.asking.Supplier.TheVariants.{Stale}
use Rattle.http_rules.specs.Sharing.{is_only_for_who_began}

-- whether the request joined the fetch of another one
abbrev pub is_joined : Forward → Bool
is_joined Collapsed = true
is_joined forward = false

-- whether an object was there before, and is stale
abbrev pub is_stale : Option Supplier → Bool
is_stale (Some (Stale age)) = true
is_stale supplier = false

-- whether the answer to a request that was forwarded so is for another client alone
abbrev pub is_for_another : Forward → Outcome → Bool
is_for_another forward (Got object supplier is_stored) = is_only_for_who_began (is_joined forward) object.life (is_stale supplier)
is_for_another forward outcome = false

-- Which servers were judged before they are connected to.
use Rattle.std.specs.Prelude.{◌≡◌, Bool, List, Option, IfSome}
use Rattle.std.specs.List.{AllByRecursion, AllZip}
use Rattle.std.specs.declared.net.socket_addr.SocketAddr.{SocketAddr}
use Rattle.origin_rules.specs.declared.admitted.Admitted.{Admitted}

-- what became of a server that was judged: where it is admitted, it is this one, and rules have judged it if they are to
abbrev pub IsJudged : Bool → SocketAddr → Option Admitted → Type 0
IsJudged by_rules server one = IfSome one (λ it. (it.server ≡ server) × (it.is_judged ≡ by_rules))

-- these servers were judged, one by one
abbrev pub AreJudged : Bool → List SocketAddr → List (Option Admitted) → Type 0
AreJudged by_rules servers judged = AllZip (IsJudged by_rules) servers judged

-- rules have judged all of these, if they are to
abbrev pub AllJudged : Bool → List Admitted → Type 0
AllJudged by_rules list = AllByRecursion (λ it. it.is_judged ≡ by_rules) list

-- the same, by who judges them, if there is somebody
abbrev pub JudgedBy : {J : Type 0} → (J → Bool) → Option J → List Admitted → Type 0
JudgedBy judges judge list = IfSome judge (λ it. AllJudged (judges it) list)

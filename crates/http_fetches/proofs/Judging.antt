-- Servers that were judged by somebody.
use Rattle.std.proofs.Common.{Bool, List, Option, Some, None}
use Rattle.origin_rules.specs.declared.admitted.Admitted.{Admitted}
use Rattle.http_traffic.specs.Judged.{AllJudged, JudgedBy}

-- what leaves servers judged leaves them so by whoever judged them
pub still_judged : {J : Type 0} (judges : J → Bool) (judge : Option J) (old new : List Admitted) → ((by_rules : Bool) → AllJudged by_rules old → AllJudged by_rules new) → JudgedBy judges judge old
    → JudgedBy judges judge new
still_judged judges None old new keeps h = tt
still_judged judges (Some it) old new keeps h = keeps (judges it) h

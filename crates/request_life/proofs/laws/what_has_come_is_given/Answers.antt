use Rattle.request_life.proofs.Served.{stale_is_given, declined_is_stale, hit_is_given, fetched_is_given, early_is_given, failure_is_given, passed_is_given, tunnel_is_given}
use Rattle.request_life.proofs.laws.what_has_come_is_given.Goals as goal

pub returns-clause-hit : goal.returns-clause-hit
returns-clause-hit c = hit_is_given

pub returns-clause-fetched : goal.returns-clause-fetched
returns-clause-fetched c = fetched_is_given

pub returns-clause-early : goal.returns-clause-early
returns-clause-early c = early_is_given

pub returns-clause-failed : goal.returns-clause-failed
returns-clause-failed c = failure_is_given

pub returns-clause-passed : goal.returns-clause-passed
returns-clause-passed c = passed_is_given

pub returns-clause-tunnel : goal.returns-clause-tunnel
returns-clause-tunnel c = tunnel_is_given

pub returns-clause-stale : goal.returns-clause-stale
returns-clause-stale c = stale_is_given

pub returns-clause-declined : goal.returns-clause-declined
returns-clause-declined c = declined_is_stale

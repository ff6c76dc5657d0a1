use Rattle.std.proofs.Common.{ℕ, List, ◌<◌, length, codes, arith, rules}
use Rattle.http_header.specs.Token.{lowercase}
use Rattle.http_rules.proofs.Found.{flag_step, seconds_step, loose_step, flag_kept, seconds_kept, loose_kept}
use Rattle.http_rules.proofs.Lengths.{shorter, shorter_front}
use Rattle.http_rules.proofs.directives.Directives.and_element.Goals as goal

pub returns-then-name-lt-SHORTEST_NAME : goal.returns-then-name-lt-SHORTEST_NAME
returns-then-name-lt-SHORTEST_NAME c = λ rest whole h.
    let name : List ℕ = c.split_directive.result.0.now in
    let d : List ℕ × List ℕ = (lowercase name, c.split_directive.result.1.now) in
    let k = rw c.split_directive.ensures at h in
    let less : length name < 7 = search rules in
    record {
      only_if_cached = flag_kept (codes "only-if-cached") d rest whole c.args.self.only_if_cached k.only_if_cached (shorter name (codes "only-if-cached") less (omega arith));
      no_cache = flag_kept (codes "no-cache") d rest whole c.args.self.no_cache k.no_cache (shorter name (codes "no-cache") less (omega arith));
      no_store = flag_kept (codes "no-store") d rest whole c.args.self.no_store k.no_store (shorter name (codes "no-store") less (omega arith));
      private = flag_kept (codes "private") d rest whole c.args.self.private k.private (shorter name (codes "private") less (omega arith));
      loose_no_cache = loose_kept (codes "no-cache") d rest whole c.args.self.loose_no_cache k.loose_no_cache (shorter_front name (codes "no-cache") less (omega arith));
      loose_no_store = loose_kept (codes "no-store") d rest whole c.args.self.loose_no_store k.loose_no_store (shorter_front name (codes "no-store") less (omega arith));
      s_maxage = seconds_kept (codes "s-maxage") d rest whole c.args.self.s_maxage k.s_maxage (shorter name (codes "s-maxage") less (omega arith));
      max_age = seconds_kept (codes "max-age") d rest whole c.args.self.max_age k.max_age (shorter name (codes "max-age") less (omega arith));
      min_fresh = seconds_kept (codes "min-fresh") d rest whole c.args.self.min_fresh k.min_fresh (shorter name (codes "min-fresh") less (omega arith));
    }

pub returns : goal.returns
returns c = λ rest whole h.
    let d : List ℕ × List ℕ = (lowercase c.split_directive.result.0.now, c.split_directive.result.1.now) in
    let k = rw c.split_directive.ensures at h in
    record {
      only_if_cached = flag_step (codes "only-if-cached") d rest whole c.args.self.only_if_cached _ k.only_if_cached c.or_named-only_if_cached.ensures;
      no_cache = flag_step (codes "no-cache") d rest whole c.args.self.no_cache _ k.no_cache c.or_named-no_cache.ensures;
      no_store = flag_step (codes "no-store") d rest whole c.args.self.no_store _ k.no_store c.or_named-no_store.ensures;
      private = flag_step (codes "private") d rest whole c.args.self.private _ k.private c.or_named-private.ensures;
      loose_no_cache = loose_step (codes "no-cache") d rest whole c.args.self.loose_no_cache _ c.before_semicolon-front.result.now k.loose_no_cache c.before_semicolon-front.ensures.value c.or_named-loose_no_cache.ensures;
      loose_no_store = loose_step (codes "no-store") d rest whole c.args.self.loose_no_store _ c.before_semicolon-front.result.now k.loose_no_store c.before_semicolon-front.ensures.value c.or_named-loose_no_store.ensures;
      s_maxage = seconds_step (codes "s-maxage") d rest whole c.args.self.s_maxage _ k.s_maxage c.or_seconds-s_maxage.ensures;
      max_age = seconds_step (codes "max-age") d rest whole c.args.self.max_age _ k.max_age c.or_seconds-max_age.ensures;
      min_fresh = seconds_step (codes "min-fresh") d rest whole c.args.self.min_fresh _ k.min_fresh c.or_seconds-min_fresh.ensures;
    }

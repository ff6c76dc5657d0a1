use Rattle.http_rules.proofs.directives.Directives.and_value.Goals as goal

pub returns-then-self-clause-found : goal.returns-then-self-clause-found
returns-then-self-clause-found c = λ rest whole h.
    let k = c.and_directives-read.ensures rest whole h in
    record {
      only_if_cached = k.only_if_cached;
      no_cache = k.no_cache;
      no_store = k.no_store;
      private = k.private;
      loose_no_cache = k.loose_no_cache;
      loose_no_store = k.loose_no_store;
      s_maxage = k.s_maxage;
      max_age = k.max_age;
      min_fresh = k.min_fresh;
    }

pub returns-else-self-clause-found : goal.returns-else-self-clause-found
returns-else-self-clause-found c = λ rest whole h.
    let k = c.and_directives-read.ensures rest whole h in
    record {
      only_if_cached = k.only_if_cached;
      no_cache = k.no_cache;
      no_store = k.no_store;
      private = k.private;
      loose_no_cache = k.loose_no_cache;
      loose_no_store = k.loose_no_store;
      s_maxage = k.s_maxage;
      max_age = k.max_age;
      min_fresh = k.min_fresh;
    }

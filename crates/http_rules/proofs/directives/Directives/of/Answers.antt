use Rattle.std.proofs.Common.{◌≡◌, ◌++◌, ◌∙◌, ◌||◌, [], List, false, codes, map, flat_map, rules, sym}
use Rattle.http_rules.specs.Fields.{Field, fields_of}
use Rattle.http_rules.specs.Directives.{directives, directives_in, has_unclosed}
use Rattle.http_rules.specs.Elements.{Completes}
use Rattle.http_rules.proofs.Found.{or_grouped, or_nothing, whole_flag, whole_loose, whole_seconds}
use Rattle.http_rules.proofs.directives.Directives.of.Goals as goal

pub loop-value-preserved : goal.loop-value-preserved
loop-value-preserved c =
    let others = flat_map directives_in (map (λ v. v.bytes) c.next.new.self) in
    let same : flat_map directives_in (map (λ v. v.bytes) c.loop-value.value-iterator) ≡ directives_in c.as_bytes.result.now ++ others
    = search rules in
    let before : Completes c.loop-value.found (flat_map directives_in (map (λ v. v.bytes) c.loop-value.value-iterator)) (directives (fields_of c.args.head.now))
    = search rules in (
      search rules,
      search rules,
      c.and_value-found.ensures.found others (directives (fields_of c.args.head.now)) (rw same at before),
      search (rules, or_grouped, c.and_value-found.ensures.open),
    )

pub returns : goal.returns
returns c =
    let fields : List Field = fields_of c.args.head.now in
    let found = c.loop-value.found in
    let empty : c.loop-value.value-iterator ≡ [] = search rules in
    let k : Completes found [] (directives fields) = rw empty at (c.loop-value.invariant.2) in
    let open_before : has_unclosed fields ≡ (found.unclosed || false) = rw empty at (c.loop-value.invariant.3) in
    record {
      only_if_cached = whole_flag (codes "only-if-cached") (directives fields) found.only_if_cached k.only_if_cached;
      no_cache = whole_flag (codes "no-cache") (directives fields) found.no_cache k.no_cache;
      no_store = whole_flag (codes "no-store") (directives fields) found.no_store k.no_store;
      private = whole_flag (codes "private") (directives fields) found.private k.private;
      loose_no_cache = whole_loose (codes "no-cache") fields found.loose_no_cache k.loose_no_cache;
      loose_no_store = whole_loose (codes "no-store") fields found.loose_no_store k.loose_no_store;
      s_maxage = whole_seconds (codes "s-maxage") (directives fields) found.s_maxage k.s_maxage;
      max_age = whole_seconds (codes "max-age") (directives fields) found.max_age k.max_age;
      min_fresh = whole_seconds (codes "min-fresh") (directives fields) found.min_fresh k.min_fresh;
      unclosed = sym (open_before ∙ or_nothing found.unclosed);
    }

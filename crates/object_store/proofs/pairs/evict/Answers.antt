use Rattle.std.proofs.Common.{◌≡◌, ◌-◌, List, length, take, ap, sym, ◌∙◌}
use Rattle.std.proofs.lemmas.Bool.{iff_false}
use Rattle.object_store.specs.Pairs.{Pair, cut, total_size}
use Rattle.object_store.proofs.CutLemmas.{cut-drop, cut-whole}
use Rattle.object_store.proofs.PairLemmas.{cache-is}
use Rattle.object_store.proofs.pairs.evict.Goals as goal

pub full-preserved : goal.full-preserved
full-preserved c =
    let rest : c.drop_last-rest.new.pairs.entries ≡ take (length c.full.pairs.entries - 1) c.full.pairs.entries = ap (λ p. p.entries) c.drop_last-rest.ensures.pairs in
    record {
      cut = ap (λ (es : List Pair). cut c.args.most_entries c.args.most_octets es) rest
          ∙ cut-drop c.args.most_entries c.args.most_octets c.full.pairs.entries (iff_false c.are_within.ensures c.full-test.true)
          ∙ c.full.invariant.cut;
      sum = c.drop_last-rest.ensures.sum ∙ ap total_size (sym rest);
      cap = ap (λ p. p.cap) c.drop_last-rest.ensures.pairs ∙ c.full.invariant.cap;
    }

pub returns-clause-pairs : goal.returns-clause-pairs
returns-clause-pairs c =
    cache-is c.full.pairs _ c.args.pairs.now.cap
    (sym (cut-whole c.args.most_entries c.args.most_octets c.full.pairs.entries (c.are_within.ensures.0 c.full-test.false)) ∙ c.full.invariant.cut)
    c.full.invariant.cap

pub returns-clause-sum : goal.returns-clause-sum
returns-clause-sum c =
    c.full.invariant.sum
    ∙ ap total_size (sym (cut-whole c.args.most_entries c.args.most_octets c.full.pairs.entries (c.are_within.ensures.0 c.full-test.false)) ∙ c.full.invariant.cut)

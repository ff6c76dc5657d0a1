use Rattle.std.proofs.Common.{◌+◌, length, refl}
use Rattle.pending_fetch.proofs.Sorted.{sorted_front, sorted_back, absent_front, gap_back}
use Rattle.pending_fetch.proofs.clients.search_both.Goals as goal

pub search_in-requires : goal.search_in-requires
search_in-requires c = sorted_front c.args.front.now c.args.back.now c.requires

pub returns-then-not-reaches-clause-absent : goal.returns-then-not-reaches-clause-absent
returns-then-not-reaches-clause-absent c =
    absent_front c.args.front.now c.args.back.now c.args.client c.search_in.result c.requires (c.if-not-reaches.ensures.no refl) c.search_in.ensures.absent

pub search_in-requires-2 : goal.search_in-requires-2
search_in-requires-2 c = sorted_back c.args.front.now c.args.back.now c.requires

pub returns-in-Err-clause-absent : goal.returns-in-Err-clause-absent
returns-in-Err-clause-absent c =
    gap_back c.args.front.now c.args.back.now c.args.client c.in-Err.at (length c.args.front.now + c.in-Err.at) c.requires (c.if-not-reaches.ensures.yes refl) refl c.in-Err.ensures.absent

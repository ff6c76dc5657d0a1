use Rattle.std.proofs.Common.{rules}
use Rattle.std.proofs.lemmas.List.Sorted.{answers_always}
use Rattle.pending_fetch.specs.declared.undecided.Undecided.{Undecided}
use Rattle.pending_fetch.proofs.Queues.{found_entry}
use Rattle.pending_fetch.proofs.queue.index_in.Goals as goal

pub returns : goal.returns
returns c =
    let facts = c.binary_search_by_key.ensures in
    let by_key = facts.position (λ (entry : Undecided). entry.number) (answers_always _ _ _ (λ f a r g called. search rules)) in
    rw c.ok.ensures.value (found_entry c.args.list.now c.args.number c.binary_search_by_key.result facts.bound by_key)

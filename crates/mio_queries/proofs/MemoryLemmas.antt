-- One more result of an in-memory wire.
use Rattle.std.proofs.Common.{◌≡◌, ◌<◌, ℕ, ◌+◌, length, take, get_or, filter_map, List, [], ◌∷◌, ◌++◌, Option, Some, None, Result, Ok, Err, subst, ap, sym, ◌∙◌}
use Rattle.std.proofs.lemmas.List.{take_more, append-nil}
use Rattle.std.proofs.lemmas.List.Elements.{filter_map-append}
use Rattle.mio_queries.specs.declared.traffic.Received.{Received}
use Rattle.mio_queries.specs.declared.traffic.WireFault.{WireFault}
use Rattle.mio_queries.specs.Traffic.{Receipt, receipt_of}
use Rattle.mio_queries.specs.Memory.{receipt_in, receipts_of}

abbrev pub Answer : Type 0
Answer = Result Received WireFault

receipts_more : (answers : List Answer) (n : ℕ) (answer : Answer) → n < length answers → answer ≡ get_or answers n answer → receipts_of (take (n + 1) answers) ≡ receipts_of (take n answers) ++ receipts_of (answer ∷ [])
receipts_more answers n answer lt is =
    ap receipts_of (take_more answers n answer lt ∙ ap (λ (a : Answer). take n answers ++ a ∷ []) (sym is))
    ∙ filter_map-append receipt_in (take n answers) (answer ∷ [])

-- a result that is a receipt
pub receipts_more_ok : (answers shown : List Answer) (n : ℕ) (answer : Answer) (received shared : Received) → shown ≡ answers → n < length shown → answer ≡ get_or shown n answer → answer ≡ Ok received → receipt_of shared ≡ receipt_of received → Some (receipts_of (take (n + 1) answers)) ≡ Some (receipts_of (take n answers) ++ receipt_of shared ∷ [])
receipts_more_ok answers shown n answer received shared view lt is ok same =
    let P : List Answer → Type 0 = λ xs. Some (receipts_of (take (n + 1) xs)) ≡ Some (receipts_of (take n xs) ++ receipt_of shared ∷ []) in
    subst P view (ap Some (receipts_more shown n answer lt is ∙ ap (λ (a : Answer). receipts_of (take n shown) ++ receipts_of (a ∷ [])) ok ∙ ap (λ (r : Receipt). receipts_of (take n shown) ++ r ∷ []) (sym same)))

-- a fault
pub receipts_more_err : (answers shown : List Answer) (n : ℕ) (answer : Answer) (fault : WireFault) → shown ≡ answers → n < length shown → answer ≡ get_or shown n answer → answer ≡ Err fault → Some (receipts_of (take (n + 1) answers)) ≡ Some (receipts_of (take n answers))
receipts_more_err answers shown n answer fault view lt is err =
    let P : List Answer → Type 0 = λ xs. Some (receipts_of (take (n + 1) xs)) ≡ Some (receipts_of (take n xs)) in
    subst P view (ap Some (receipts_more shown n answer lt is ∙ ap (λ (a : Answer). receipts_of (take n shown) ++ receipts_of (a ∷ [])) err ∙ append-nil (receipts_of (take n shown))))

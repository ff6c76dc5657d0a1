-- What an in-memory wire received, from the results that it returned.
use Rattle.std.specs.Prelude.{List, filter_map, Option, Some, None, Result, Ok, Err}
use Rattle.mio_queries.specs.declared.traffic.Received.{Received}
use Rattle.mio_queries.specs.declared.traffic.WireFault.{WireFault}
use Rattle.mio_queries.specs.Traffic.{Receipt, receipt_of}

abbrev pub receipt_in : Result Received WireFault → Option Receipt
receipt_in (Ok received) = Some (receipt_of received)
receipt_in (Err fault) = None

-- the results that are no errors
abbrev pub receipts_of : List (Result Received WireFault) → List Receipt
receipts_of answers = filter_map receipt_in answers

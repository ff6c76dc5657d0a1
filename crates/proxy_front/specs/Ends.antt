-- How a fetch has ended, as far as something stale may take the place of what came of it.
use Rattle.http_rules.specs.declared.stale.SourceEnd.{SourceEnd}
use Rattle.http_rules.specs.declared.stale.SourceEnd.TheVariants.{Answered, Unreached, Unread, TooLong, Unasked}
use Rattle.http_traffic.specs.declared.orders.FetchEnd.{FetchEnd}
use Rattle.http_traffic.specs.declared.orders.FetchEnd.TheVariants.{Whole, Refused, Failed}
use Rattle.http_traffic.specs.declared.orders.FetchFault.{FetchFault}
use Rattle.http_traffic.specs.declared.orders.FetchFault.TheVariants.{Lookup, Connect, Request, Cut, NotHttp, LargeHead, TooLarge, Time, Room, Slow, Cancelled, NoMemory, NoFile}

-- how one has ended that has failed
abbrev pub end_of_fault : FetchFault → SourceEnd
end_of_fault Lookup = Unreached
end_of_fault Connect = Unreached
end_of_fault NoFile = Unreached
end_of_fault Cut = Unread
end_of_fault NotHttp = Unread
end_of_fault LargeHead = Unread
end_of_fault Time = Unread
end_of_fault Room = Unread
end_of_fault Slow = Unread
end_of_fault TooLarge = TooLong
end_of_fault Request = Unasked
end_of_fault Cancelled = Unasked
end_of_fault NoMemory = Unasked

-- how one has ended
abbrev pub end_of : FetchEnd → SourceEnd
end_of (Whole page) = Answered page.status
end_of Refused = Unasked
end_of (Failed fault) = end_of_fault fault

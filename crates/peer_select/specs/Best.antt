-- Running minimum: the best reply so far. It is proved to equal the choice from the whole list.
use Rattle.std.specs.Prelude.{Bool, Option, Some, None, if◌then◌else◌}
use Rattle.peer_select.specs.declared.reply.Reply.{Reply}

-- the better of the best reply so far and one more
abbrev pub better : (Reply → Reply → Bool) → Option Reply → Reply → Option Reply
better less None reply = Some reply
better less (Some best) reply = if less reply best then Some reply else Some best

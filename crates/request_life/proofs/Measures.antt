-- What is counted at a stage, for the laws of whole runs: what has come about, and what may still be done.
use Rattle.std.specs.Prelude.{ℕ, ◌+◌, ◌*◌, ◌&&◌, not, Bool, true, false}
use Rattle.fair_use.specs.declared.unanswered.Upload.TheVariants as uploads
use Rattle.request_life.specs.declared.facts.RequestHead.{RequestHead}
use Rattle.request_life.specs.declared.stages.Round.{Round}
use Rattle.request_life.specs.declared.stages.Content.TheVariants as contents
use Rattle.request_life.specs.declared.stages.Stage.{Stage}
use Rattle.request_life.specs.declared.stages.Stage.TheVariants as stages
use Rattle.request_life.specs.Table.{is_first, has_begun}
use Rattle.request_life.specs.Laws.{one, wants_stored, AtNode, Absent, Submitted, Queued}

-- an answer was given
abbrev pub is_answered : Stage → Bool
is_answered stages.Giving = true
is_answered stages.Breaking = true
is_answered stages.BrokenOff = true
is_answered stages.Ended = true
is_answered stage = false

-- an answer was given, and nothing is awaited of its server
abbrev pub is_done : Stage → Bool
is_done stages.Giving = true
is_done stages.Ended = true
is_done stage = false

-- its client has left before there was an answer
abbrev pub has_departed : Stage → Bool
has_departed stages.Left = true
has_departed stages.Leaving = true
has_departed (stages.Parting upload) = true
has_departed stage = false

-- it has gone to the node, to a server or through a tunnel
abbrev pub has_gone_on : Stage → Bool
has_gone_on (stages.Submitting s) = true
has_gone_on stages.Leaving = true
has_gone_on (stages.Waiting w) = true
has_gone_on (stages.Passing content) = true
has_gone_on (stages.Parting upload) = true
has_gone_on stages.Breaking = true
has_gone_on stages.BrokenOff = true
has_gone_on stages.Opening = true
has_gone_on stage = false

-- it has the node fetch
abbrev pub may_fetch : Stage → Bool
may_fetch (stages.Submitting s) = not (wants_stored s.mode)
may_fetch (stages.Waiting w) = not (wants_stored w.mode)
may_fetch stage = false

-- whether a request that waits has begun the fetch that it waits for
abbrev pub is_beginner : Stage → Bool
is_beginner (stages.Waiting w) = has_begun w.share
is_beginner stage = false

-- how often the node may be asked, and once more for each time that its fetch is ended for want of clients
abbrev pub submits_left : Stage → ℕ
submits_left stages.Receiving = 2
submits_left stages.Collecting = 2
submits_left (stages.LookingUp round) = 2
submits_left (stages.Submitting s) = one (not s.is_second)
submits_left (stages.Waiting w) = one (not w.is_second)
submits_left stage = 0

-- how often it may be asked in all
abbrev pub submits_after : Round → Bool → ℕ
submits_after round is_second = one (not is_second) + one (is_first round && not is_second)

abbrev pub all_submits_left : Stage → ℕ
all_submits_left stages.Receiving = 3
all_submits_left stages.Collecting = 3
all_submits_left (stages.LookingUp round) = 2 + one (is_first round)
all_submits_left (stages.Submitting s) = submits_after s.round s.is_second
all_submits_left (stages.Waiting w) = submits_after w.round w.is_second
all_submits_left stage = 0

abbrev pub passes_left : Stage → ℕ
passes_left stages.Receiving = 1
passes_left stages.Collecting = 1
passes_left (stages.LookingUp round) = 1
passes_left (stages.Submitting s) = 1
passes_left (stages.Waiting w) = 1
passes_left stages.Routing = 1
passes_left stage = 0

abbrev pub tunnels_left : Stage → ℕ
tunnels_left stages.Receiving = 1
tunnels_left stages.Aiming = 1
tunnels_left stage = 0

-- the most steps that are left
abbrev pub steps_after : Round → Bool → ℕ
steps_after round is_second = 2 * one (not is_second) + 3 * one (is_first round && not is_second)

abbrev pub steps_left : Stage → ℕ
steps_left stages.Receiving = 15
steps_left stages.Collecting = 14
steps_left (stages.LookingUp round) = 10 + 3 * one (is_first round)
steps_left (stages.Submitting s) = 7 + steps_after s.round s.is_second
steps_left (stages.Waiting w) = 6 + steps_after w.round w.is_second
steps_left stages.Routing = 5
steps_left stages.Aiming = 3
steps_left (stages.Passing contents.Coming) = 4
steps_left (stages.Passing contents.Read) = 3
steps_left (stages.Passing contents.Sent) = 2
steps_left (stages.Parting uploads.Broken) = 2
steps_left (stages.Parting uploads.Whole) = 1
steps_left stages.Breaking = 2
steps_left stages.BrokenOff = 1
steps_left stages.Opening = 2
steps_left stages.Giving = 1
steps_left stages.Leaving = 1
steps_left stages.Ended = 0
steps_left stages.Left = 0

-- what may be taken out yet, of what a client has broken: only by a word of its server
abbrev pub may_break : Stage → ℕ
may_break stages.Breaking = 0
may_break stages.BrokenOff = 0
may_break stages.Giving = 0
may_break stages.Ended = 0
may_break stage = 1

-- of what a client has left before all was sent
abbrev pub may_part_unsent : Stage → ℕ
may_part_unsent (stages.Parting uploads.Broken) = 0
may_part_unsent stages.Left = 0
may_part_unsent stage = 1

-- of what a client has left once all was sent
abbrev pub may_part_whole : Stage → ℕ
may_part_whole (stages.Parting uploads.Whole) = 0
may_part_whole stages.Left = 0
may_part_whole stage = 1

-- whether it may still be passed on
abbrev pub may_pass : Stage → ℕ
may_pass (stages.Submitting s) = one (not (wants_stored s.mode))
may_pass (stages.Waiting w) = one (not (wants_stored w.mode))
may_pass stages.Routing = 1
may_pass stage = 0

-- whether its own fields may be sent on
abbrev pub sends_fields : RequestHead → Stage → ℕ
sends_fields head stages.Receiving = 0
sends_fields head stages.Left = 0
sends_fields head stage = one (not head.has_many_options)

-- whether what the node is asked may still be looked up
abbrev pub may_look_up : Stage → Bool
may_look_up (stages.LookingUp round) = true
may_look_up (stages.Submitting s) = true
may_look_up (stages.Waiting w) = true
may_look_up stage = false

-- whether a request may still go anywhere
abbrev pub may_go : Stage → Bool
may_go stages.Receiving = false
may_go stages.Giving = false
may_go stages.Ended = false
may_go stages.Left = false
may_go stage = true

-- what the node has of a request
abbrev pub node_at : Stage → AtNode
node_at (stages.Submitting s) = Submitted
node_at stages.Leaving = Submitted
node_at (stages.Waiting w) = Queued
node_at stage = Absent

-- nothing of a request is at a server any more
abbrev pub is_closed : Stage → Bool
is_closed stages.Giving = true
is_closed stages.Ended = true
is_closed stages.Left = true
is_closed stage = false

-- whether an answer may leave its connection open: not amid a content, and none is given any more once that has broken or its client has gone
abbrev pub amid : Stage → ℕ
amid (stages.Passing contents.Coming) = 0
amid (stages.Parting upload) = 0
amid stages.Breaking = 0
amid stages.BrokenOff = 0
amid stages.Giving = 0
amid stages.Ended = 0
amid stages.Left = 0
amid stage = 1

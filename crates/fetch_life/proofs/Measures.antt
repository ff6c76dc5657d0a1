-- What is counted at a stage, for the laws of whole runs: what may still be done, and what may do harm.
use Rattle.std.specs.Prelude.{ℕ, ◌+◌, ◌*◌, ◌&&◌, ◌||◌, ◌==◌, not, Bool, true, false}
use Rattle.fetch_life.specs.declared.facts.End.{End}
use Rattle.fetch_life.specs.declared.facts.End.TheVariants as ends
use Rattle.fetch_life.specs.declared.stages.Reach.{Reach}
use Rattle.fetch_life.specs.declared.stages.Fetch.{Fetch}
use Rattle.fetch_life.specs.declared.stages.Stage.{Stage}
use Rattle.fetch_life.specs.declared.stages.Stage.TheVariants as stages
use Rattle.fetch_life.specs.Table.{is_origin, is_too_large}
use Rattle.fetch_life.specs.Laws.{one, is_first, is_other, is_server_error, is_outage, may_be_stored, Making, Unmade, Guarded, Delivered, Touch, Apart, Reaching, Asking}

abbrev pub is_begun : Stage → Bool
is_begun stages.Ordering = false
is_begun stages.Renewing = false
is_begun stage = true

-- whether an end is still to be counted
abbrev pub counts_left : Stage → ℕ
counts_left (stages.Landing l) = 0
counts_left stages.Over = 0
counts_left stage = 1

-- an address that has its turn or may still have it
abbrev pub may_go_first : Reach → Bool
may_go_first r = is_first r.at || r.has_other

abbrev pub may_go_other : Reach → Bool
may_go_other r = is_other r.at || r.has_other

-- the most that is still done
abbrev pub commands_left : Stage → ℕ
commands_left stages.Ordering = 21
commands_left stages.Renewing = 21
commands_left stages.Seeking = 20
commands_left (stages.Connecting r) = 11 + 4 * one r.has_other
commands_left (stages.Exchanging e) = 9 + 4 * one e.is_reused + 4 * one e.reach.has_other + one (not e.is_offered)
commands_left (stages.Landing l) = 4 + 2 * one (not l.is_remade)
commands_left stages.Over = 0

-- an end that confirms what was asked about
abbrev pub is_confirming : End → Bool
is_confirming (ends.Whole p) = (p.status == 304) && p.is_about
is_confirming end = false

-- an end in whose place something stale may be given
abbrev pub is_down : End → Bool
is_down (ends.Whole p) = is_server_error p.status && p.has_stale
is_down ends.Refused = false
is_down (ends.Failed x) = is_outage x.fault && x.has_stale

-- what may do harm at a stage, for each law that none does
abbrev pub harm_shared : Fetch → ℕ
harm_shared f = one (is_begun f.stage && f.flight.is_shared)

abbrev pub harm_private : Fetch → ℕ
harm_private f = one (is_begun f.stage && not f.flight.is_shared)

abbrev pub harm_origin : Fetch → ℕ
harm_origin f = one (is_begun f.stage && is_origin f.flight.source)

abbrev pub harm_asking : Fetch → ℕ
harm_asking f = one (is_begun f.stage && f.flight.is_asking)

abbrev pub confirming_at : Stage → ℕ
confirming_at (stages.Landing l) = one (is_confirming l.end)
confirming_at stage = 0

abbrev pub harm_confirming : Fetch → ℕ
harm_confirming f = confirming_at f.stage

abbrev pub down_at : Stage → ℕ
down_at (stages.Landing l) = one (is_down l.end)
down_at stage = 0

abbrev pub harm_down : Fetch → ℕ
harm_down f = down_at f.stage

abbrev pub first_at : Stage → ℕ
first_at (stages.Connecting r) = one (may_go_first r)
first_at (stages.Exchanging e) = one (may_go_first e.reach)
first_at stage = 0

abbrev pub harm_first : Fetch → ℕ
harm_first f = one (is_begun f.stage && not (is_origin f.flight.source)) + first_at f.stage

abbrev pub other_at : Stage → ℕ
other_at (stages.Connecting r) = one (may_go_other r)
other_at (stages.Exchanging e) = one (may_go_other e.reach)
other_at stage = 0

abbrev pub harm_other : Fetch → ℕ
harm_other f = one (is_begun f.stage && not (is_origin f.flight.source)) + other_at f.stage

abbrev pub harm_none : Fetch → ℕ
harm_none f = 0

-- the most steps that are left
abbrev pub steps_left : Stage → ℕ
steps_left stages.Ordering = 12
steps_left stages.Renewing = 12
steps_left stages.Seeking = 11
steps_left (stages.Connecting r) = 5 + 3 * one r.has_other
steps_left (stages.Exchanging e) = 3 + 3 * one e.is_reused + 3 * one e.reach.has_other + one (not e.is_offered)
steps_left (stages.Landing l) = 1 + one (not l.is_remade)
steps_left stages.Over = 0

-- a 304 about something else than was asked about
abbrev pub is_odd : End → Bool
is_odd (ends.Whole p) = (p.status == 304) && not p.is_about
is_odd end = false

abbrev pub odd_at : Stage → ℕ
odd_at (stages.Landing l) = one (not (is_odd l.end))
odd_at stages.Over = 0
odd_at stage = 1

abbrev pub harm_odd : Fetch → ℕ
harm_odd f = odd_at f.stage

-- what a change has not overtaken
abbrev pub current_at : Stage → ℕ
current_at (stages.Landing l) = one (not l.is_remade)
current_at stages.Over = 0
current_at stage = 1

abbrev pub harm_current : Fetch → ℕ
harm_current f = current_at f.stage

-- an end that tells that the origin has something else than is on the shelf
abbrev pub is_telling : End → Bool
is_telling (ends.Whole p) = true
is_telling ends.Refused = false
is_telling (ends.Failed x) = is_too_large x.fault

abbrev pub telling_at : Stage → ℕ
telling_at (stages.Landing l) = one (is_telling l.end)
telling_at stage = 0

abbrev pub harm_telling : Fetch → ℕ
harm_telling f = telling_at f.stage

-- an end that may be stored for all
abbrev pub is_storable : End → Bool
is_storable (ends.Whole p) = may_be_stored p
is_storable end = false

abbrev pub storable_at : Stage → ℕ
storable_at (stages.Landing l) = one (is_storable l.end)
storable_at stage = 0

abbrev pub harm_storable : Fetch → ℕ
harm_storable f = storable_at f.stage

-- how far the result of a fetch is
abbrev pub making_at : Stage → Making
making_at (stages.Landing l) = Guarded
making_at stages.Over = Delivered
making_at stage = Unmade

-- how often a request may be sent yet, but for what lets it be sent again
abbrev pub sends_due : Stage → ℕ
sends_due (stages.Exchanging e) = 0
sends_due (stages.Landing l) = 0
sends_due stages.Over = 0
sends_due stage = 1

-- how often at most
abbrev pub sends_left : Stage → ℕ
sends_left stages.Ordering = 3
sends_left stages.Renewing = 3
sends_left stages.Seeking = 3
sends_left (stages.Connecting r) = 1 + one r.has_other
sends_left (stages.Exchanging e) = one e.is_reused + one e.reach.has_other
sends_left (stages.Landing l) = 0
sends_left stages.Over = 0

-- how often an answer may be offered yet
abbrev pub offers_due : Stage → ℕ
offers_due (stages.Exchanging e) = one (not e.is_offered)
offers_due stage = 0

-- what is due of a fetch that has landed
abbrev pub due_at : ℕ → Stage → ℕ
due_at n (stages.Landing l) = n
due_at n stage = 0

-- how far a fetch is with its server
abbrev pub touch_at : Stage → Touch
touch_at (stages.Connecting r) = Reaching
touch_at (stages.Exchanging e) = Asking
touch_at stage = Apart

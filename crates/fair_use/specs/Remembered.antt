-- The life of what was found once, as the addresses of a name: for how long it is used, when it is asked anew, and what is used meanwhile
-- (RFC 8767, section 5). All times are in milliseconds.
use Rattle.std.specs.Prelude.{ℕ, ◌-◌, Bool, false, ltb, Option, Some, None, if◌then◌else◌}
use Rattle.fair_use.specs.declared.remembered.Known.{Known}
use Rattle.fair_use.specs.declared.remembered.Spans.{Spans}
use Rattle.fair_use.specs.declared.remembered.Use.{Use}
use Rattle.fair_use.specs.declared.remembered.Use.TheVariants.{Fresh, Old, AskAnew, Failed, Ask}
use Rattle.fair_use.specs.declared.remembered.Waited.{Waited}
use Rattle.fair_use.specs.declared.remembered.Waited.TheVariants.{Waits, HasOld, GivesUp}

-- whether a moment, if there was one, is less than this long ago
abbrev pub is_since : Option ℕ → ℕ → ℕ → Bool
is_since None span now = false
is_since (Some at) span now = ltb (now - at) span

-- what is done about a name of which this is known:
--   found, and not over its time yet          it is used as fresh
--   older, kept, and it failed lately          it is used as it is, and not asked
--   older, kept                                it is asked anew, and what is known is there meanwhile
--   nothing that is kept, and it failed lately it has failed
--   nothing that is kept                       it is asked
abbrev pub use_at : Known → Spans → ℕ → Use
use_at known spans now =
    if is_since known.found spans.fresh now then Fresh
    else if is_since known.found spans.kept now
    then (if is_since known.failed spans.again now then Old else AskAnew)
    else (if is_since known.failed spans.failed now then Failed else Ask)

-- what is known once it was found
abbrev pub once_found : ℕ → Known
once_found now = record { found = Some now; failed = None }

-- what is known once it was not found: what was found before stays, unless the failure says that there is none any more
abbrev pub once_failed : Known → Bool → ℕ → Known
once_failed known is_gone now = record { found = if is_gone then None else known.found; failed = Some now }

-- what becomes of one who has waited for so long: it is given what is known once that is longer than that is waited for, and where
-- nothing is known it gives up once that is longer than a look-up may take
abbrev pub patience : ℕ → Spans → Bool → Waited
patience waited spans has_old =
    if has_old
    then (if ltb waited spans.old_after then Waits else HasOld)
    else (if ltb waited spans.gives_up_after then Waits else GivesUp)

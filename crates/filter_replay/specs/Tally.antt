-- Counts of packets, and of answers.
use Rattle.std.specs.Prelude.{ℕ, ◌+◌, ◌==◌, ◌&&◌, min, Bool}
use Rattle.filter_replay.specs.declared.answer.Kind.{Kind}
use Rattle.filter_replay.specs.declared.answer.Kind.TheVariants.{Equal, Alike, Other, CaptureAlone, NodeAlone}
use Rattle.filter_replay.specs.declared.part.Part.{Part}
use Rattle.filter_replay.specs.declared.part.Part.TheVariants as parts
use Rattle.filter_replay.specs.declared.tally.Answers.{Answers}
use Rattle.filter_replay.specs.declared.tally.Counts.{Counts}

-- one more, at most 2^64 - 1
abbrev pub one_more : ℕ → ℕ
one_more counter = min (counter + 1) 18446744073709551615

-- one packet more
abbrev pub counted : Counts → Part → Counts
counted counts (parts.Received socket) = record counts { received = one_more counts.received }
counted counts (parts.Sent socket) = record counts { sent = one_more counts.sent }
counted counts parts.Partial = record counts { partial = one_more counts.partial }
counted counts parts.Other = record counts { others = one_more counts.others }

-- one answer, or pair of answers, more
abbrev pub answered : Answers → Kind → Answers
answered counts Equal = record counts { equal = one_more counts.equal }
answered counts Alike = record counts { alike = one_more counts.alike }
answered counts Other = record counts { other = one_more counts.other }
answered counts CaptureAlone = record counts { capture_alone = one_more counts.capture_alone }
answered counts NodeAlone = record counts { node_alone = one_more counts.node_alone }

-- nothing differs
abbrev pub are_equal : Answers → Bool
are_equal counts =
    (counts.alike == 0) && (counts.other == 0) && (counts.capture_alone == 0) && (counts.node_alone == 0)

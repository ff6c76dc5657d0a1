-- What taking one record or block out of a file means. Only private functions of this crate speak of it.
use Rattle.std.specs.Prelude.{◌≡◌, ℕ, List, Option, Some, None, ⊤, IfSome}
use Rattle.std.specs.Io.KnownBytes.{IsAtEnd}
use Rattle.capture.specs.declared.reading.Step.{Step}
use Rattle.capture.specs.declared.reading.Step.TheVariants.{End, Passed, Packet}
use Rattle.capture.specs.declared.head.PacketHead.{PacketHead}
use Rattle.capture.specs.Packet.{SoFar, IsFirst, IsPassed}

-- taking what stands first leaves the rest
abbrev pub TakesFirst : SoFar → Option (List ℕ) → Option (List ℕ) → PacketHead → List ℕ → Type 0
TakesFirst old None new head captured = ⊤
TakesFirst old (Some octets) None head captured = ⊥
TakesFirst old (Some octets) (Some rest) head captured = IsFirst old.form old.interfaces octets head captured rest

abbrev pub TakesOther : SoFar → Option (List ℕ) → SoFar → Option (List ℕ) → Type 0
TakesOther old None new left = ⊤
TakesOther old (Some octets) new None = ⊥
TakesOther old (Some octets) new (Some rest) = IsPassed old.form old.interfaces octets new rest

-- one step
abbrev pub Steps : SoFar → Option (List ℕ) → SoFar → Option (List ℕ) → List ℕ → Step → Type 0
Steps old before new left captured End = IsAtEnd before
Steps old before new left captured Passed = TakesOther old before new left
Steps old before new left captured (Packet head) = (new ≡ old) × TakesFirst old before left head captured

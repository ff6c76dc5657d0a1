-- Packets that are taken one after the other, and their counts.
use Rattle.std.proofs.Common.{◌≡◌, ℕ, List, [], ◌∷◌, Option, Some, None, refl, ap, ◌∙◌}
use Rattle.std.specs.Prelude.{⊤, IfSome}
use Rattle.bpf_check.specs.declared.insn.Insn.{Insn}
use Rattle.capture.specs.declared.head.PacketHead.{PacketHead}
use Rattle.capture.specs.Packet.{SoFar, IsPacket, TakesPacket, TakesNoPacket, HasNoPacket}
use Rattle.capture.specs.Start.{TakesStart}
use Rattle.capture.specs.Udp.{udp_at}
use Rattle.replay.specs.declared.aim.Aim.{Aim}
use Rattle.replay.specs.declared.tally.Tally.{Tally}
use Rattle.replay.specs.Tally.{seen, no_tally, tally_from}
use Rattle.replay.specs.File.{AreCounted, IsCountOf}

-- Counts of what is left are counts of what there was, with the packets that were taken so far; nothing is claimed of a reader
-- whose octets aren't known.
abbrev pub Leads : List Insn → Aim → SoFar → Option (List ℕ) → Tally → SoFar → Option (List ℕ) → Tally → Type 0
Leads p aim start None old now left tally = ⊤
Leads p aim start (Some octets) old now None tally = ⊥
Leads p aim start (Some octets) old now (Some rest) tally = (new : Tally) → AreCounted p aim now rest tally new → AreCounted p aim start octets old new

pub leads_none : (p : List Insn) (aim : Aim) (start : SoFar) (a : Option (List ℕ)) (old : Tally) → Leads p aim start a old start a old
leads_none p aim start None old = tt
leads_none p aim start (Some octets) old = λ new counted. counted

counted_more : (p : List Insn) (aim : Aim) (now next : SoFar) (y z frame : List ℕ) (head : PacketHead) (before after new : Tally) → IsPacket now y next head frame z → after ≡ seen p aim before (udp_at head.link frame) → AreCounted p aim next z after new → AreCounted p aim now y before new
unfolding tally_from
counted_more p aim now next y z frame head before after new is e counted = record {
  frames = record { link = head.link; octets = frame } ∷ counted.frames;
  are_frames = record { new = next; head = head; middle = z; is_packet = is; link_is = refl; others = counted.are_frames };
  counts = counted.counts ∙ ap (λ (t : Tally). tally_from p aim t counted.frames) e;
}

pub leads_more : (p : List Insn) (aim : Aim) (start now next : SoFar) (a b c : Option (List ℕ)) (frame : List ℕ) (head : PacketHead) (old before after : Tally) → Leads p aim start a old now b before → TakesPacket now b next c head frame → after ≡ seen p aim before (udp_at head.link frame) → Leads p aim start a old next c after
leads_more p aim start now next None b c frame head old before after led is e = tt
leads_more p aim start now next (Some x) None c frame head old before after led is e = absurd led
leads_more p aim start now next (Some x) (Some y) None frame head old before after led is e = absurd is
leads_more p aim start now next (Some x) (Some y) (Some z) frame head old before after led is e =
    λ new counted. led new (counted_more p aim now next y z frame head before after new is e counted)

counted_end : (p : List Insn) (aim : Aim) (now : SoFar) (y : List ℕ) (tally : Tally) → HasNoPacket now y → AreCounted p aim now y tally tally
unfolding tally_from
counted_end p aim now y tally end = record { frames = []; are_frames = end; counts = refl }

pub leads_end : (p : List Insn) (aim : Aim) (start now : SoFar) (a b : Option (List ℕ)) (old tally : Tally) → Leads p aim start a old now b tally → TakesNoPacket now b → IfSome a (λ octets. AreCounted p aim start octets old tally)
leads_end p aim start now None b old tally led end = tt
leads_end p aim start now (Some x) None old tally led end = absurd led
leads_end p aim start now (Some x) (Some y) old tally led end = led tally (counted_end p aim now y tally end)

pub whole_file : (p : List Insn) (aim : Aim) (start : SoFar) (a b : Option (List ℕ)) (old new : Tally) → TakesStart a b start → old ≡ no_tally → IfSome b (λ octets. AreCounted p aim start octets old new) → IfSome a (λ octets. IsCountOf p aim octets new)
whole_file p aim start None b old new takes zero counted = tt
whole_file p aim start (Some x) None old new takes zero counted = absurd takes
whole_file p aim start (Some x) (Some y) old new takes zero counted = record {
  start = start;
  packets = y;
  is_start = takes;
  frames = counted.frames;
  are_frames = counted.are_frames;
  counts = counted.counts ∙ ap (λ (t : Tally). tally_from p aim t counted.frames) zero;
}

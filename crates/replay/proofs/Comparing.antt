-- The counts of a comparison over packets that are taken one after the other.
use Rattle.std.proofs.Common.{◌≡◌, ℕ, List, [], ◌∷◌, Option, Some, None, refl, ap, ◌∙◌}
use Rattle.std.specs.Prelude.{⊤, IfSome}
use Rattle.bpf_check.specs.declared.insn.Insn.{Insn}
use Rattle.capture.specs.declared.head.PacketHead.{PacketHead}
use Rattle.capture.specs.Packet.{SoFar, IsPacket, TakesPacket, TakesNoPacket, HasNoPacket}
use Rattle.capture.specs.Start.{TakesStart}
use Rattle.capture.specs.Udp.{udp_at}
use Rattle.replay.specs.declared.aim.Aim.{Aim}
use Rattle.replay.specs.declared.contrast.Comparison.{Comparison}
use Rattle.replay.specs.Comparison.{met, no_comparison, comparison_from, AreCompared, IsComparisonOf}

-- Comparing on what is left is comparing on what there was, with the packets that were taken so far; nothing is claimed of a
-- reader whose octets aren't known.
abbrev pub Leads : List Insn → List Insn → Aim → SoFar → Option (List ℕ) → Comparison → SoFar → Option (List ℕ) → Comparison → Type 0
Leads p q aim start None old now left counts = ⊤
Leads p q aim start (Some octets) old now None counts = ⊥
Leads p q aim start (Some octets) old now (Some rest) counts = (new : Comparison) → AreCompared p q aim now rest counts new → AreCompared p q aim start octets old new

pub leads_none : (p q : List Insn) (aim : Aim) (start : SoFar) (a : Option (List ℕ)) (old : Comparison) → Leads p q aim start a old start a old
leads_none p q aim start None old = tt
leads_none p q aim start (Some octets) old = λ new compared. compared

compared_more : (p q : List Insn) (aim : Aim) (now next : SoFar) (y z frame : List ℕ) (head : PacketHead) (before after new : Comparison) → IsPacket now y next head frame z → after ≡ met p q aim before (udp_at head.link frame) → AreCompared p q aim next z after new → AreCompared p q aim now y before new
unfolding comparison_from
compared_more p q aim now next y z frame head before after new is e compared = record {
  frames = record { link = head.link; octets = frame } ∷ compared.frames;
  are_frames = record { new = next; head = head; middle = z; is_packet = is; link_is = refl; others = compared.are_frames };
  counts = compared.counts ∙ ap (λ (c : Comparison). comparison_from p q aim c compared.frames) e;
}

pub leads_more : (p q : List Insn) (aim : Aim) (start now next : SoFar) (a b c : Option (List ℕ)) (frame : List ℕ) (head : PacketHead) (old before after : Comparison) → Leads p q aim start a old now b before → TakesPacket now b next c head frame → after ≡ met p q aim before (udp_at head.link frame) → Leads p q aim start a old next c after
leads_more p q aim start now next None b c frame head old before after led is e = tt
leads_more p q aim start now next (Some x) None c frame head old before after led is e = absurd led
leads_more p q aim start now next (Some x) (Some y) None frame head old before after led is e = absurd is
leads_more p q aim start now next (Some x) (Some y) (Some z) frame head old before after led is e =
    λ new compared. led new (compared_more p q aim now next y z frame head before after new is e compared)

compared_end : (p q : List Insn) (aim : Aim) (now : SoFar) (y : List ℕ) (counts : Comparison) → HasNoPacket now y → AreCompared p q aim now y counts counts
unfolding comparison_from
compared_end p q aim now y counts end = record { frames = []; are_frames = end; counts = refl }

pub leads_end : (p q : List Insn) (aim : Aim) (start now : SoFar) (a b : Option (List ℕ)) (old counts : Comparison) → Leads p q aim start a old now b counts → TakesNoPacket now b → IfSome a (λ octets. AreCompared p q aim start octets old counts)
leads_end p q aim start now None b old counts led end = tt
leads_end p q aim start now (Some x) None old counts led end = absurd led
leads_end p q aim start now (Some x) (Some y) old counts led end = led counts (compared_end p q aim now y counts end)

pub whole_file : (p q : List Insn) (aim : Aim) (start : SoFar) (a b : Option (List ℕ)) (old new : Comparison) → TakesStart a b start → old ≡ no_comparison → IfSome b (λ octets. AreCompared p q aim start octets old new) → IfSome a (λ octets. IsComparisonOf p q aim octets new)
whole_file p q aim start None b old new takes zero compared = tt
whole_file p q aim start (Some x) None old new takes zero compared = absurd takes
whole_file p q aim start (Some x) (Some y) old new takes zero compared = record {
  start = start;
  packets = y;
  is_start = takes;
  frames = compared.frames;
  are_frames = compared.are_frames;
  counted = compared.counts ∙ ap (λ (c : Comparison). comparison_from p q aim c compared.frames) zero;
}

-- The frames of a capture file, and the counts of a whole file.
use Rattle.std.specs.Prelude.{◌≡◌, ℕ, List, [], ◌∷◌}
use Rattle.bpf_check.specs.declared.insn.Insn.{Insn}
use Rattle.capture.specs.declared.head.PacketHead.{PacketHead}
use Rattle.capture.specs.Packet.{SoFar, IsPacket, HasNoPacket}
use Rattle.capture.specs.Start.{IsStart}
use Rattle.replay.specs.declared.aim.Aim.{Aim}
use Rattle.replay.specs.declared.tally.Tally.{Tally}
use Rattle.replay.specs.Frame.{Frame}
use Rattle.replay.specs.Tally.{tally_from, tally_of}

-- a packet with this frame stands in front of the octets, and then comes what the rest is
pub record StandsFirst (old : SoFar) (octets : List ℕ) (frame : Frame) (Rest : SoFar → List ℕ → Type 0) : Type 0 where
  pub new : SoFar
  pub head : PacketHead
  pub middle : List ℕ
  pub is_packet : IsPacket old octets new head frame.octets middle
  pub link_is : frame.link ≡ head.link
  pub others : Rest new middle

-- the packets in the octets have these frames, one after the other, and there are no others
abbrev pub AreFrames : List Frame → SoFar → List ℕ → Type 0
AreFrames [] so_far octets = HasNoPacket so_far octets
AreFrames (frame ∷ frames) so_far octets = StandsFirst so_far octets frame (AreFrames frames)

-- counting the frames in the octets, where so much of the file was read, leads from the old counts to the new ones
pub record AreCounted (p : List Insn) (aim : Aim) (so_far : SoFar) (octets : List ℕ) (old new : Tally) : Type 0 where
  pub frames : List Frame
  pub are_frames : AreFrames frames so_far octets
  pub counts : new ≡ tally_from p aim old frames

-- the octets are a whole file, its start and packets, whose frames have these counts
pub record IsCountOf (p : List Insn) (aim : Aim) (octets : List ℕ) (tally : Tally) : Type 0 where
  pub start : SoFar
  pub packets : List ℕ
  pub is_start : IsStart octets start packets
  pub frames : List Frame
  pub are_frames : AreFrames frames start packets
  pub counts : tally ≡ tally_of p aim frames

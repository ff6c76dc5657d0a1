-- Blocks that are passed over one after the other.
use Rattle.std.proofs.Common.{◌≡◌, ℕ, suc, List, [], Option, None, Some, refl, sym, subst}
use Rattle.std.specs.Prelude.{⊤}
use Rattle.std.specs.Io.KnownBytes.{IsAtEnd}
use Rattle.capture.specs.declared.head.PacketHead.{PacketHead}
use Rattle.capture.specs.Packet.{SoFar, IsPassed, Passes, IsPacket, TakesPacket, TakesNoPacket}
use Rattle.capture.specs.Step.{TakesFirst, TakesOther}

pub record Led (new : SoFar) (rest : List ℕ) (old : SoFar) (octets : List ℕ) : Type 0 where
  pub blocks : ℕ
  pub passes : Passes blocks new rest old octets

-- what was taken so far are blocks that are passed over; nothing is claimed of a reader whose octets aren't known
abbrev pub Leads : SoFar → Option (List ℕ) → SoFar → Option (List ℕ) → Type 0
Leads old None new left = ⊤
Leads old (Some octets) new None = ⊥
Leads old (Some octets) new (Some rest) = Led new rest old octets

pub leads_none : (old : SoFar) (a : Option (List ℕ)) → Leads old a old a
leads_none old None = tt
leads_none old (Some octets) = record { blocks = 0; passes = (refl, refl) }

passes_more : (n : ℕ) (old now next : SoFar) (x y z : List ℕ) → Passes n now y old x → IsPassed now.form now.interfaces y next z → Passes (suc n) next z old x
passes_more ℕ.zero old now next x y z passes one = record {
  next = next;
  middle = z;
  first = subst (λ (s : SoFar). IsPassed s.form s.interfaces x next z) (sym passes.0) (subst (λ (l : List ℕ). IsPassed now.form now.interfaces l next z) (sym passes.1) one);
  others = (refl, refl);
}
passes_more (suc n) old now next x y z passes one = record {
  next = passes.next;
  middle = passes.middle;
  first = passes.first;
  others = passes_more n passes.next now next passes.middle y z passes.others one;
}

pub leads_more : (old now next : SoFar) (a b c : Option (List ℕ)) → Leads old a now b → TakesOther now b next c → Leads old a next c
leads_more old now next None b c led one = tt
leads_more old now next (Some x) None c led one = absurd led
leads_more old now next (Some x) (Some y) None led one = absurd one
leads_more old now next (Some x) (Some y) (Some z) led one = record {
  blocks = suc led.blocks;
  passes = passes_more led.blocks old now next x y z led.passes one;
}

pub leads_packet : (old now new : SoFar) (a b c : Option (List ℕ)) (head : PacketHead) (captured : List ℕ) → Leads old a now b → new ≡ now → TakesFirst now b c head captured → TakesPacket old a new c head captured
leads_packet old now new None b c head captured led same one = tt
leads_packet old now new (Some x) None c head captured led same one = absurd led
leads_packet old now new (Some x) (Some y) None head captured led same one = absurd one
leads_packet old now new (Some x) (Some y) (Some z) head captured led same one =
    subst (λ (s : SoFar). IsPacket old x s head captured z) (sym same) (record { blocks = led.blocks; middle = y; passes = led.passes; is_first = one })

pub leads_end : (old now : SoFar) (a b : Option (List ℕ)) → Leads old a now b → IsAtEnd b → TakesNoPacket old a
leads_end old now None b led end = tt
leads_end old now (Some x) None led end = absurd led
leads_end old now (Some x) (Some y) led end = record {
  blocks = led.blocks;
  new = now;
  passes = subst (λ (l : List ℕ). Passes led.blocks now l old x) end led.passes;
}

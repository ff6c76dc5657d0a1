-- A record or a block that is taken is a packet, or is passed over.
use Rattle.std.proofs.Common.{◌≡◌, ℕ, ◌+◌, ◌≤◌, length, take, drop, ap, ◌∙◌, List, Option, None, Some, sym, subst, false}
use Rattle.capture.specs.declared.order.Order.{Order}
use Rattle.capture.specs.declared.file.FileHead.{FileHead}
use Rattle.capture.specs.declared.record.RecordHead.{RecordHead}
use Rattle.capture.specs.declared.head.PacketHead.{PacketHead}
use Rattle.capture.specs.declared.reading.Form.{Form}
use Rattle.capture.specs.declared.reading.Form.TheVariants.{Classic, Blocks}
use Rattle.std.specs.List.{slice_get}
use Rattle.capture.specs.declared.interface.Interface.{Interface}
use Rattle.capture.specs.declared.packet.Fields.{Fields}
use Rattle.capture.specs.Moment.{head_by}
use Rattle.capture.specs.Fields.{word}
use Rattle.capture.specs.Record.{TakesRecord}
use Rattle.capture.specs.Block.{TakesBlock}
use Rattle.capture.specs.Blocks.{HoldsPacket, captured_by, fields_of, interfaces_after, is_packet}
use Rattle.capture.specs.Packet.{SoFar, IsFirst, IsPassed, head_of}
use Rattle.capture.specs.Step.{TakesFirst, TakesOther}

pub stands_record : (old : SoFar) (file : FileHead) (a b : Option (List ℕ)) (said : RecordHead) (head : PacketHead) (captured : List ℕ) → old.form ≡ Classic file → TakesRecord file.order a b said captured → head ≡ head_of file said → TakesFirst old a b head captured
stands_record old file None b said head captured form taken is = tt
stands_record old file (Some x) None said head captured form taken is = absurd taken
stands_record old file (Some x) (Some y) said head captured form taken is =
    subst (λ (f : Form). IsFirst f old.interfaces x head captured y) (sym form) (record { said = said; is_record = taken; head_is = is })

pub stands_packet : (old : SoFar) (order own : Order) (a b : Option (List ℕ)) (block : List ℕ) (head : PacketHead) (captured : List ℕ) → old.form ≡ Blocks order → TakesBlock order a b own block → HoldsPacket own old.interfaces block head captured → TakesFirst old a b head captured
stands_packet old order own None b block head captured form taken holds = tt
stands_packet old order own (Some x) None block head captured form taken holds = absurd taken
stands_packet old order own (Some x) (Some y) block head captured form taken holds =
    subst (λ (f : Form). IsFirst f old.interfaces x head captured y) (sym form) (record { own = own; block = block; stands = taken; holds = holds })

pub stands_other : (old new : SoFar) (order own : Order) (a b : Option (List ℕ)) (block : List ℕ) → old.form ≡ Blocks order → TakesBlock order a b own block → is_packet (word own block 0) ≡ false → interfaces_after own old.interfaces block ≡ Some new.interfaces → new.form ≡ Blocks own → TakesOther old a new b
stands_other old new order own None b block form taken other after is = tt
stands_other old new order own (Some x) None block form taken other after is = absurd taken
stands_other old new order own (Some x) (Some y) block form taken other after is =
    subst (λ (f : Form). IsPassed f old.interfaces x new y) (sym form) (record { own = own; block = block; stands = taken; other = other; form = is; after = after })

pub holds : (order : Order) (interfaces : List Interface) (block captured : List ℕ) (fields : Fields) (interface : Interface) (head : PacketHead) (count : ℕ) → fields_of order block ≡ Some fields → slice_get interfaces fields.interface ≡ Some interface → count ≡ captured_by interface fields.original fields.captured → fields.at + count + 4 ≤ length block → captured ≡ take count (drop fields.at block) → head ≡ head_by interface fields → HoldsPacket order interfaces block head captured
holds order interfaces block captured fields interface head count f i l within is h = record {
  fields = fields;
  fields_are = f;
  interface = interface;
  described = i;
  within = subst (λ n. fields.at + n + 4 ≤ length block) l within;
  captured_is = is ∙ ap (λ n. take n (drop fields.at block)) l;
  head_is = h;
}

-- What a file begins with, taken in two parts.
use Rattle.std.proofs.Common.{◌≡◌, ℕ, ◌≤◌, List, [], ◌++◌, Option, None, Some, sym, ap, ◌∙◌, subst, length, take}
use Rattle.std.specs.Prelude.{IsTrue}
use Rattle.std.specs.Io.KnownBytes.{Consumes}
use Rattle.capture.specs.declared.order.Order.{Order}
use Rattle.capture.specs.declared.order.Order.TheVariants.{Big}
use Rattle.capture.specs.declared.file.FileHead.{FileHead}
use Rattle.capture.specs.declared.reading.Form.{Form}
use Rattle.capture.specs.declared.reading.Form.TheVariants.{Classic, Blocks}
use Rattle.capture.specs.Head.{Says, TakesHead}
use Rattle.capture.specs.Block.{begins_section, prepended, TakesBlock}
use Rattle.capture.specs.Blocks.{is_section}
use Rattle.capture.specs.Packet.{SoFar}
use Rattle.capture.specs.Start.{IsFront, TakesStart, TakesSection}
use Rattle.capture.proofs.Blocks.{joined, taken_front}

pub takes_head : (b c : Option (List ℕ)) (front rest header : List ℕ) (head : FileHead)
    → Consumes b c rest → header ≡ front ++ rest → length header ≡ 24 → Says header head → TakesHead (prepended front b) c head
takes_head None c front rest header head taken is long says = tt
takes_head (Some y) None front rest header head taken is long says = absurd taken
takes_head (Some y) (Some z) front rest header head taken is long says = record {
  header = header;
  long = long;
  parts = joined front rest header y z is taken;
  says = says;
}

pub takes_section : (a c : Option (List ℕ)) (order : Order) (block : List ℕ)
    → TakesBlock Big a c order block → IsTrue (begins_section block) → IsTrue (is_section order block) → TakesSection a c order
takes_section None c order block taken begins is = tt
takes_section (Some x) None order block taken begins is = absurd taken
takes_section (Some x) (Some z) order block taken begins is = record { block = block; stands = taken; begins = begins; section = is }

pub classic_start : (a b c : Option (List ℕ)) (n : ℕ) (front : List ℕ) (head : FileHead) (start : SoFar) → length front ≡ 12 → 12 ≤ n
    → Consumes a b (take n front) → TakesHead (prepended front b) c head → start.form ≡ Classic head → start.interfaces ≡ [] → TakesStart a c start
classic_start None b c n front head start long all first then_ form none = tt
classic_start (Some x) None c n front head start long all first then_ form none = absurd first
classic_start (Some x) (Some y) None n front head start long all first then_ form none = absurd then_
classic_start (Some x) (Some y) (Some z) n front head start long all first then_ form none = record {
  front = subst (λ (f : Form). IsFront f x z) (sym form) (subst (λ (l : List ℕ). TakesHead (Some l) (Some z) head) (taken_front n front x y long all first) then_);
  none = none;
}

pub section_start : (a b c : Option (List ℕ)) (n : ℕ) (front : List ℕ) (order : Order) (start : SoFar) → length front ≡ 12 → 12 ≤ n
    → Consumes a b (take n front) → TakesSection (prepended front b) c order → start.form ≡ Blocks order → start.interfaces ≡ [] → TakesStart a c start
section_start None b c n front order start long all first then_ form none = tt
section_start (Some x) None c n front order start long all first then_ form none = absurd first
section_start (Some x) (Some y) None n front order start long all first then_ form none = absurd then_
section_start (Some x) (Some y) (Some z) n front order start long all first then_ form none = record {
  front = subst (λ (f : Form). IsFront f x z) (sym form) (subst (λ (l : List ℕ). TakesSection (Some l) (Some z) order) (taken_front n front x y long all first) then_);
  none = none;
}

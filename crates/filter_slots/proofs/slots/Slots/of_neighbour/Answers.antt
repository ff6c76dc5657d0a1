use Rattle.std.proofs.Common.{◌≡◌, sym, ap, ◌∙◌, arith, rules}
use Rattle.std.specs.Option.{option_map}
use Rattle.std.specs.Arc.{arc_value}
use Rattle.std.proofs.lemmas.Option.{slice_get_read}
use Rattle.filter_slots.proofs.Seats.{seated-none, seated-some}
use Rattle.filter_slots.proofs.slots.Slots.of_neighbour.Goals as goal

pub returns-then-n-len : goal.returns-then-n-len
returns-then-n-len c =
    rw (sym c.self.view_is) (sym (seated-none c.self.inside.senders _ c.args.n (let same = c.self.invariant in let len = c.len.ensures.value in let beyond = c.if-n-len.true in omega arith)))

pub returns : goal.returns
returns c =
    let is = rw c.as_slice.ensures.value at c.index-as_slice-n.is in
    let at = slice_get_read c.self.inside.programs.items c.len.result c.args.n c.index-as_slice-n.result c.len.ensures.value c.if-n-len.false is in
    rw (sym c.self.view_is, c.as_ref.ensures.value) (sym (seated-some (option_map (λ arc. arc_value arc)) c.self.inside.senders c.self.inside.programs.items c.args.n c.index-as_slice-n.result c.self.invariant at))

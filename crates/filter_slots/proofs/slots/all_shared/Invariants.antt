use Rattle.std.proofs.Common.{◌≡◌, ◌≤◌, length, map, take}
use Rattle.std.specs.Option.{option_map}
use Rattle.std.specs.Arc.{arc_value}
use Rattle.filter_slots.proofs.slots.all_shared.Given as goal

abbrev pub invariant-loop-program : goal.invariant-loop-program
invariant-loop-program l = record {
  so_far : map (option_map (λ arc. arc_value arc)) l.copies.items ≡ map (option_map (λ arc. arc_value arc)) (take l.program-index l.program-items);
  few : length l.program-items ≤ 64;
  count : length l.copies.items ≡ l.program-index;
}

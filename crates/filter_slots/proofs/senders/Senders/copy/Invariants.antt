use Rattle.std.proofs.Common.{◌≡◌, ℕ, ◌≤◌, length, take}
use Rattle.filter_slots.proofs.senders.Senders.copy.Given as goal

abbrev pub invariant-loop-sender : goal.invariant-loop-sender
invariant-loop-sender l = record {
  so_far : l.all.items ≡ take l.sender-index l.sender-items;
  few : length l.sender-items ≤ 64;
  all : l.sender-items ≡ l.self-inside.all.items;
}

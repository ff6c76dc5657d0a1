use Rattle.std.proofs.Common.{◌≡◌}
use Rattle.std.specs.List.{list_all}
use Rattle.std.specs.Map.{keys_of}
use Rattle.std.specs.String.{string_bytes}
use Rattle.serve_config.specs.Files.{is_number}
use Rattle.serve_config.proofs.filters.check_numbers.Given as goal

abbrev pub invariant-loop-key : goal.invariant-loop-key
invariant-loop-key l =
    list_all (λ key. is_number l.neighbours (string_bytes key)) (keys_of l.given.entries)
    ≡ list_all (λ key. is_number l.neighbours (string_bytes key)) l.key-iterator

use Rattle.std.proofs.Common.{◌≡◌, ◌++◌, map}
use Rattle.std.specs.List.{All}
use Rattle.serde_json.specs.View.{view}
use Rattle.serve_config.specs.Files.{IsFile, neighbour_rows, shown, socket_rows}
use Rattle.serve_config.proofs.filters.neighbour_files.Given as goal

abbrev pub invariant-loop-n : goal.invariant-loop-n
invariant-loop-n l =
    (map shown l.files.items ≡ socket_rows (view l.filters) ++ neighbour_rows (view l.filters) l.n)
    × All (IsFile l.neighbours) l.files.items

-- How the value of a label is written between its quotes (text format of Prometheus 0.0.4): a backslash as \\, a quote as \" and
-- a line feed as \n. All other octets stand for themselves.
use Rattle.std.specs.Prelude.{ℕ, List, [], ◌∷◌, ◌==◌, if◌then◌else◌}
use Rattle.std.specs.List.{flat_map}

abbrev pub escape : ℕ → List ℕ
escape octet =
    if octet == 92 then 92 ∷ 92 ∷ []
    else (if octet == 34 then 92 ∷ 34 ∷ []
    else (if octet == 10 then 92 ∷ 110 ∷ [] else octet ∷ []))

abbrev pub escaped : List ℕ → List ℕ
escaped text = flat_map escape text

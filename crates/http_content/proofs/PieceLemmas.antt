-- The octets between two indices.
use Rattle.std.proofs.Common.{◌≡◌, ◌≤◌, ◌<◌, ◌++◌, ◌+◌, ◌-◌, ℕ, List, length, take, drop, Ok, refl, sym, ap, ◌∙◌, inl, arith}
use Rattle.std.proofs.lemmas.List.{take-append-drop, drop-drop, length-take-le, length-drop}
use Rattle.http_body.specs.Frame.{data_frame}
use Rattle.http_content.specs.Pieces.{Gives, Rest}

piece_length : (octets : List ℕ) (next end : ℕ) → next < end → end ≤ length octets
    → length (take (end - next) (drop next octets)) ≡ end - next
piece_length octets next end some within =
    length-take-le (end - next) (drop next octets) (rw (length-drop next octets) (omega arith))

rest_after : (octets : List ℕ) (next end : ℕ) → next < end → drop (end - next) (drop next octets) ≡ drop end octets
rest_after octets next end some =
    let place : next + (end - next) ≡ end = omega arith in
    drop-drop (end - next) next octets ∙ ap (λ n. drop n octets) place

abbrev pub left_of : ℕ → List ℕ → Rest
left_of most octets = record { most = most; octets = octets }

-- they are the first of the octets from the lower index on; those from the upper index on remain
pub gives_piece : (octets : List ℕ) (limit next end : ℕ) → next < end → end ≤ length octets → end ≤ next + limit
    → Gives (left_of limit (drop next octets)) (Ok (data_frame (take (end - next) (drop next octets)))) (left_of limit (drop end octets))
gives_piece octets limit next end some within most =
    let long = piece_length octets next end some within in
    inl (record {
      piece = take (end - next) (drop next octets);
      given = refl;
      first = sym (ap (λ rest. take (end - next) (drop next octets) ++ rest) (sym (rest_after octets next end some)) ∙ take-append-drop (end - next) (drop next octets));
      some = rw long (omega arith);
      most = rw long (omega arith);
      same = refl;
    })

-- What a line has of an address is printable ASCII.
use Rattle.std.proofs.Common.{◌≡◌, ℕ, true, List, [], ◌∷◌, ◌++◌, take, drop, All, inl, inr, refl, arith}
use Rattle.std.specs.Prelude.{bytes_eq, codes}
use Rattle.std.specs.Net.Addr.{octets_of}
use Rattle.std.specs.Net.Text.{ipv4_text, hex_groups_text, ipv6_text}
use Rattle.std.specs.List.{list_all}
use Rattle.std.proofs.lemmas.List.Elements.{All-head, All-tail}
use Rattle.std.proofs.lemmas.List.Folds.{list_all-append}
use Rattle.std.proofs.NetLemmas.Alphabet.{IsHexOrColon, All-hex_groups_text}
use Rattle.std.proofs.NetLemmas.Texts.{AllSegments}
use Rattle.access_log.specs.Escaped.{is_printable}
use Rattle.access_log.specs.Line.{octets_text}
use Rattle.access_log.proofs.Clean.{Clean, and_true, clean_both, clean_decimal, clean_either, printable}

pub clean_octets : (octets : List ℕ) → Clean (octets_text octets)
unfolding octets_text
clean_octets octets = simp (list_all-append is_printable, clean_decimal)

one_hex : (octet : ℕ) → IsHexOrColon octet → is_printable octet ≡ true
one_hex octet (inl h) = printable octet (omega (arith, h.0)) (omega (arith, h.1))
one_hex octet (inr h) = printable octet (omega (arith, h.0)) (omega (arith, h.1))

each_hex : (text : List ℕ) → All IsHexOrColon text → Clean text
each_hex [] h = refl
each_hex (octet ∷ text) h =
    and_true (is_printable octet) (list_all is_printable text) (one_hex octet (All-head IsHexOrColon octet text h)) (each_hex text (All-tail IsHexOrColon octet text h))

clean_four : (octets : List ℕ) → Clean (ipv4_text octets)
clean_four octets = simp (list_all-append is_printable, clean_decimal)

pub clean_six : (segments : List ℕ) → AllSegments segments → Clean (ipv6_text segments)
unfolding ipv6_text
clean_six segments fits =
    clean_either (bytes_eq (take 6 segments) (0 ∷ 0 ∷ 0 ∷ 0 ∷ 0 ∷ 0xffff ∷ [])) (codes "::ffff:" ++ ipv4_text (octets_of (drop 6 segments))) (hex_groups_text segments)
    (clean_both (codes "::ffff:") (ipv4_text (octets_of (drop 6 segments))) refl (clean_four (octets_of (drop 6 segments))))
    (each_hex (hex_groups_text segments) (All-hex_groups_text segments fits))

-- The text of a plain URL is that of a key.
use Rattle.std.proofs.Common.{◌≡◌, ℕ, ◌≤◌, List, [], length, take, codes, nat_le, not, true, Option, Some, None, is_some, unwrap_or, refl, arith}
use Rattle.std.specs.List.{list_all}
use Rattle.std.proofs.lemmas.Bool.{and_parts}
use Rattle.std.proofs.lemmas.Bool.Decides.{nat_tests}
use Rattle.std.proofs.lemmas.List.Elements.{All-weaker}
use Rattle.std.proofs.lemmas.List.Sums.{AllPass-from_list_all}
use Rattle.std.proofs.lemmas.Slice.Eq.{bytes_eq-Decides}
use Rattle.url.specs.declared.host.Host.{Host}
use Rattle.url.specs.declared.host.Host.TheVariants.{Domain}
use Rattle.url.specs.Host.{is_empty_host}
use Rattle.url.specs.Parts.{Parts, has_authority, has_credentials}
use Rattle.object_store.specs.Key.{IsKey, IsVisible}
use Rattle.http_rules.specs.Targets.{text_of, is_visible, is_plain}

visible_octet : (c : ℕ) → is_visible c ≡ true → IsVisible c
visible_octet c h =
    let both = and_parts (nat_le 0x21 c) (nat_le c 0x7e) h in
    (grind (arith, nat_tests, both.0), grind (arith, nat_tests, both.1))

-- a URL with a host
host_there : (o : Option (Host (List ℕ))) → not (is_empty_host (unwrap_or o (Domain []))) ≡ true → is_some o ≡ true
host_there None h = cc
host_there (Some x) h = refl

begins : (url : Parts) → url.scheme ≡ codes "http" → has_authority url ≡ true → take 7 (text_of url) ≡ codes "http://"
begins url s a = rw s (rw a refl)

-- the text of a plain URL that is short enough is a key
pub key_text : (url : Parts) → is_plain url ≡ true → length (text_of url) ≤ 8192 → IsKey (text_of url)
key_text url h short =
    let scheme = and_parts _ _ h in
    let host = and_parts _ _ scheme.1 in
    let rest = and_parts (not (has_credentials url)) (list_all is_visible (text_of url)) host.1 in
    record {
      begins = begins url ((bytes_eq-Decides url.scheme (codes "http")).0 scheme.0) (host_there url.host host.0);
      short = short;
      visible = All-weaker _ IsVisible visible_octet (text_of url) (AllPass-from_list_all is_visible (text_of url) rest.1);
    }

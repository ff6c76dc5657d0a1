-- Laws about the parts of keys. 47 is a slash, 58 a colon, 91 and 93 are brackets.
use Rattle.std.proofs.Common.{◌≡◌, ◌<◌, ℕ, ◌+◌, List, [], ◌∷◌, ◌++◌, codes, length, take, drop, get_or, true, false, Bool, cond, suc, refl, sym, ap, subst, ◌∙◌, arith, inl, inr, not, ◌==◌, ◌||◌, Some, None, is_none}
use Rattle.std.specs.List.{list_all, prefix_len}
use Rattle.std.proofs.Math.Seq.{take-suc}
use Rattle.std.proofs.lemmas.List.{take-append-drop}
use Rattle.std.proofs.lemmas.List.Sums.{passes_at_first}
use Rattle.http_rules.specs.HostFields.{place_of}
use Rattle.http_rules.specs.Destinations.{IsBare, IsDestination, authority_len, ends_authority, is_nowhere, is_rooted, leads_nowhere, name_len, port_behind, target_of}

-- each element of the longest beginning that passes does
passing : (q : ℕ → Bool) (xs : List ℕ) → list_all q (take (prefix_len q xs) xs) ≡ true
passing q [] = refl
passing q (x ∷ xs) = by (q x) refl (passing q xs)
  where
    by : (b : Bool) → q x ≡ b → list_all q (take (prefix_len q xs) xs) ≡ true
        → list_all q (take (cond b (1 + prefix_len q xs) 0) (x ∷ xs)) ≡ true
    by true e others =
        let up : 1 + prefix_len q xs ≡ suc (prefix_len q xs) = omega arith in
        let rest : list_all q (x ∷ take (prefix_len q xs) xs) ≡ true = rw e others in
        ap (λ k. list_all q (take k (x ∷ xs))) up ∙ rest
    by false e others = refl

-- no octet before the first one that is this one is it
clean : (octet : ℕ) (text : List ℕ) → list_all (λ c. not (c == octet)) (take (place_of octet text) text) ≡ true
clean octet text = passing (λ c. not (c == octet)) text

-- what no closing bracket follows has no port before its first colon
pub bare : (host : List ℕ) (end : ℕ) → end ≡ place_of 58 host → IsBare (take end host)
bare host end e = inl (rw e (clean 58 host))

pub unclosed : (rest : List ℕ) (end : ℕ) → end ≡ place_of 58 rest → IsBare (take (end + 1) (91 ∷ rest))
unclosed rest end e =
    let up : end + 1 ≡ suc (place_of 58 rest) = omega (arith, e) in
    inl (ap (λ n. list_all (λ c. not (c == 58)) (take n (91 ∷ rest))) up ∙ clean 58 rest)

-- up to the first closing bracket, and with it
pub closes : (rest : List ℕ) (end : ℕ) → end ≡ place_of 93 rest → end < length rest → IsBare (take (end + 2) (91 ∷ rest))
closes rest end e inside =
    let up : end + 2 ≡ suc (suc end) = omega arith in
    let last : get_or rest end 0 ≡ 93 = ended in
    inr (record {
      inner = take end rest;
      spelled = ap (λ n. take n (91 ∷ rest)) up ∙ ap (λ l. 91 ∷ l) (take-suc rest end 0 inside ∙ ap (λ c. take end rest ++ (c ∷ [])) last);
      closed = rw e (clean 93 rest);
    })
  where
    ended : get_or rest end 0 ≡ 93
    ended = let passes = passes_at_first (λ c. c == 93) rest 0 (rw e at inside) in grind (arith, e, passes)

-- no octet of an authority ends it
within : (text : List ℕ) → list_all (λ c. not (ends_authority c)) (take (authority_len text) text) ≡ true
within text = passing (λ c. not (ends_authority c)) text

-- the parts of a key, put together
pub made : (key behind host rest name written target : List ℕ) (port p n : ℕ) → take 7 key ≡ codes "http://" → behind ≡ drop 7 key
    → p ≡ authority_len behind → host ≡ take p behind → rest ≡ drop p behind → is_rooted rest ≡ true → name ≡ take n host → written ≡ drop n host
    → IsBare (take n host) → port_behind written ≡ Some port → target ≡ target_of rest → IsDestination key name port host target
made key behind host rest name written target port p n begins left place h r root named after plain numbered asked =
    record {
      rest = rest;
      written = written;
      spelled =
          sym (take-append-drop 7 key) ∙ ap (λ l. l ++ drop 7 key) begins
          ∙ ap (λ l. codes "http://" ++ l)
          (sym left ∙ sym (take-append-drop p behind) ∙ ap (λ l. l ++ drop p behind) (sym h) ∙ ap (λ l. host ++ l) (sym r));
      whole = rw h (rw place (within behind));
      rooted = root;
      asked = asked;
      parted = sym (take-append-drop n host) ∙ ap (λ l. l ++ drop n host) (sym named) ∙ ap (λ l. name ++ l) (sym after);
      bare = rw named plain;
      numbered = numbered;
    }

-- a key behind whose authority nothing begins a path leads nowhere
pub unrooted : (key behind rest : List ℕ) (p : ℕ) → behind ≡ drop 7 key → p ≡ authority_len behind → rest ≡ drop p behind → is_rooted rest ≡ false
    → leads_nowhere key ≡ true
unrooted key behind rest p left place r root = subst (λ text. is_nowhere text ≡ true) left (by_root behind at)
  where
    at : is_rooted (drop (authority_len behind) behind) ≡ false
    at = ap (λ n. is_rooted (drop n behind)) (sym place) ∙ ap is_rooted (sym r) ∙ root

    by_root : (text : List ℕ) → is_rooted (drop (authority_len text) text) ≡ false → is_nowhere text ≡ true
    by_root text e =
        ap (λ b. not b || is_none (port_behind (drop (name_len (take (authority_len text) text)) (take (authority_len text) text)))) e

or_true : (b : Bool) → (b || true) ≡ true
or_true true = refl
or_true false = refl

-- so does one behind whose name there is no port
pub unnumbered : (key behind host written : List ℕ) (p n : ℕ) → behind ≡ drop 7 key → p ≡ authority_len behind → host ≡ take p behind
    → n ≡ name_len host → written ≡ drop n host → port_behind written ≡ None → leads_nowhere key ≡ true
unnumbered key behind host written p n left place h named after none = subst (λ text. is_nowhere text ≡ true) left (by_port behind at)
  where
    whole : host ≡ take (authority_len behind) behind
    whole = h ∙ ap (λ k. take k behind) place

    at : port_behind (drop (name_len (take (authority_len behind) behind)) (take (authority_len behind) behind)) ≡ None
    at =
        sym (ap (λ l. port_behind (drop (name_len l) l)) whole) ∙ ap (λ k. port_behind (drop k host)) (sym named)
        ∙ ap port_behind (sym after) ∙ none

    by_port : (text : List ℕ) → port_behind (drop (name_len (take (authority_len text) text)) (take (authority_len text) text)) ≡ None
        → is_nowhere text ≡ true
    by_port text e = ap (λ o. not (is_rooted (drop (authority_len text) text)) || is_none o) e ∙ or_true (not (is_rooted (drop (authority_len text) text)))

-- The key of a URI, by the index of its first slash after the scheme.
use Rattle.std.proofs.Common.{◌≡◌, ◌≢◌, ℕ, zero, suc, ◌+◌, ◌-◌, ◌<◌, ◌≤◌, min, true, false, Bool, not, cond, List, [], ◌∷◌, ◌++◌, take, drop, length, Option, Some, None, nat_eq, nat_lt, refl, ap, ap₂, sym, subst, ◌∙◌, arith, rules, if◌then◌else◌, get_or}
use Rattle.std.proofs.lemmas.Bool.Decides.{nat_tests}
use Rattle.std.specs.Prelude.{◌==◌, position}
use Rattle.std.specs.List.{All, prefix_len, ends_with}
use Rattle.std.proofs.Math.Seq.{take-append_seam, drop-append_seam, take-append-add, drop-append-add}
use Rattle.std.proofs.lemmas.List.{length-append, append_assoc, take-append-drop, length-take, get_or-take}
use lib.Pointwise.{pointwise, bytes_decides}
use Rattle.plain_node.specs.HtcpRequests.{uri_key, slash_behind_80, host_end, names_port_80, port_before, without_port}
use Rattle.plain_node.specs.Messages.{is_http}
use Rattle.plain_node.specs.UriKeys.{NamesPort80, behind_scheme, at_port_80}

abbrev is_slash : ℕ → Bool
is_slash octet = octet == 47

abbrev is_other : ℕ → Bool
is_other octet = not (octet == 47)

abbrev has_none : List ℕ → Type 0
has_none host = All (λ octet. octet ≢ 47) host

-- this many octets precede the first slash
before_slash : (a r : List ℕ) → has_none a → prefix_len is_other (a ++ 47 ∷ r) ≡ length a
before_slash [] r free = refl
before_slash (x ∷ a) r free =
    let here : x ≢ 47 = free 0 x (omega arith) in
    let other : (x == 47) ≡ false = grind (arith, nat_tests) in
    let rest : has_none a = λ k d below. free (suc k) d (omega arith) in
    let more : 1 + prefix_len is_other (a ++ 47 ∷ r) ≡ suc (length a) = omega (arith, before_slash a r rest) in
    ap (λ b. cond (not b) (1 + prefix_len is_other (a ++ 47 ∷ r)) 0) other ∙ more

-- the first slash is at this index
first_slash : (a r : List ℕ) → has_none a → position is_slash (a ++ 47 ∷ r) ≡ Some (length a)
first_slash a r free =
    let more : length (a ++ 47 ∷ r) ≡ length a + suc (length r) = length-append a (47 ∷ r) in
    let below : nat_lt (length a) (length (a ++ 47 ∷ r)) ≡ true = grind (arith, nat_tests, more) in
    ap (λ n. cond (nat_lt n (length (a ++ 47 ∷ r))) (Some n) None) (before_slash a r free)
    ∙ ap (λ b. cond b (Some (length a)) None) below

-- a text around its first slash
record Around (t : List ℕ) (n : ℕ) : Type 0 where
  front : List ℕ
  back : List ℕ
  joined : t ≡ front ++ 47 ∷ back
  long : length front ≡ n
  free : has_none front

around : (t : List ℕ) → prefix_len is_other t < length t → Around t (prefix_len is_other t)
around [] below = absurd (omega arith)
around (x ∷ t) below =
    elim (x == 47) as (λ v. (x == 47) ≡ v → cond (not v) (1 + prefix_len is_other t) 0 < suc (length t) → Around (x ∷ t) (cond (not v) (1 + prefix_len is_other t) 0)) [
      | true ↦ λ e l. let is : x ≡ 47 = grind (arith, nat_tests) in
          record { front = []; back = t; joined = ap (λ y. y ∷ t) is; long = refl; free = λ k d none. absurd (omega arith) }
      | false ↦ λ e l.
          let rest = around t (omega (arith, l)) in
          let here : x ≢ 47 = λ is. absurd (grind (arith, nat_tests)) in
          let longer : length rest.front ≡ prefix_len is_other t → suc (length rest.front) ≡ 1 + prefix_len is_other t = λ h. omega (arith, h) in
          record {
            front = x ∷ rest.front;
            back = rest.back;
            joined = ap (λ y. x ∷ y) rest.joined;
            long = longer rest.long;
            free = λ k d k_below. elim k as (λ j. j < suc (length rest.front) → get_or (x ∷ rest.front) j d ≢ 47) [
              | zero ↦ λ b. here
              | suc j ↦ λ b. rest.free j d (omega arith)
            ] k_below;
          }
    ] refl below

-- `http://`
abbrev scheme : List ℕ
scheme = behind_scheme []

-- `:80`
abbrev colon_80 : List ℕ
colon_80 = 58 ∷ 56 ∷ 48 ∷ []

-- the meaning of a position that was found
found_at : (t : List ℕ) (n : ℕ) → position is_slash t ≡ Some n → (prefix_len is_other t < length t) × (prefix_len is_other t ≡ n)
found_at t n =
    elim (nat_lt (prefix_len is_other t) (length t)) as (λ v. nat_lt (prefix_len is_other t) (length t) ≡ v → cond v (Some (prefix_len is_other t)) None ≡ Some n → (prefix_len is_other t < length t) × (prefix_len is_other t ≡ n)) [
      | true ↦ λ e is. (grind (arith, nat_tests), cc)
      | false ↦ λ e is. absurd cc
    ] refl

-- a host followed by `:80` ends with `:80`
ends_so : (host : List ℕ) → ends_with nat_eq (host ++ colon_80) colon_80 ≡ true
ends_so host =
    let long : length (host ++ colon_80) ≡ length host + 3 = length-append host colon_80 in
    let start : length (host ++ colon_80) - 3 ≡ length host = omega arith in
    ap (λ n. pointwise nat_eq colon_80 (drop n (host ++ colon_80))) start ∙ ap (pointwise nat_eq colon_80) (drop-append_seam host colon_80)

-- a text that ends with `:80` has a host before it
host_of : (t : List ℕ) → ends_with nat_eq t colon_80 ≡ true → t ≡ take (length t - 3) t ++ colon_80
host_of t e =
    let last : colon_80 ≡ drop (length t - 3) t = (bytes_decides colon_80 (drop (length t - 3) t)).0 e in
    sym (take-append-drop (length t - 3) t) ∙ ap (λ l. take (length t - 3) t ++ l) (sym last)

-- the key of a URI whose first slash follows this front
key_behind : (front back : List ℕ) → has_none front →
    uri_key (behind_scheme (front ++ 47 ∷ back)) ≡ without_port (behind_scheme (front ++ 47 ∷ back)) (if ends_with nat_eq front colon_80 then Some (length front) else None)
unfolding uri_key slash_behind_80
key_behind front back free =
    let uri = behind_scheme (front ++ 47 ∷ back) in
    let there = first_slash front back free in
    let seam : take (length front) (front ++ 47 ∷ back) ≡ front = take-append_seam front (47 ∷ back) in
    ap (λ (place : Option ℕ). without_port uri (port_before uri place)) there
    ∙ ap (λ l. without_port uri (if ends_with nat_eq l colon_80 then Some (length front) else None)) seam

-- a host without a slash has none with `:80` appended
front_free : (host : List ℕ) → has_none host → has_none (host ++ colon_80)
front_free [] free = λ k d below. elim k as (λ j. j < 3 → get_or colon_80 j d ≢ 47) [
  | zero ↦ λ b e. absurd (omega (arith, e))
  | suc zero ↦ λ b e. absurd (omega (arith, e))
  | suc (suc zero) ↦ λ b e. absurd (omega (arith, e))
  | suc (suc (suc j)) ↦ λ b. absurd (omega (arith, b))
] below
front_free (x ∷ host) free = λ k d below. elim k as (λ j. j < suc (length (host ++ colon_80)) → get_or (x ∷ (host ++ colon_80)) j d ≢ 47) [
  | zero ↦ λ b. free 0 x (omega arith)
  | suc j ↦ λ b. front_free host (λ i c i_below. free (suc i) c (omega (arith, i_below))) j d (omega (arith, b))
] below

-- the law for URIs that name port 80
pub key_without : (uri host rest : List ℕ) → NamesPort80 uri host rest → uri_key uri ≡ behind_scheme (host ++ 47 ∷ rest)
key_without uri host rest names =
    let front : List ℕ = host ++ colon_80 in
    let joined : front ++ 47 ∷ rest ≡ host ++ at_port_80 rest = append_assoc host colon_80 (47 ∷ rest) in
    let long : length front ≡ length host + 3 = length-append host colon_80 in
    let free : has_none front = λ k d below. front_free host names.free k d below in
    let same : uri ≡ behind_scheme (front ++ 47 ∷ rest) = names.spelled ∙ ap behind_scheme (sym joined) in
    let four : length front + 4 ≡ 7 + length host = omega (arith, long) in
    let seven : length front + 7 ≡ 7 + (length host + 3) = omega (arith, long) in
    let before : take (length front + 4) (behind_scheme (front ++ 47 ∷ rest)) ≡ behind_scheme host =
    ap₂ (λ n l. take n (behind_scheme l)) four joined ∙ take-append-add scheme (host ++ at_port_80 rest) (length host) ∙ ap behind_scheme (take-append_seam host (at_port_80 rest)) in
    let after : drop (length front + 7) (behind_scheme (front ++ 47 ∷ rest)) ≡ 47 ∷ rest =
    ap₂ (λ n l. drop n (behind_scheme l)) seven joined ∙ drop-append-add scheme (host ++ at_port_80 rest) (length host + 3) ∙ drop-append-add host (at_port_80 rest) 3 in
    ap uri_key same ∙ key_behind front rest free
    ∙ ap (λ v. without_port (behind_scheme (front ++ 47 ∷ rest)) (if v then Some (length front) else None)) (ends_so host)
    ∙ ap₂ (λ a b. a ++ b) before after

-- the front of a host without slash has none
front_part : (m : ℕ) (front : List ℕ) → has_none front → has_none (take m front)
front_part m front free = λ k d below.
    let short : length (take m front) ≡ min m (length front) = length-take m front in
    let at : get_or (take m front) k d ≡ get_or front k d = get_or-take m front k d (omega (arith, short, below)) in
    subst (λ (x : ℕ). x ≢ 47) (sym at) (free k d (omega (arith, short, below)))

-- an http URI is its scheme followed by the rest
scheme_first : (uri : List ℕ) → is_http uri ≡ true → uri ≡ behind_scheme (drop 7 uri)
scheme_first uri e =
    let first : 104 ∷ 116 ∷ 116 ∷ 112 ∷ 58 ∷ 47 ∷ 47 ∷ [] ≡ take 7 uri = (bytes_decides (104 ∷ 116 ∷ 116 ∷ 112 ∷ 58 ∷ 47 ∷ 47 ∷ []) (take 7 uri)).0 e in
    sym (take-append-drop 7 uri) ∙ ap (λ l. l ++ drop 7 uri) (sym first)

-- the key of a URI with a slash after its scheme that doesn't name port 80
key_around : (uri : List ℕ) (n : ℕ) → uri ≡ behind_scheme (drop 7 uri) → Around (drop 7 uri) n → ((host rest : List ℕ) → NamesPort80 uri host rest → ⊥) → uri_key uri ≡ uri
key_around uri n spelled parts never =
    let same : uri ≡ behind_scheme (parts.front ++ 47 ∷ parts.back) = spelled ∙ ap behind_scheme parts.joined in
    elim (ends_with nat_eq parts.front colon_80) as (λ v. ends_with nat_eq parts.front colon_80 ≡ v → uri_key uri ≡ uri) [
      | true ↦ λ e.
          let host : List ℕ = take (length parts.front - 3) parts.front in
          let named : uri ≡ behind_scheme (host ++ at_port_80 parts.back) =
          same ∙ ap (λ l. behind_scheme (l ++ 47 ∷ parts.back)) (host_of parts.front e) ∙ ap behind_scheme (append_assoc host colon_80 (47 ∷ parts.back)) in
          absurd (never host parts.back (record { spelled = named; free = front_part (length parts.front - 3) parts.front parts.free }))
      | false ↦ λ e.
          ap uri_key same ∙ key_behind parts.front parts.back parts.free
          ∙ ap (λ v. without_port (behind_scheme (parts.front ++ 47 ∷ parts.back)) (if v then Some (length parts.front) else None)) e
          ∙ sym same
    ] refl

-- the law for all others
pub key_itself : (uri : List ℕ) → ((host rest : List ℕ) → NamesPort80 uri host rest → ⊥) → uri_key uri ≡ uri
unfolding uri_key slash_behind_80
key_itself uri never =
    elim (is_http uri) as (λ v. is_http uri ≡ v → without_port uri (if v then port_before uri (host_end uri) else None) ≡ uri) [
      | true ↦ λ http. elim (host_end uri) as (λ o. host_end uri ≡ o → without_port uri (port_before uri o) ≡ uri) [
        | None ↦ λ e. refl
        | Some n ↦ λ e.
            let found = found_at (drop 7 uri) n e in
            let whole = key_around uri _ (scheme_first uri http) (around (drop 7 uri) found.0) never in
            ap (λ o. without_port uri (port_before uri o)) (sym e) ∙ ap (λ b. without_port uri (if b then port_before uri (host_end uri) else None)) (sym http) ∙ whole
      ] refl
      | false ↦ λ e. refl
    ] refl

-- The executable test for keys of the store agrees with their definition.
use Rattle.std.proofs.Common.{◌≡◌, ℕ, ◌&&◌, Bool, true, false, cond, nat_le, List, length, take, codes, bytes_eq, All, Some, None, refl, ap, sym, ◌∙◌}
use Rattle.std.proofs.lemmas.Bool.{leb-true, le-leb}
use Rattle.std.proofs.lemmas.List.Sums.{AllPass-from_list_all, list_all-from_AllPass}
use Rattle.std.proofs.lemmas.Slice.Eq.{bytes_eq-Decides}
use Rattle.std.specs.List.{list_all}
use Rattle.object_store.specs.Key.{IsKey, IsVisible}
use Rattle.script_lines.specs.Words.{is_visible, key}

-- conjunctions of tests
both : (a b : Bool) → a ≡ true → b ≡ true → (a && b) ≡ true
both true b p q = q
both false b p q = p

first-of : (a b : Bool) → (a && b) ≡ true → a ≡ true
first-of true b p = refl
first-of false b p = p

second-of : (a b : Bool) → (a && b) ≡ true → b ≡ true
second-of true b p = p
second-of false b p = absurd cc

visible-so : (c : ℕ) → IsVisible c → is_visible c ≡ true
visible-so c h = both (nat_le 33 c) (nat_le c 126) (le-leb 33 c h.0) (le-leb c 126 h.1)

visible-is : (c : ℕ) → is_visible c ≡ true → IsVisible c
visible-is c h = (leb-true 33 c (first-of (nat_le 33 c) (nat_le c 126) h), leb-true c 126 (second-of (nat_le 33 c) (nat_le c 126) h))

all-so : (cs : List ℕ) → All IsVisible cs → list_all is_visible cs ≡ true
all-so cs h = list_all-from_AllPass is_visible cs (λ k d inside. visible-so _ (h k d inside))

all-is : (cs : List ℕ) → list_all is_visible cs ≡ true → All IsVisible cs
all-is cs h = λ k d inside. visible-is _ (AllPass-from_list_all is_visible cs h k d inside)

-- the three tests for a key
abbrev pub tests_of : List ℕ → Bool
tests_of text = nat_le (length text) 8192 && (bytes_eq (take 7 text) (codes "http://") && list_all is_visible text)

tests-so : (text : List ℕ) → IsKey text → tests_of text ≡ true
tests-so text h =
    both (nat_le (length text) 8192) (bytes_eq (take 7 text) (codes "http://") && list_all is_visible text)
    (le-leb (length text) 8192 h.short)
    (both (bytes_eq (take 7 text) (codes "http://")) (list_all is_visible text) ((bytes_eq-Decides (take 7 text) (codes "http://")).1 h.begins) (all-so text h.visible))

tests-are : (text : List ℕ) → tests_of text ≡ true → IsKey text
tests-are text h =
    let more = second-of (nat_le (length text) 8192) (bytes_eq (take 7 text) (codes "http://") && list_all is_visible text) h in
    record {
      begins = (bytes_eq-Decides (take 7 text) (codes "http://")).0 (first-of (bytes_eq (take 7 text) (codes "http://")) (list_all is_visible text) more);
      short = leb-true (length text) 8192 (first-of (nat_le (length text) 8192) (bytes_eq (take 7 text) (codes "http://") && list_all is_visible text) h);
      visible = all-is text (second-of (bytes_eq (take 7 text) (codes "http://")) (list_all is_visible text) more);
    }

pub key-some : (text : List ℕ) → IsKey text → key text ≡ Some text
key-some text h = ap (λ b. cond b (Some text) None) (tests-so text h)

none-where : (text : List ℕ) (b : Bool) → (b ≡ true → ⊥) → cond b (Some text) None ≡ None
none-where text true h = absurd (h refl)
none-where text false h = refl

pub key-none : (text : List ℕ) → (IsKey text → ⊥) → key text ≡ None
key-none text h = none-where text (tests_of text) (λ so. h (tests-are text so))

-- the same for a copy of the text
pub key-value : (text octets found : List ℕ) → octets ≡ text → found ≡ octets → IsKey octets → Some found ≡ key text
key-value text octets found same value h =
    ap Some value ∙ sym (key-some octets h) ∙ ap key same

pub key-none-of : (text octets : List ℕ) → octets ≡ text → (IsKey octets → ⊥) → None ≡ key text
key-none-of text octets same h = sym (key-none octets h) ∙ ap key same

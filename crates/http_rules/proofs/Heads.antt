-- Looking up a name in a header map agrees with the list of fields that it holds.
use Rattle.std.proofs.Common.{◌≡◌, ℕ, suc, ◌<◌, ◌≢◌, List, [], ◌∷◌, ◌++◌, length, map, filter, bytes_eq, slice_get, option_map, true, false, refl, sym, ap, ◌∙◌, inl, inr, arith}
use Rattle.std.proofs.lemmas.Bool.{cases_Bool}
use Rattle.std.proofs.lemmas.List.{map-append}
use Rattle.std.proofs.lemmas.List.Elements.{filter-append}
use Rattle.std.proofs.lemmas.Slice.Eq.{bytes_eq-Decides}
use Rattle.http_header.specs.HeaderMap.{Entry, Entries, entry_at, get_all, get, IsUnique}
use Rattle.http_header.specs.FieldValue.{FieldValue}
use Rattle.http_rules.specs.Fields.{Field, fields_of, values_of, first_value}

-- no entry has the name
abbrev IsMissing : List ℕ → Entries FieldValue → Type 0
IsMissing name m = (i : ℕ) → i < length m → (entry_at m i).0 ≢ name

differ : (a b : List ℕ) → a ≢ b → bytes_eq a b ≡ false
differ a b n = elim (cases_Bool (bytes_eq a b)) [ inl t ↦ absurd (n ((bytes_eq-Decides a b).0 t)) | inr f ↦ f ]

-- a map without its first entry has distinct names
rest_unique : (e : Entry FieldValue) (m : Entries FieldValue) → IsUnique (e ∷ m) → IsUnique m
rest_unique e m u i j hi hj k =
    let same : suc i ≡ suc j = u (suc i) (suc j) (omega arith) (omega arith) k in
    omega arith

-- no other entry has the name of the first
first_missing : (e : Entry FieldValue) (m : Entries FieldValue) → IsUnique (e ∷ m) → IsMissing e.0 m
first_missing e m u i hi k =
    let same : 0 ≡ suc i = u 0 (suc i) (omega arith) (omega arith) (sym k) in
    absurd (omega arith)

-- the fields of one entry
abbrev entry_fields : List ℕ → List FieldValue → List Field
entry_fields key values = map (λ v. (key, v.bytes)) values

-- the values of fields
abbrev bytes_of : List FieldValue → List (List ℕ)
bytes_of values = map (λ v. v.bytes) values

fields-cons : (key : List ℕ) (values : List FieldValue) (m : Entries FieldValue)
    → fields_of ((key, values) ∷ m) ≡ entry_fields key values ++ fields_of m
fields-cons key [] m = refl
fields-cons key (v ∷ vs) m = ap (λ (fs : List Field). (key, v.bytes) ∷ fs) (fields-cons key vs m)

values-append : (name : List ℕ) (xs ys : List Field) → values_of name (xs ++ ys) ≡ values_of name xs ++ values_of name ys
values-append name xs ys =
    ap (map (λ (f : Field). f.1)) (filter-append (λ (f : Field). bytes_eq f.0 name) xs ys)
    ∙ map-append (λ (f : Field). f.1) (filter (λ (f : Field). bytes_eq f.0 name) xs) (filter (λ (f : Field). bytes_eq f.0 name) ys)

values_same : (name key : List ℕ) (values : List FieldValue) → bytes_eq key name ≡ true → values_of name (entry_fields key values) ≡ bytes_of values
values_same name key [] h = refl
values_same name key (v ∷ vs) h = rw h (ap (λ (xs : List (List ℕ)). v.bytes ∷ xs) (values_same name key vs h))

values_other : (name key : List ℕ) (values : List FieldValue) → bytes_eq key name ≡ false → values_of name (entry_fields key values) ≡ []
values_other name key [] h = refl
values_other name key (v ∷ vs) h = rw h (values_other name key vs h)

values_cons : (name key : List ℕ) (values : List FieldValue) (m : Entries FieldValue)
    → values_of name (fields_of ((key, values) ∷ m)) ≡ values_of name (entry_fields key values) ++ values_of name (fields_of m)
values_cons name key values m = ap (values_of name) (fields-cons key values m) ∙ values-append name (entry_fields key values) (fields_of m)

values_missing : (name : List ℕ) (m : Entries FieldValue) → IsMissing name m → values_of name (fields_of m) ≡ []
values_missing name [] h = refl
values_missing name (e ∷ m) h =
    let apart = differ e.0 name (h 0 (omega arith)) in
    values_cons name e.0 e.1 m
    ∙ ap (λ (xs : List (List ℕ)). xs ++ values_of name (fields_of m)) (values_other name e.0 e.1 apart)
    ∙ values_missing name m (λ i hi. h (suc i) (omega arith))

append_none : (xs ys : List (List ℕ)) → ys ≡ [] → xs ++ ys ≡ xs
append_none [] ys h = h
append_none (x ∷ xs) ys h = ap (λ (zs : List (List ℕ)). x ∷ zs) (append_none xs ys h)

-- the values of a name in a map are those in its list of fields
pub values-get_all : (name : List ℕ) (m : Entries FieldValue) → IsUnique m → map (λ v. v.bytes) (get_all m name) ≡ values_of name (fields_of m)
values-get_all name [] u = refl
values-get_all name (e ∷ m) u =
    elim (cases_Bool (bytes_eq e.0 name)) [
      | inl t ↦
          let same : e.0 ≡ name = (bytes_eq-Decides e.0 name).0 t in
          let none : values_of name (fields_of m) ≡ [] = values_missing name m (rw same at (first_missing e m u)) in
          rw t (sym (values_cons name e.0 e.1 m
          ∙ append_none (values_of name (entry_fields e.0 e.1)) (values_of name (fields_of m)) none
          ∙ values_same name e.0 e.1 t))
      | inr f ↦
          rw f (values-get_all name m (rest_unique e m u)
          ∙ sym (values_cons name e.0 e.1 m
          ∙ ap (λ (xs : List (List ℕ)). xs ++ values_of name (fields_of m)) (values_other name e.0 e.1 f)))
    ]

first-map : (values : List FieldValue) → slice_get (map (λ (v : FieldValue). v.bytes) values) 0 ≡ option_map (λ (v : FieldValue). v.bytes) (slice_get values 0)
first-map [] = refl
first-map (v ∷ vs) = refl

-- the first value of a name in a map is that in its list of fields
pub first_value-get : (name : List ℕ) (m : Entries FieldValue) → IsUnique m → option_map (λ v. v.bytes) (get m name) ≡ first_value name (fields_of m)
first_value-get name m u =
    sym (first-map (get_all m name)) ∙ ap (λ (xs : List (List ℕ)). slice_get xs 0) (values-get_all name m u)

-- Directives that are found one after another.
use Rattle.std.proofs.Common.{◌≡◌, ℕ, List, [], ◌∷◌, ◌++◌, map, flat_map, find, codes, bytes_eq, Bool, true, false, cond, ◌||◌, Option, Some, None, is_some, option_map, refl, sym, ap, ◌∙◌}
use Rattle.std.specs.List.{list_any}
use Rattle.std.specs.Option.{option_or}
use Rattle.std.proofs.lemmas.List.Folds.{list_any-append}
use Rattle.http_header.specs.Token.{lowercase}
use Rattle.http_rules.specs.declared.directives.Place.TheVariants.{Plain}
use Rattle.http_rules.specs.Fields.{Field, values_of}
use Rattle.http_rules.specs.Directives.{first_argument, argument_seconds, directives, directives_in, directive_of, elements_from}
use Rattle.http_rules.specs.Elements.{is_among, is_loosely_among, seconds_among}
use Rattle.http_rules.specs.Forbidding.{before_semicolon, forbids, forbids_in}
use Rattle.http_rules.proofs.Elements.{first_argument-cons}

-- a directive in front has the name, or one of the others
is_among-cons : (word : List ℕ) (d : List ℕ × List ℕ) (ds : List (List ℕ × List ℕ)) → is_among word (d ∷ ds) ≡ (bytes_eq d.0 word || is_among word ds)
is_among-cons word d ds = by (bytes_eq d.0 word)
  where
    by : (b : Bool) → is_some (option_map (λ (x : List ℕ × List ℕ). x.1) (cond b (Some d) (find (λ (x : List ℕ × List ℕ). bytes_eq x.0 word) ds)))
        ≡ (b || is_some (option_map (λ (x : List ℕ × List ℕ). x.1) (find (λ (x : List ℕ × List ℕ). bytes_eq x.0 word) ds)))
    by true = refl
    by false = refl

-- or, in another grouping
pub or_grouped : (a b c : Bool) → (a || (b || c)) ≡ ((a || b) || c)
or_grouped true b c = refl
or_grouped false b c = refl

pub or_nothing : (a : Bool) → (a || false) ≡ a
or_nothing true = refl
or_nothing false = refl

option_or_grouped : {X : Type 0} (a b c : Option X) → option_or a (option_or b c) ≡ option_or (option_or a b) c
option_or_grouped (Some x) b c = refl
option_or_grouped None b c = refl

pub option_or_nothing : {X : Type 0} (a : Option X) → option_or a None ≡ a
option_or_nothing (Some x) = refl
option_or_nothing None = refl

-- one more directive is looked at for a name
pub flag_step : (word : List ℕ) (d : List ℕ × List ℕ) (rest whole : List (List ℕ × List ℕ)) (found now : Bool)
    → is_among word whole ≡ (found || is_among word (d ∷ rest)) → now ≡ (found || bytes_eq d.0 word)
    → is_among word whole ≡ (now || is_among word rest)
flag_step word d rest whole found now h e =
    h ∙ ap (λ (b : Bool). found || b) (is_among-cons word d rest) ∙ or_grouped found (bytes_eq d.0 word) (is_among word rest)
    ∙ ap (λ (b : Bool). b || is_among word rest) (sym e)

seconds-or : (a b : Option (List ℕ)) → option_map argument_seconds (option_or a b) ≡ option_or (option_map argument_seconds a) (option_map argument_seconds b)
seconds-or (Some x) b = refl
seconds-or None b = refl

-- one more directive is looked at for its seconds
pub seconds_step : (word : List ℕ) (d : List ℕ × List ℕ) (rest whole : List (List ℕ × List ℕ)) (found now : Option (Option ℕ))
    → seconds_among word whole ≡ option_or found (seconds_among word (d ∷ rest)) → now ≡ option_or found (seconds_among word (d ∷ []))
    → seconds_among word whole ≡ option_or now (seconds_among word rest)
seconds_step word d rest whole found now h e =
    h ∙ ap (λ (o : Option (List ℕ)). option_or found (option_map argument_seconds o)) (first_argument-cons word d rest)
    ∙ ap (option_or found) (seconds-or (first_argument word (d ∷ [])) (first_argument word rest))
    ∙ option_or_grouped found (seconds_among word (d ∷ [])) (seconds_among word rest)
    ∙ ap (λ (o : Option (Option ℕ)). option_or o (seconds_among word rest)) (sym e)

-- one more directive, which hasn't the name, is looked at for it
pub flag_kept : (word : List ℕ) (d : List ℕ × List ℕ) (rest whole : List (List ℕ × List ℕ)) (found : Bool)
    → is_among word whole ≡ (found || is_among word (d ∷ rest)) → bytes_eq d.0 word ≡ false
    → is_among word whole ≡ (found || is_among word rest)
flag_kept word d rest whole found h e = h ∙ ap (λ (b : Bool). found || b) (is_among-cons word d rest ∙ ap (λ (b : Bool). b || is_among word rest) e)

first_argument-kept : (word : List ℕ) (d : List ℕ × List ℕ) (ds : List (List ℕ × List ℕ)) → bytes_eq d.0 word ≡ false
    → first_argument word (d ∷ ds) ≡ first_argument word ds
first_argument-kept word d ds e =
    ap (λ (b : Bool). option_map (λ (x : List ℕ × List ℕ). x.1) (cond b (Some d) (find (λ (x : List ℕ × List ℕ). bytes_eq x.0 word) ds))) e

-- likewise for its seconds
pub seconds_kept : (word : List ℕ) (d : List ℕ × List ℕ) (rest whole : List (List ℕ × List ℕ)) (found : Option (Option ℕ))
    → seconds_among word whole ≡ option_or found (seconds_among word (d ∷ rest)) → bytes_eq d.0 word ≡ false
    → seconds_among word whole ≡ option_or found (seconds_among word rest)
seconds_kept word d rest whole found h e =
    h ∙ ap (λ (o : Option (List ℕ)). option_or found (option_map argument_seconds o)) (first_argument-kept word d rest e)

-- one more directive is looked at for a name, perhaps before a semicolon
pub loose_step : (word : List ℕ) (d : List ℕ × List ℕ) (rest whole : List (List ℕ × List ℕ)) (found now : Bool) (front : List ℕ)
    → is_loosely_among word whole ≡ (found || is_loosely_among word (d ∷ rest)) → lowercase front ≡ before_semicolon d.0
    → now ≡ (found || bytes_eq (lowercase front) word) → is_loosely_among word whole ≡ (now || is_loosely_among word rest)
loose_step word d rest whole found now front h s e =
    h ∙ or_grouped found (bytes_eq (before_semicolon d.0) word) (is_loosely_among word rest)
    ∙ ap (λ (b : Bool). b || is_loosely_among word rest) (ap (λ (n : List ℕ). found || bytes_eq n word) (sym s) ∙ sym e)

-- one more directive, which hasn't the name, is looked at for it
pub loose_kept : (word : List ℕ) (d : List ℕ × List ℕ) (rest whole : List (List ℕ × List ℕ)) (found : Bool)
    → is_loosely_among word whole ≡ (found || is_loosely_among word (d ∷ rest)) → bytes_eq (before_semicolon d.0) word ≡ false
    → is_loosely_among word whole ≡ (found || is_loosely_among word rest)
loose_kept word d rest whole found h e = h ∙ ap (λ (b : Bool). found || (b || is_loosely_among word rest)) e

any-map : {X Y : Type 0} (p : Y → Bool) (f : X → Y) (xs : List X) → list_any p (map f xs) ≡ list_any (λ x. p (f x)) xs
any-map p f [] = refl
any-map p f (x ∷ xs) = ap (λ (b : Bool). p (f x) || b) (any-map p f xs)

-- a head forbids by its directives
loosely : (word : List ℕ) (values : List (List ℕ)) → is_loosely_among word (flat_map directives_in values) ≡ list_any (forbids_in word) values
loosely word [] = refl
loosely word (v ∷ vs) =
    list_any-append (λ (d : List ℕ × List ℕ). bytes_eq (before_semicolon d.0) word) (directives_in v) (flat_map directives_in vs)
    ∙ ap (λ (b : Bool). b || is_loosely_among word (flat_map directives_in vs)) (any-map (λ (d : List ℕ × List ℕ). bytes_eq (before_semicolon d.0) word) directive_of (elements_from Plain v))
    ∙ ap (λ (b : Bool). forbids_in word v || b) (loosely word vs)

pub whole_loose : (word : List ℕ) (fields : List Field) (found : Bool)
    → is_loosely_among word (directives fields) ≡ (found || is_loosely_among word []) → found ≡ forbids word fields
whole_loose word fields found h = sym (h ∙ or_nothing found) ∙ loosely word (values_of (codes "cache-control") fields)

-- with no rest, what was found is the whole
pub whole_flag : (word : List ℕ) (whole : List (List ℕ × List ℕ)) (found : Bool) → is_among word whole ≡ (found || is_among word []) → found ≡ is_among word whole
whole_flag word whole found h = sym (h ∙ or_nothing found)

pub whole_seconds : (word : List ℕ) (whole : List (List ℕ × List ℕ)) (found : Option (Option ℕ))
    → seconds_among word whole ≡ option_or found (seconds_among word []) → found ≡ seconds_among word whole
whole_seconds word whole found h = sym (h ∙ option_or_nothing found)

-- Directives of the fields of a stored object, one field after another.
use Rattle.std.proofs.Common.{◌≡◌, ◌∙◌, ◌<◌, ◌+◌, ℕ, List, [], ◌∷◌, Vec, length, drop, filter, map, flat_map, bytes_eq, codes, Bool, true, false, cond, ◌||◌, Option, refl, sym, ap}
use Rattle.std.specs.declared.alloc.Global.{Global}
use Rattle.std.specs.List.{list_any}
use Rattle.std.specs.Option.{option_or}
use Rattle.std.proofs.Math.ListN.{get_or}
use Rattle.std.proofs.lemmas.List.{drop_more}
use Rattle.http_rules.specs.Fields.{Field}
use Rattle.http_rules.specs.Directives.{argument, directives_in, first_argument, is_unclosed, has_unclosed}
use Rattle.http_rules.specs.Forbidding.{forbids, forbids_in}
use Rattle.http_rules.specs.Validators.{stored_fields}
use Rattle.http_rules.proofs.Found.{option_or_nothing, or_nothing}
use Rattle.http_rules.proofs.Named.{first_argument-append}

-- the fields of an object from a place on, where this one is next
fields_next : (object : List (Vec ℕ Global × Vec ℕ Global)) (i : ℕ) (field : Vec ℕ Global × Vec ℕ Global) → i < length object
    → field ≡ get_or object i field
    → stored_fields (drop i object) ≡ (field.0.items, field.1.items) ∷ stored_fields (drop (i + 1) object)
fields_next object i field h e =
    ap stored_fields (drop_more object i field h ∙ ap (λ (f : Vec ℕ Global × Vec ℕ Global). f ∷ drop (i + 1) object) (sym e))

-- the directives of the values of some fields
abbrev directives_from : List Field → List (List ℕ × List ℕ)
directives_from fields = flat_map directives_in (map (λ f. f.1) fields)

-- a field's directives are looked at before those of the others
argument_cons : (name : List ℕ) (f : Field) (fs : List Field) → argument name (f ∷ fs) ≡ option_or (argument name (f ∷ [])) (argument name fs)
argument_cons name f fs = by (bytes_eq f.0 (codes "cache-control"))
  where
    others : List Field
    others = filter (λ (g : Field). bytes_eq g.0 (codes "cache-control")) fs

    by : (b : Bool)
        → first_argument name (directives_from (cond b (f ∷ others) others))
        ≡ option_or (first_argument name (directives_from (cond b (f ∷ []) []))) (first_argument name (directives_from others))
    by true =
        first_argument-append name (directives_in f.1) (directives_from others)
        ∙ ap (λ (a : Option (List ℕ)). option_or a (first_argument name (directives_from others)))
        (sym (first_argument-append name (directives_in f.1) [] ∙ option_or_nothing (first_argument name (directives_in f.1))))
    by false = refl

-- it is in the next field of an object, or else behind it
pub argument_step : (name : List ℕ) (object : List (Vec ℕ Global × Vec ℕ Global)) (i : ℕ) (field : Vec ℕ Global × Vec ℕ Global)
    → i < length object → field ≡ get_or object i field
    → argument name (stored_fields (drop i object))
    ≡ option_or (argument name ((field.0.items, field.1.items) ∷ [])) (argument name (stored_fields (drop (i + 1) object)))
argument_step name object i field h e =
    ap (argument name) (fields_next object i field h e)
    ∙ argument_cons name (field.0.items, field.1.items) (stored_fields (drop (i + 1) object))

-- a field has an unclosed quote, or one of the others
unclosed_cons : (f : Field) (fs : List Field) → has_unclosed (f ∷ fs) ≡ (has_unclosed (f ∷ []) || has_unclosed fs)
unclosed_cons f fs = by (bytes_eq f.0 (codes "cache-control"))
  where
    others : List Field
    others = filter (λ (g : Field). bytes_eq g.0 (codes "cache-control")) fs

    open_in : List Field → Bool
    open_in fields = list_any is_unclosed (map (λ (g : Field). g.1) fields)

    by : (b : Bool) → open_in (cond b (f ∷ others) others) ≡ (open_in (cond b (f ∷ []) []) || open_in others)
    by true = ap (λ (b : Bool). b || open_in others) (sym (or_nothing (is_unclosed f.1)))
    by false = refl

-- the next field of an object has one, or one behind it
pub unclosed_step : (object : List (Vec ℕ Global × Vec ℕ Global)) (i : ℕ) (field : Vec ℕ Global × Vec ℕ Global) → i < length object
    → field ≡ get_or object i field
    → has_unclosed (stored_fields (drop i object))
    ≡ (has_unclosed ((field.0.items, field.1.items) ∷ []) || has_unclosed (stored_fields (drop (i + 1) object)))
unclosed_step object i field h e =
    ap has_unclosed (fields_next object i field h e) ∙ unclosed_cons (field.0.items, field.1.items) (stored_fields (drop (i + 1) object))

-- a field forbids something, or one of the others
forbids_cons : (name : List ℕ) (f : Field) (fs : List Field) → forbids name (f ∷ fs) ≡ (forbids name (f ∷ []) || forbids name fs)
forbids_cons name f fs = by (bytes_eq f.0 (codes "cache-control"))
  where
    others : List Field
    others = filter (λ (g : Field). bytes_eq g.0 (codes "cache-control")) fs

    forbids_of : List Field → Bool
    forbids_of fields = list_any (forbids_in name) (map (λ (g : Field). g.1) fields)

    by : (b : Bool) → forbids_of (cond b (f ∷ others) others) ≡ (forbids_of (cond b (f ∷ []) []) || forbids_of others)
    by true = ap (λ (b : Bool). b || forbids_of others) (sym (or_nothing (forbids_in name f.1)))
    by false = refl

-- the next field of an object forbids something, or one behind it
pub forbids_step : (name : List ℕ) (object : List (Vec ℕ Global × Vec ℕ Global)) (i : ℕ) (field : Vec ℕ Global × Vec ℕ Global)
    → i < length object → field ≡ get_or object i field
    → forbids name (stored_fields (drop i object))
    ≡ (forbids name ((field.0.items, field.1.items) ∷ []) || forbids name (stored_fields (drop (i + 1) object)))
forbids_step name object i field h e =
    ap (forbids name) (fields_next object i field h e) ∙ forbids_cons name (field.0.items, field.1.items) (stored_fields (drop (i + 1) object))

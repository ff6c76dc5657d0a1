-- Fields that are looked through for some names, and what follows where there is none.
use Rattle.std.proofs.Common.{◌≡◌, ℕ, List, [], ◌∷◌, codes, map, filter, flat_map, bytes_eq, slice_get, not, Bool, true, false, cond, ◌&&◌, ◌||◌, Option, Some, None, is_some, option_and_then, refl, ap, ◌∙◌}
use Rattle.std.specs.Prelude.{Result, Ok, Err}
use Rattle.std.specs.List.{list_any, list_all}
use Rattle.httpdate.specs.Date.{parse_secs}
use Rattle.node_terms.specs.declared.mode.Mode.{Mode}
use Rattle.node_terms.specs.declared.mode.Mode.TheVariants.{Shared, Cached, Private}
use Rattle.http_rules.specs.declared.conditions.StoredAnswer.{StoredAnswer}
use Rattle.http_rules.specs.declared.conditions.StoredAnswer.TheVariants.{Whole, NotModified}
use Rattle.http_rules.specs.Fields.{Field, values_of, has_field}
use Rattle.http_rules.specs.Directives.{directives_in, first_argument, asks, is_unclosed, has_unclosed}
use Rattle.http_rules.specs.Forbidding.{forbids, forbids_in}
use Rattle.http_rules.specs.Requests.{mode_of}
use Rattle.http_rules.specs.Reuse.{may_have_no_cache, asks_by_pragma}
use Rattle.http_rules.specs.Choice.{is_own, alone, chosen}
use Rattle.http_rules.specs.Validators.{only_of, modified_at}
use Rattle.http_rules.specs.Ranges.{range_of}
use Rattle.http_rules.specs.Conditions.{is_for_origin, is_not_after, names_object, is_unmodified, is_unchanged, range_still_holds, part_of, part_asked_for, answer_to}
use Rattle.http_rules.specs.Loops.{has_mark, has_come_back}
use Rattle.http_rules.specs.Plain.{deciding_names, is_plain_request, decides}

-- whether none of some names has a field
abbrev absent : List (List ℕ) → List Field → Bool
absent names fields = list_all (λ name. not (has_field name fields)) names

has_field-cons : (name : List ℕ) (f : Field) (fs : List Field) → has_field name (f ∷ fs) ≡ (bytes_eq f.0 name || has_field name fs)
has_field-cons name f fs = by (bytes_eq f.0 name)
  where
    by : (b : Bool) → is_some (slice_get (map (λ (g : Field). g.1) (cond b (f ∷ filter (λ (g : Field). bytes_eq g.0 name) fs) (filter (λ (g : Field). bytes_eq g.0 name) fs))) 0)
        ≡ (b || has_field name fs)
    by true = refl
    by false = refl

absent-cons : (names : List (List ℕ)) (f : Field) (fs : List Field) → absent names (f ∷ fs) ≡ (not (list_any (bytes_eq f.0) names) && absent names fs)
absent-cons [] f fs = refl
absent-cons (n ∷ ns) f fs =
    ap (λ (b : Bool). not b && absent ns (f ∷ fs)) (has_field-cons n f fs)
    ∙ by (bytes_eq f.0 n) (has_field n fs) (list_any (bytes_eq f.0) ns) (absent ns fs) (absent ns (f ∷ fs)) (absent-cons ns f fs)
  where
    by : (b h a r w : Bool) → w ≡ (not a && r) → (not (b || h) && w) ≡ (not (b || a) && (not h && r))
    by true h a r w e = refl
    by false true true r w e = refl
    by false true false r w e = refl
    by false false a r w e = e

absent-none : (names : List (List ℕ)) → absent names [] ≡ true
absent-none [] = refl
absent-none (n ∷ ns) = absent-none ns

-- looked at name by name, or field by field
absent-any : (names : List (List ℕ)) (fields : List Field) → absent names fields ≡ not (list_any (λ f. list_any (bytes_eq f.0) names) fields)
absent-any names [] = absent-none names
absent-any names (f ∷ fs) =
    absent-cons names f fs
    ∙ by (list_any (bytes_eq f.0) names) (list_any (λ (g : Field). list_any (bytes_eq g.0) names) fs) (absent names fs) (absent-any names fs)
  where
    by : (a r w : Bool) → w ≡ not r → (not a && w) ≡ not (a || r)
    by true r w e = refl
    by false r w e = e

pub plain-any : (fields : List Field) → is_plain_request fields ≡ not (list_any (λ f. decides f.0) fields)
plain-any fields = absent-any deciding_names fields

-- a plain request has no field of these names
record HasNone (fields : List Field) : Type 0 where
  authorization : has_field (codes "authorization") fields ≡ false
  cookie : has_field (codes "cookie") fields ≡ false
  cache_control : has_field (codes "cache-control") fields ≡ false
  pragma : has_field (codes "pragma") fields ≡ false
  asked_range : has_field (codes "range") fields ≡ false
  if_match : has_field (codes "if-match") fields ≡ false
  if_none_match : has_field (codes "if-none-match") fields ≡ false
  if_modified_since : has_field (codes "if-modified-since") fields ≡ false
  if_unmodified_since : has_field (codes "if-unmodified-since") fields ≡ false
  cdn_loop : has_field (codes "cdn-loop") fields ≡ false

split : (a b : Bool) → (not a && b) ≡ true → (a ≡ false) × (b ≡ true)
split false b h = (refl, h)
split true b h = let k : false ≡ true = h in cc

-- each of some names has no field
abbrev Each : List (List ℕ) → List Field → Type 0
Each [] fields = Unit
Each (n ∷ ns) fields = (has_field n fields ≡ false) × Each ns fields

each : (names : List (List ℕ)) (fields : List Field) → absent names fields ≡ true → Each names fields
each [] fields h = tt
each (n ∷ ns) fields h = let s = split (has_field n fields) (absent ns fields) h in (s.0, each ns fields s.1)

has_none : (fields : List Field) → is_plain_request fields ≡ true → HasNone fields
has_none fields h =
    let e : Each deciding_names fields = each deciding_names fields h in
    record {
      authorization = e.0;
      cookie = e.1.0;
      cache_control = e.1.1.0;
      pragma = e.1.1.1.0;
      asked_range = e.1.1.1.1.0;
      if_match = e.1.1.1.1.1.0;
      if_none_match = e.1.1.1.1.1.1.0;
      if_modified_since = e.1.1.1.1.1.1.1.0;
      if_unmodified_since = e.1.1.1.1.1.1.1.1.0;
      cdn_loop = e.1.1.1.1.1.1.1.1.1.1.0;
    }

-- a name without a field has no values
values_none : (name : List ℕ) (fields : List Field) → has_field name fields ≡ false → values_of name fields ≡ []
values_none name fields h = by (values_of name fields) h
  where
    by : (xs : List (List ℕ)) → is_some (slice_get xs 0) ≡ false → xs ≡ []
    by [] h = refl
    by (x ∷ xs) h = let k : true ≡ false = h in cc

asks_none : (name : List ℕ) (fields : List Field) → values_of (codes "cache-control") fields ≡ [] → asks name fields ≡ false
asks_none name fields e = ap (λ (vs : List (List ℕ)). is_some (first_argument name (flat_map directives_in vs))) e

forbids_none : (name : List ℕ) (fields : List Field) → values_of (codes "cache-control") fields ≡ [] → forbids name fields ≡ false
forbids_none name fields e = ap (list_any (forbids_in name)) e

unclosed_none : (fields : List Field) → values_of (codes "cache-control") fields ≡ [] → has_unclosed fields ≡ false
unclosed_none fields e = ap (list_any is_unclosed) e

and_false : (a b : Bool) → b ≡ false → (a && b) ≡ false
and_false true b e = e
and_false false b e = refl

pragma_none : (fields : List Field) → values_of (codes "pragma") fields ≡ [] → asks_by_pragma fields ≡ false
pragma_none fields e = and_false (not (has_field (codes "cache-control") fields)) (list_any may_have_no_cache (values_of (codes "pragma") fields)) (ap (list_any may_have_no_cache) e)

-- how a GET is answered by the published rules: whether it has only-if-cached, Authorization, Cookie, Range, no-store, no-cache, or an
-- open quote
abbrev published : Bool → Bool → Bool → Bool → Bool → Bool → Bool → Result Mode ℕ
published o a c r s n u =
    cond (o && (n || u)) (Err 504) (cond o (Ok Cached) (cond (a || c || r || s || (n || u)) (Ok Private) (Ok Shared)))

-- by the published rules a plain GET is shared
pub plain_published : (fields : List Field) → is_plain_request fields ≡ true → mode_of (codes "GET") fields ≡ Ok Shared
plain_published fields h =
    let n : HasNone fields = has_none fields h in
    let e = values_none (codes "cache-control") fields n.cache_control in
    by (asks (codes "only-if-cached") fields) (has_field (codes "authorization") fields) (has_field (codes "cookie") fields)
    (has_field (codes "range") fields) (asks (codes "no-store") fields) (asks (codes "no-cache") fields) (has_unclosed fields)
    (asks_none (codes "only-if-cached") fields e) n.authorization n.cookie n.asked_range (asks_none (codes "no-store") fields e)
    (asks_none (codes "no-cache") fields e) (unclosed_none fields e)
  where
    by : (o a c r s n u : Bool) → o ≡ false → a ≡ false → c ≡ false → r ≡ false → s ≡ false → n ≡ false → u ≡ false → published o a c r s n u ≡ Ok Shared
    by o a c r s n u eo ea ec er es en eu = rw eo (rw ea (rw ec (rw er (rw es (rw en (rw eu refl))))))

-- a plain request may be answered from the store
own_none : (fields : List Field) → is_plain_request fields ≡ true → is_own fields ≡ false
own_none fields h =
    let n : HasNone fields = has_none fields h in
    let e = values_none (codes "cache-control") fields n.cache_control in
    by (has_field (codes "authorization") fields) (has_field (codes "cookie") fields) (forbids (codes "no-store") fields)
    (forbids (codes "no-cache") fields) (has_unclosed fields) (asks_by_pragma fields) (has_field (codes "if-match") fields)
    (has_field (codes "if-unmodified-since") fields) n.authorization n.cookie (forbids_none (codes "no-store") fields e)
    (forbids_none (codes "no-cache") fields e) (unclosed_none fields e)
    (pragma_none fields (values_none (codes "pragma") fields n.pragma)) n.if_match n.if_unmodified_since
  where
    by : (a c s n u p m t : Bool) → a ≡ false → c ≡ false → s ≡ false → n ≡ false → u ≡ false → p ≡ false → m ≡ false → t ≡ false
        → (a || c || s || (n || u) || p || (m || t)) ≡ false
    by a c s n u p m t ea ec es en eu ep em et = rw ea (rw ec (rw es (rw en (rw eu (rw ep (rw em (rw et refl)))))))

-- how a GET is answered for which nothing stored is looked at: whether it has only-if-cached, is for the origin alone, and has Range
abbrev fresh : Bool → Bool → Bool → Result Mode ℕ
fresh o a r = cond (o && (a || true)) (Err 504) (cond o (Ok Cached) (cond a (alone true) (cond (true && not r) (Ok Shared) (alone true))))

-- a plain GET for which nothing stored is looked at is shared
pub plain_fresh : (fields : List Field) → is_plain_request fields ≡ true → chosen (codes "GET") fields None ≡ Ok Shared
plain_fresh fields h =
    let n : HasNone fields = has_none fields h in
    let e = values_none (codes "cache-control") fields n.cache_control in
    by (asks (codes "only-if-cached") fields) (is_own fields) (has_field (codes "range") fields) (asks_none (codes "only-if-cached") fields e)
    (own_none fields h) n.asked_range
  where
    by : (o a r : Bool) → o ≡ false → a ≡ false → r ≡ false → fresh o a r ≡ Ok Shared
    by o a r eo ea er = rw eo (rw ea (rw er refl))

-- no condition stops a plain request
unchanged_none : (fields object : List Field) → is_plain_request fields ≡ true → is_unchanged fields object ≡ false
unchanged_none fields object h =
    let n : HasNone fields = has_none fields h in
    let e = values_none (codes "if-modified-since") fields n.if_modified_since in
    by (has_field (codes "if-none-match") fields) (names_object fields object) (is_unmodified fields object) n.if_none_match
    (ap (λ (vs : List (List ℕ)). is_not_after (modified_at object) (option_and_then parse_secs (only_of vs))) e ∙ never (modified_at object))
  where
    never : (modified : Option ℕ) → is_not_after modified None ≡ false
    never None = refl
    never (Some m) = refl

    by : (b x y : Bool) → b ≡ false → y ≡ false → cond b x y ≡ false
    by b x y eb ey = rw eb ey

part_none : (fields object : List Field) (length : ℕ) → is_plain_request fields ≡ true → part_asked_for fields object length ≡ Whole
part_none fields object length h =
    let n : HasNone fields = has_none fields h in
    let e = values_none (codes "range") fields n.asked_range in
    ap (λ (vs : List (List ℕ)). part_of (option_and_then range_of (only_of vs)) (range_still_holds fields object) length) e

-- a plain request is answered with the whole of what is stored
pub plain_whole : (method : List ℕ) (fields object : List Field) (length : ℕ) → is_plain_request fields ≡ true → answer_to method fields object length ≡ Whole
plain_whole method fields object length h =
    by (not (bytes_eq method (codes "GET")) && not (bytes_eq method (codes "HEAD")) || is_for_origin fields) (is_unchanged fields object)
    (bytes_eq method (codes "GET")) (part_asked_for fields object length) (unchanged_none fields object h) (part_none fields object length h)
  where
    by : (x u g : Bool) (part : StoredAnswer) → u ≡ false → part ≡ Whole → cond x Whole (cond u NotModified (cond g part Whole)) ≡ Whole
    by true u g part eu ep = refl
    by false u true part eu ep = rw eu ep
    by false u false part eu ep = rw eu refl

-- a plain request has come through no cache that marks requests
pub plain_first : (mark : List ℕ) (fields : List Field) → is_plain_request fields ≡ true → has_come_back mark fields ≡ false
plain_first mark fields h = ap (list_any (has_mark mark)) (values_none (codes "cdn-loop") fields (has_none fields h).cdn_loop)

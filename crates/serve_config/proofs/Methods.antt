-- Laws about lists of methods and the words that name them.
use Rattle.std.proofs.Common.{◌≡◌, ℕ, List, [], ◌∷◌, ◌++◌, map, refl, ap, ◌∙◌, Bool, false, Some, None, codes, arith}
use Rattle.std.specs.Prelude.{bytes_eq}
use Rattle.std.specs.Cmp.Lexicographic.{nat_list_eq_equiv}
use Rattle.std.specs.List.{IsDistinct, list_any}
use Rattle.std.proofs.lemmas.List.{map-append}
use Rattle.std.proofs.lemmas.Map.Keys.{IsDistinct-push}
use Rattle.serde_json.specs.Data.{Data, Items, null, boolean, number, string, array, object}
use Rattle.serde_json.specs.Find.{get, as_array}
use Rattle.serde_json.specs.View.{items_of, items_view, view}
use Rattle.serde_json.specs.declared.value.Value.{Value}
use Rattle.http_traffic.specs.Methods.{method_name}
use Rattle.http_traffic.specs.declared.passed_method.PassedMethod.{PassedMethod}
use Rattle.serve_config.specs.Passing.{AreMethods, name_of}

-- a test of names, and of the methods that have them
any_name : (test : List ℕ → Bool) (methods : List PassedMethod) → list_any test (map method_name methods) ≡ list_any (λ method. test (method_name method)) methods
any_name test [] = refl
any_name test (method ∷ methods) = rw (any_name test methods) refl

-- one method more
pub once_with : (methods after : List PassedMethod) (method : PassedMethod) → after ≡ methods ++ method ∷ []
    → IsDistinct bytes_eq (map method_name methods)
    → list_any (λ other. bytes_eq (method_name method) (method_name other)) methods ≡ false
    → IsDistinct bytes_eq (map method_name after)
once_with methods after method all once new =
    rw (all, map-append method_name methods (method ∷ []))
    (IsDistinct-push nat_list_eq_equiv (map method_name methods) (method_name method) once (any_name (bytes_eq (method_name method)) methods ∙ new))

-- no method is there twice where there is none
pub none_twice : (methods : List PassedMethod) → methods ≡ [] → IsDistinct bytes_eq (map method_name methods)
unfolding IsDistinct
none_twice methods e = rw e tt

-- a value with a list is that list
list_of : (d : Data) (items : Items) → as_array d ≡ Some items → d ≡ array items
list_of null items h = grind arith
list_of (boolean b) items h = grind arith
list_of (number n) items h = grind arith
list_of (string s) items h = grind arith
list_of (array ds) items h = grind arith
list_of (object ms) items h = grind arith

-- no methods where a configuration has no such key
pub no_methods : (settings : Data) (methods : List PassedMethod) → get (codes "methods") settings ≡ None → methods ≡ [] → AreMethods settings methods
no_methods settings methods absent none = record { said = rw absent none; once = none_twice methods none }

-- the methods that its words name
pub said_methods : (settings d : Data) (words : List Value) (methods : List PassedMethod) → get (codes "methods") settings ≡ Some d
    → as_array d ≡ Some (items_view words) → map view words ≡ map name_of methods → IsDistinct bytes_eq (map method_name methods)
    → AreMethods settings methods
said_methods settings d words methods there listed named once =
    record { said = rw there (list_of d (items_view words) listed ∙ ap (λ ds. array (items_of ds)) named); once = once }

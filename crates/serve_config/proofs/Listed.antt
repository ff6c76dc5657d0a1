-- Laws about lists of values and what they say.
use Rattle.std.proofs.Common.{◌≡◌, ℕ, ◌+◌, ◌<◌, List, [], ◌∷◌, ◌++◌, map, take, refl, ◌∙◌, length, inl, inr}
use Rattle.std.specs.List.{AllZip, slice_index_or}
use Rattle.std.proofs.lemmas.List.{map_more}
use Rattle.std.proofs.lemmas.Slice.Zip.{all_zipped_more}
use Rattle.node_terms.specs.declared.network.Network.{Network}
use Rattle.serde_json.specs.Data.{Data}
use Rattle.serde_json.specs.View.{items_of, view}
use Rattle.serde_json.specs.declared.value.Value.{Value}
use Rattle.serve_config.specs.Origins.{AreDenied}
use Rattle.serve_config.specs.Parts.{AddsNetwork}
use Rattle.serve_config.specs.Said.{each_of}
use Rattle.serve_config.specs.declared.origins.SixNetwork.{SixNetwork}

-- one value more
pub more : {X : Type 0} (Is : Data → X → Type 0) (values : List Value) (i : ℕ) (value : Value) (xs after : List X) (x : X) → i < length values
    → value ≡ slice_index_or values i value → after ≡ xs ++ x ∷ [] → AllZip Is (map view (take i values)) xs → Is (view value) x
    → AllZip Is (map view (take (i + 1) values)) after
more Is values i value xs after x below there pushed all this =
    rw (pushed, map_more view values i value below, ← there) (all_zipped_more Is (map view (take i values)) xs (view value) x all this)

-- the values of a list of values
pub values_of_items : (values : List Data) → each_of (items_of values) ≡ values
values_of_items [] = refl
values_of_items (value ∷ values) = rw (values_of_items values) refl

-- one denied network more
adds : (values : List Data) (value : Data) (four : List Network) (six : List SixNetwork) (four' : List Network) (six' : List SixNetwork)
    → AreDenied values four six → AddsNetwork value four six four' six' → AreDenied (values ++ value ∷ []) four' six'
adds [] value four six four' six' h (inl (n, e, f, is)) = inl (n, [], rw (e, h.0) refl, is, (refl, f ∙ h.1))
adds [] value four six four' six' h (inr (n, e, f, is)) = inr (n, [], rw (f, h.1) refl, is, (e ∙ h.0, refl))
adds (v ∷ values) value four six four' six' (inl (m, rest, e, is, all)) (inl (n, e', f', this)) =
    inl (m, rest ++ n ∷ [], rw (e', e) refl, is, adds values value rest six (rest ++ n ∷ []) six' all (inl (n, refl, f', this)))
adds (v ∷ values) value four six four' six' (inl (m, rest, e, is, all)) (inr (n, e', f', this)) =
    inl (m, rest, e' ∙ e, is, adds values value rest six rest six' all (inr (n, refl, f', this)))
adds (v ∷ values) value four six four' six' (inr (m, rest, e, is, all)) (inl (n, e', f', this)) =
    inr (m, rest, f' ∙ e, is, adds values value four rest four' rest all (inl (n, e', refl, this)))
adds (v ∷ values) value four six four' six' (inr (m, rest, e, is, all)) (inr (n, e', f', this)) =
    inr (m, rest ++ n ∷ [], rw (f', e) refl, is, adds values value four rest four' (rest ++ n ∷ []) all (inr (n, e', refl, this)))

pub denied_more : (values : List Value) (i : ℕ) (value : Value) (four : List Network) (six : List SixNetwork) (four' : List Network) (six' : List SixNetwork)
    → i < length values → value ≡ slice_index_or values i value → AreDenied (map view (take i values)) four six
    → AddsNetwork (view value) four six four' six' → AreDenied (map view (take (i + 1) values)) four' six'
denied_more values i value four six four' six' below there all this =
    rw (map_more view values i value below, ← there) (adds (map view (take i values)) (view value) four six four' six' all this)

-- The instruction indices that labels name, from a map or by scanning the text. No public contract depends on these definitions.
use Rattle.std.specs.Prelude.{◌≡◌, ℕ, suc, zero, ◌+◌, List, [], ◌∷◌, Option, Some, None, Bool, false, IfSome, IsSomeAnd, if◌then◌else◌}
use Rattle.std.specs.Borrow.{Bor}
use Rattle.std.specs.BTreeMap as tree
use Rattle.std.specs.Ordering.{nat_cmp}
use Rattle.std.specs.Cmp.Lexicographic.{slice_cmp}
use Rattle.std.specs.Str.{bytes_eq}
use Rattle.bpf_asm.specs.declared.names.Names.{Names}
use Rattle.bpf_asm.specs.Assembly.{token_lines, label_of, has_body}

-- a map from labels, compared by their octets, to instruction indices
abbrev pub Places : Type 0
Places = tree.BTreeMap (Bor (List ℕ)) ℕ

-- the index of a label in the map, if it has one
abbrev pub place_in : Places → List ℕ → Option ℕ
place_in labels label = tree.get_by (λ k. slice_cmp nat_cmp label k.now) labels

-- whether a line begins with this label
abbrev pub begins_with : Option (List ℕ) → List ℕ → Bool
begins_with None label = false
begins_with (Some own) label = bytes_eq own label

-- the index after a line, which has an instruction or not
abbrev pub behind : ℕ → Bool → ℕ
behind place body = if body then place + 1 else place

-- the index that a label on the first n lines names, where `place` is the index before the first line
abbrev pub found_from : ℕ → List (List (List ℕ)) → ℕ → List ℕ → Option ℕ
found_from place [] n label = None
found_from place (line ∷ ls) zero label = None
found_from place (line ∷ ls) (suc n) label =
    if begins_with (label_of line) label then Some place else found_from (behind place (has_body line)) ls n label

-- the index that a label on the first n lines of a text names
abbrev pub found_in : List (List (List ℕ)) → ℕ → List ℕ → Option ℕ
found_in ls n label = found_from 0 ls n label

-- the index that a label names, looked up in the map, or among the first n lines if there is no map
abbrev pub named_by : Option Places → List (List (List ℕ)) → ℕ → List ℕ → Option ℕ
named_by None ls n label = found_in ls n label
named_by (Some labels) ls n label = place_in labels label

-- the index that a label names, among the lines read so far
abbrev pub named : Names → List ℕ → Option ℕ
named names label = named_by names.kept (token_lines names.text.now) names.lines label

-- the effect of a line's label on the map; the label must not be defined yet, and after an allocation failure there is no map
abbrev pub LabelKept : (List ℕ → Option ℕ) → Option Places → Option Places → ℕ → Option (List ℕ) → Type 0
LabelKept look old new place None = new ≡ old
LabelKept look old new place (Some label) =
    (look label ≡ None)
    × IfSome new (λ m. IsSomeAnd old (λ l. (other : List ℕ) → place_in m other ≡ (if bytes_eq label other then Some place else place_in l other)))

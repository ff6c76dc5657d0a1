use Rattle.std.proofs.Common.{◌≡◌, ◌++◌, List, filter, not, refl}
use Rattle.http_rules.specs.Fields.{Field, fields_of}
use Rattle.http_rules.specs.Forwarding.{end_to_end}
use Rattle.http_rules.specs.Validators.{stored_fields}
use Rattle.http_rules.specs.Updating.{is_of_body, staying, updated}
use Rattle.http_rules.proofs.updating.updated_by.Goals as goal

-- what is provided, behind the stored fields that stay
is_updated : (response object kept given stays both : List Field) → kept ≡ end_to_end response → given ≡ filter (λ f. not (is_of_body f.0)) kept
    → stays ≡ staying given object → both ≡ stays ++ given → both ≡ updated response object
is_updated response object kept given stays both e f g h = rw h (rw g (rw f (rw e refl)))

pub returns-clause-fields : goal.returns-clause-fields
returns-clause-fields c =
    is_updated (fields_of c.args.head.now) (stored_fields c.args.object.now) (stored_fields c.in_ok-fields.fields.items)
    (stored_fields c.in_ok-provided.provided.items) (stored_fields c.in_ok-staying.staying.items) (stored_fields c.in_ok-joined.field-0.items)
    c.in_ok-fields.ensures.kept c.in_ok-provided.ensures (rw c.as_slice.ensures.value at c.in_ok-staying.ensures) c.in_ok-joined.ensures

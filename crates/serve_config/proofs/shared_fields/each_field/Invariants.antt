use Rattle.std.proofs.Common.{◌≡◌, map}
use Rattle.std.specs.List.{All}
use Rattle.serde_json.specs.View.{members_view}
use Rattle.serve_config.specs.SharedFields.{IsSharedField, field_member}
use Rattle.serve_config.proofs.Members.{onto}
use Rattle.serve_config.proofs.shared_fields.each_field.Given as goal

abbrev pub invariant-loop-name : goal.invariant-loop-name
invariant-loop-name l = record {
  said : members_view l.members.entries ≡ onto (map field_member l.fields.items) (members_view l.name-iterator);
  each : All IsSharedField l.fields.items;
}

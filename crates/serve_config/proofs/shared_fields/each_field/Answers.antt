use Rattle.std.proofs.Common.{rules, sym}
use Rattle.serve_config.specs.SharedFields.{field_member}
use Rattle.serve_config.proofs.Members.{all_members, more_members}
use Rattle.serve_config.proofs.shared_fields.each_field.Goals as goal

pub loop-name-preserved : goal.loop-name-preserved
loop-name-preserved c = record {
  said = more_members field_member c.args.members.now.entries c.loop-name.name-iterator c.next.new.self c.in-Some.name.now c.in-Some.value.now c.loop-name.fields.items c.in_ok-fields.fields.items c.in_ok-field.field c.loop-name.invariant.said c.in-Some.ensures.steps c.in_ok-fields.ensures.all (search rules) (sym c.in_ok-field.ensures.value);
  each = c.in_ok-fields.ensures.each;
}

pub returns-clause-said : goal.returns-clause-said
returns-clause-said c =
    all_members field_member c.args.members.now.entries c.loop-name.name-iterator c.loop-name.fields.items c.loop-name.invariant.said c.in-None.ensures.steps.0

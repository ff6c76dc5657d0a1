use Rattle.std.proofs.Common.{rules, sym}
use Rattle.serve_config.specs.Mirrors.{mirror_member}
use Rattle.serve_config.proofs.Members.{all_members, more_members}
use Rattle.serve_config.proofs.mirrors.each_mirror.Goals as goal

pub loop-path-preserved : goal.loop-path-preserved
loop-path-preserved c = record {
  said = more_members mirror_member c.args.members.now.entries c.loop-path.path-iterator c.next.new.self c.in-Some.path.now c.in-Some.url.now c.loop-path.mirrors.items c.in_ok-mirrors.mirrors.items c.in_ok-mirror.mirror c.loop-path.invariant.said c.in-Some.ensures.steps c.in_ok-mirrors.ensures.all (search rules) (sym c.in_ok-mirror.ensures.value);
  each = c.in_ok-mirrors.ensures.each;
}

pub returns-clause-said : goal.returns-clause-said
returns-clause-said c =
    all_members mirror_member c.args.members.now.entries c.loop-path.path-iterator c.loop-path.mirrors.items c.loop-path.invariant.said c.in-None.ensures.steps.0

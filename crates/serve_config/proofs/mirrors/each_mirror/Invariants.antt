use Rattle.std.proofs.Common.{◌≡◌, map}
use Rattle.std.specs.List.{All}
use Rattle.serde_json.specs.View.{members_view}
use Rattle.serve_config.specs.Mirrors.{IsMirror, mirror_member}
use Rattle.serve_config.proofs.Members.{onto}
use Rattle.serve_config.proofs.mirrors.each_mirror.Given as goal

abbrev pub invariant-loop-path : goal.invariant-loop-path
invariant-loop-path l = record {
  said : members_view l.members.entries ≡ onto (map mirror_member l.mirrors.items) (members_view l.path-iterator);
  each : All IsMirror l.mirrors.items;
}

use Rattle.std.proofs.lemmas.Map.Text.{btree_map_updates_str}
use Rattle.bpf_asm.proofs.labels.name_place.Goals as goal

pub returns : goal.returns
returns c = btree_map_updates_str c.args.label.now c.args.labels.now c.insert.new.self _ c.in_ok-insert.ensures.updates

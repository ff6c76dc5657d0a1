-- The initial state of the node.
use Rattle.std.specs.Prelude.{[]}
use Rattle.neighbours.specs.Rows.{opening as opening_rows}
use Rattle.plain_node.specs.PlainNode.{PlainNode}
use Rattle.plain_node.specs.Settings.{Setup}

-- the node before the first event: no round-trip times, no misses, an empty store, no pending fetches
abbrev pub opening_node : Setup → PlainNode
opening_node setup = record {
  settings = setup.settings;
  rows = opening_rows setup.neighbours setup.keys;
  store = record { most_entries = setup.entries; most_octets = setup.octets; pairs = [] };
  fetches = record { last = 0; list = [] };
  clock = 0;
}

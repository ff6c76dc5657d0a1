-- The script line that each item stands for.
use Rattle.std.specs.Prelude.{◌≤◌, length}
use Rattle.bpf_run.specs.Packet.{most_payload}
use Rattle.node_words.specs.Happening.{happening}
use Rattle.script_lines.specs.declared.item.Item.{Item}
use Rattle.script_lines.specs.declared.item.Item.TheVariants as item
use Rattle.script_lines.specs.ScriptLine.{ScriptLine, owns, allows, denies_fetches, uses_origins, limits, has_key, has_neighbour, receives, takes, sets, goes, happens, refuses, inquires, blank, wrong}

-- the line that an item was parsed from
abbrev pub script_line_of : Item → ScriptLine
script_line_of (item.Own addr) = sets (owns addr)
script_line_of (item.Allow network) = sets (allows network)
script_line_of (item.NoFetch on) = sets (denies_fetches on)
script_line_of (item.Origin on) = sets (uses_origins on)
script_line_of (item.Limits entries octets) = sets (limits entries octets)
script_line_of (item.AddKey key) = sets (has_key key)
script_line_of (item.AddNeighbour neighbour) = sets (has_neighbour neighbour)
script_line_of item.Go = goes
script_line_of (item.Receive by from payload now) = happens (receives by from payload.items now)
script_line_of (item.Take event) = happens (takes (happening event))
script_line_of (item.Refuse slot fault) = refuses slot fault
script_line_of item.Ask = inquires
script_line_of item.Blank = blank
script_line_of item.Wrong = wrong

-- the payload of a datagram has at most 65,507 octets; other items have no bound
abbrev pub IsShort : Item → Type 0
IsShort (item.Receive by from payload now) = length payload.items ≤ most_payload
IsShort _ = Unit {0}

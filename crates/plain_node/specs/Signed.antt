-- Keys and verdicts as private contracts use them; no public contract uses these.
use Rattle.std.specs.Prelude.{◌≡◌, ℕ, ◌≤◌, ◌<◌, List, [], length, Option, Some, None}
use Rattle.htcp_packet.specs.Message.{Body, empty, specifier, clear, detail, cache_headers, opaque}
use Rattle.plain_node.specs.declared.signatures.Signer.{Signer}
use Rattle.plain_node.specs.declared.signatures.Judgement.{Judgement}
use Rattle.plain_node.specs.declared.signatures.Judgement.TheVariants as judgements
use Rattle.plain_node.specs.declared.finding.Finding.{Finding}
use Rattle.plain_node.specs.declared.finding.Finding.TheVariants.{Refused, Alive, Found, NotFound, Cleared, NotCleared}
use Rattle.plain_node.specs.Signatures.{SigningKey, SignatureStanding, absent, good, bad}

-- the name and secret of a borrowed key
abbrev pub shown_key : Signer → SigningKey
shown_key key = record { name = key.name.now; secret = key.secret.now }

-- the verdict of the code's judgement
abbrev pub shown_standing : Judgement → SignatureStanding
shown_standing judgements.Absent = absent
shown_standing (judgements.Good key) = good (shown_key key)
shown_standing judgements.Bad = bad

-- a key's name has at most 255 octets
abbrev pub IsShortlyNamed : Option SigningKey → Type 0
IsShortlyNamed None = Unit {0}
IsShortlyNamed (Some key) = length key.name ≤ 255

-- the URI of a TST or CLR; empty for other operations
abbrev pub uri_in : Body → List ℕ
uri_in empty = []
uri_in (specifier s) = s.uri
uri_in (clear reason s) = s.uri
uri_in (detail d) = []
uri_in (cache_headers h) = []
uri_in (opaque octets) = []

-- the results that an operation may have
abbrev pub Suits : ℕ → Finding → Type 0
Suits opcode (Refused code) = code < 16
Suits opcode Alive = opcode ≡ 0
Suits opcode Found = opcode ≡ 1
Suits opcode NotFound = opcode ≡ 1
Suits opcode Cleared = opcode ≡ 4
Suits opcode NotCleared = opcode ≡ 4

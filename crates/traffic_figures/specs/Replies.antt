-- The kinds of replies of neighbours: the places of their counters, from 0, their names in all texts, and which messages they are.
use Rattle.std.specs.Prelude.{◌≡◌, ◌≢◌, ◌⊎◌, ℕ, ◌<◌, Bool, true, false, List, codes}
use Rattle.traffic_figures.specs.declared.replies.ReplyKind.{ReplyKind}
use Rattle.traffic_figures.specs.declared.replies.ReplyKind.TheVariants.{Hit, Miss, Denied, MissNoFetch, Error, Found, NotFound, Other}

abbrev pub reply_place : ReplyKind → ℕ
reply_place Hit = 0
reply_place Miss = 1
reply_place Denied = 2
reply_place MissNoFetch = 3
reply_place Error = 4
reply_place Found = 5
reply_place NotFound = 6
reply_place Other = 7

abbrev pub reply_name : ReplyKind → List ℕ
reply_name Hit = codes "hit"
reply_name Miss = codes "miss"
reply_name Denied = codes "denied"
reply_name MissNoFetch = codes "miss_nofetch"
reply_name Error = codes "error"
reply_name Found = codes "found"
reply_name NotFound = codes "not_found"
reply_name Other = codes "other"

-- the opcodes of ICP that are counted as replies (RFC 2186): 2 is ICP_OP_HIT, 3 ICP_OP_MISS, 4 ICP_OP_ERR, 21 ICP_OP_MISS_NOFETCH, 22
-- ICP_OP_DENIED and 23 ICP_OP_HIT_OBJ; all further ones above 1, the query, are of one kind
abbrev pub IsIcpReply : ℕ → ReplyKind → Type 0
IsIcpReply opcode Hit = (opcode ≡ 2) ⊎ (opcode ≡ 23)
IsIcpReply opcode Miss = opcode ≡ 3
IsIcpReply opcode Denied = opcode ≡ 22
IsIcpReply opcode MissNoFetch = opcode ≡ 21
IsIcpReply opcode Error = opcode ≡ 4
IsIcpReply opcode Found = ⊥
IsIcpReply opcode NotFound = ⊥
IsIcpReply opcode Other = ((4 < opcode) × (opcode < 21)) ⊎ (23 < opcode)

-- the response to a TST (opcode 1) with a code of its own (RFC 2756, section 6.2), which is one where MO is not set
pub record Tells (opcode code : ℕ) (mo : Bool) (told : ℕ) : Type 0 where
  pub is_tst : opcode ≡ 1
  pub says : code ≡ told
  pub is_own : mo ≡ false

-- the responses of HTCP: of a TST 0 is "found" and 1 "not found"; all further ones are of one kind
abbrev pub IsHtcpReply : ℕ → ℕ → Bool → ReplyKind → Type 0
IsHtcpReply opcode code mo Found = Tells opcode code mo 0
IsHtcpReply opcode code mo NotFound = Tells opcode code mo 1
IsHtcpReply opcode code mo Other = (opcode ≢ 1) ⊎ ((1 < code) ⊎ (mo ≡ true))
IsHtcpReply opcode code mo kind = ⊥

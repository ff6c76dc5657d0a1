-- The encoding that is written: no padding, reserved bits zero.
use Rattle.std.specs.Prelude.{ℕ, ◌+◌, ◌*◌, ◌<◌, List, [], ◌∷◌, ◌++◌, length}
use Rattle.byteorder.specs.Endian.{big_bytes}
use Rattle.htcp_packet.specs.declared.message.Form.{Form}
use Rattle.htcp_packet.specs.declared.message.Form.TheVariants as forms
use Rattle.htcp_packet.specs.Message.{Message, Body, empty, specifier, clear, detail, cache_headers, opaque, Auth, unsigned, signed, form_of, countstr, spec_text, detail_text, seal_text, bit}

-- OP-DATA
abbrev pub body_text : Body → List ℕ
body_text empty = []
body_text (specifier s) = spec_text s
body_text (clear reason s) = big_bytes 2 reason ++ spec_text s
body_text (detail d) = detail_text d
body_text (cache_headers h) = countstr h
body_text (opaque all) = all

-- DATA
abbrev pub data_text : Message → List ℕ
data_text m =
    big_bytes 2 (length (body_text m.body) + 8)
    ++ ((16 * m.opcode + m.response) ∷ (2 * bit m.f1 + bit m.rr) ∷ big_bytes 4 m.trans ++ body_text m.body)

-- AUTH
abbrev pub auth_text : Auth → List ℕ
auth_text unsigned = 0 ∷ 2 ∷ []
auth_text (signed s) = big_bytes 2 (length (seal_text s) + 2) ++ seal_text s

-- the whole message
abbrev pub message_text : Message → List ℕ
message_text m =
    big_bytes 2 (length (data_text m) + length (auth_text m.auth) + 4)
    ++ (0 ∷ m.minor ∷ data_text m ++ auth_text m.auth)

-- maximum length of a message: the maximum payload of a UDP datagram over IPv4
abbrev pub most_octets : ℕ
most_octets = 65507

-- the message without its signature
abbrev pub without_auth : Message → Message
without_auth m = record m { auth = unsigned }

-- the body has this layout, and its reason, if any, fits four bits
abbrev pub FitsForm : Form → Body → Type 0
FitsForm forms.Empty empty = Unit {0}
FitsForm forms.Specifier (specifier s) = Unit {0}
FitsForm forms.Clear (clear reason s) = reason < 16
FitsForm forms.Detail (detail d) = Unit {0}
FitsForm forms.CacheHeaders (cache_headers h) = Unit {0}
FitsForm forms.Opaque (opaque all) = Unit {0}
FitsForm form body = ⊥

-- the message can be encoded: opcode and response fit four bits, and the body has the layout that they and the flags give
pub record IsWritable (m : Message) : Type 0 where
  pub opcode : m.opcode < 16
  pub response : m.response < 16
  pub body : FitsForm (form_of m.opcode m.response m.f1 m.rr) m.body

-- HTCP/0.0 (RFC 2756): messages, and which octets encode them. Padding and reserved bits, which the RFC leaves to the
-- sender, are arbitrary. `big_bytes n x` is the number x in n octets, big-endian.
use Rattle.std.specs.Prelude.{◌≡◌, ℕ, ◌+◌, ◌*◌, ◌<◌, ◌^◌, Bool, true, false, ◌==◌, ◌⊎◌, if◌then◌else◌, List, [], ◌∷◌, ◌++◌, length}
use Rattle.byteorder.specs.Endian.{big_bytes}
use Rattle.htcp_packet.specs.declared.message.Form.{Form}
use Rattle.htcp_packet.specs.declared.message.Form.TheVariants as forms

-- SPECIFIER: identifies a request
pub record Spec : Type 0 where
  pub method : List ℕ
  pub uri : List ℕ
  pub version : List ℕ
  pub headers : List ℕ

-- DETAIL: describes a cached object
pub record Details : Type 0 where
  pub response : List ℕ
  pub entity : List ℕ
  pub cache : List ℕ

-- OP-DATA: nothing, a SPECIFIER, a reason and a SPECIFIER, a DETAIL, cache headers, or octets that are not decoded
-- further
pub data Body : Type 0 where
  empty : Body
  specifier : Spec → Body
  clear : ℕ → Spec → Body
  detail : Details → Body
  cache_headers : List ℕ → Body
  opaque : List ℕ → Body

-- the contents of a signed AUTH
pub record Seal : Type 0 where
  pub time : ℕ
  pub expire : ℕ
  pub key_name : List ℕ
  pub signature : List ℕ

-- AUTH
pub data Auth : Type 0 where
  unsigned : Auth
  signed : Seal → Auth

-- a message
pub record Message : Type 0 where
  pub minor : ℕ
  pub opcode : ℕ
  pub response : ℕ
  pub f1 : Bool
  pub rr : Bool
  pub trans : ℕ
  pub body : Body
  pub auth : Auth

-- the layout of OP-DATA in a request: NOP, TST, CLR, and every other opcode
abbrev pub request_form : ℕ → Form
request_form opcode =
    if opcode == 0 then forms.Empty
    else (if opcode == 1 then forms.Specifier
    else (if opcode == 4 then forms.Clear
    else forms.Opaque))

-- the layout of OP-DATA in a response: NOP, CLR, TST by its response code, and every other response
abbrev pub answer_form : ℕ → ℕ → Form
answer_form opcode response =
    if opcode == 0 then forms.Empty
    else (if opcode == 4 then forms.Empty
    else (if opcode == 1 then (if response == 0 then forms.Detail else (if response == 1 then forms.CacheHeaders else forms.Opaque))
    else forms.Opaque))

-- the layout for opcode, response code and flags. RR marks a response; a response with F1 set (MO) has a code that applies
-- to the whole message, and its OP-DATA is opaque.
abbrev pub form_of : ℕ → ℕ → Bool → Bool → Form
form_of opcode response f1 rr =
    if rr then (if f1 then forms.Opaque else answer_form opcode response)
    else request_form opcode

-- COUNTSTR: a two-octet length, then the text
abbrev pub countstr : List ℕ → List ℕ
countstr text = big_bytes 2 (length text) ++ text

-- an encoded SPECIFIER: four texts
abbrev pub spec_text : Spec → List ℕ
spec_text s = countstr s.method ++ (countstr s.uri ++ (countstr s.version ++ countstr s.headers))

-- an encoded DETAIL: three texts
abbrev pub detail_text : Details → List ℕ
detail_text d = countstr d.response ++ (countstr d.entity ++ countstr d.cache)

-- the length of each text fits two octets
pub record IsSpec (s : Spec) : Type 0 where
  pub method : length s.method < 2 ^ 16
  pub uri : length s.uri < 2 ^ 16
  pub version : length s.version < 2 ^ 16
  pub headers : length s.headers < 2 ^ 16

-- the length of each text fits two octets
pub record IsDetails (d : Details) : Type 0 where
  pub response : length d.response < 2 ^ 16
  pub entity : length d.entity < 2 ^ 16
  pub cache : length d.cache < 2 ^ 16

-- the octets are the text followed by padding
abbrev pub BeginsWith : List ℕ → List ℕ → Type 0
BeginsWith text octets = (padding : List ℕ) × (octets ≡ text ++ padding)

-- OP-DATA of a CLR request: twelve reserved bits, four bits of reason, then a SPECIFIER
pub record IsClear (reason : ℕ) (s : Spec) (octets : List ℕ) : Type 0 where
  pub reserved : ℕ
  pub reserved_fits : reserved < 4096
  pub reason_fits : reason < 16
  pub texts : IsSpec s
  pub begins : BeginsWith (big_bytes 2 (16 * reserved + reason) ++ spec_text s) octets

-- OP-DATA of this layout holds the body. Missing cache headers count as an empty text.
abbrev pub HoldsBody : Form → Body → List ℕ → Type 0
HoldsBody forms.Empty empty octets = Unit {0}
HoldsBody forms.Specifier (specifier s) octets = IsSpec s × BeginsWith (spec_text s) octets
HoldsBody forms.Clear (clear reason s) octets = IsClear reason s octets
HoldsBody forms.Detail (detail d) octets = IsDetails d × BeginsWith (detail_text d) octets
HoldsBody forms.CacheHeaders (cache_headers h) octets =
    ((length h < 2 ^ 16) × BeginsWith (countstr h) octets) ⊎ ((h ≡ []) × (octets ≡ []))
HoldsBody forms.Opaque (opaque all) octets = octets ≡ all
HoldsBody form body octets = ⊥

-- SIG-TIME, SIG-EXPIRE, KEY-NAME and SIGNATURE
abbrev pub seal_text : Seal → List ℕ
seal_text s = big_bytes 4 s.time ++ (big_bytes 4 s.expire ++ (countstr s.key_name ++ countstr s.signature))

-- the times fit four octets, and the length of each text two
pub record IsSeal (s : Seal) : Type 0 where
  pub time : s.time < 2 ^ 32
  pub expire : s.expire < 2 ^ 32
  pub key_name : length s.key_name < 2 ^ 16
  pub signature : length s.signature < 2 ^ 16

-- a signed AUTH: LENGTH, which includes itself, then the seal and padding within it, then more padding
pub record IsSealed (s : Seal) (octets : List ℕ) : Type 0 where
  pub inside : List ℕ
  pub inside_fits : length inside + 2 < 2 ^ 16
  pub seal : IsSeal s
  pub sealed : BeginsWith (seal_text s) inside
  pub begins : BeginsWith (big_bytes 2 (length inside + 2) ++ inside) octets

-- the octets after DATA hold the AUTH. No octets, or LENGTH 2 followed by padding, mean unsigned.
abbrev pub HoldsAuth : Auth → List ℕ → Type 0
HoldsAuth unsigned octets = (octets ≡ []) ⊎ BeginsWith (0 ∷ 2 ∷ []) octets
HoldsAuth (signed s) octets = IsSealed s octets

-- a flag as a number
abbrev pub bit : Bool → ℕ
bit true = 1
bit false = 0

-- DATA: LENGTH, which includes itself; OPCODE and RESPONSE; six reserved bits, F1 and RR; TRANS-ID; OP-DATA
pub record IsData (m : Message) (whole : List ℕ) : Type 0 where
  pub reserved : ℕ
  pub op_data : List ℕ
  pub reserved_fits : reserved < 64
  pub opcode_fits : m.opcode < 16
  pub response_fits : m.response < 16
  pub trans_fits : m.trans < 2 ^ 32
  pub spelled : whole ≡ big_bytes 2 (length whole) ++ ((16 * m.opcode + m.response) ∷ (4 * reserved + 2 * bit m.f1 + bit m.rr) ∷ big_bytes 4 m.trans ++ op_data)
  pub body : HoldsBody (form_of m.opcode m.response m.f1 m.rr) m.body op_data

-- the octets encode the message, and raw is its DATA: LENGTH of the whole, MAJOR 0, MINOR, DATA, AUTH
pub record Spells (octets raw : List ℕ) (m : Message) : Type 0 where
  pub authentication : List ℕ
  pub fits : length octets < 2 ^ 16
  pub spelled : octets ≡ big_bytes 2 (length octets) ++ (0 ∷ m.minor ∷ raw ++ authentication)
  pub contents : IsData m raw
  pub auth : HoldsAuth m.auth authentication

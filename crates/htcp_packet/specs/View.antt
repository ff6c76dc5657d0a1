-- The message that a borrowed view stands for.
use Rattle.htcp_packet.specs.declared.message.Specifier.{Specifier}
use Rattle.htcp_packet.specs.declared.message.Detail.{Detail}
use Rattle.htcp_packet.specs.declared.message.HtcpBody.{HtcpBody}
use Rattle.htcp_packet.specs.declared.message.HtcpBody.TheVariants as bodies
use Rattle.htcp_packet.specs.declared.message.HtcpAuth.{HtcpAuth}
use Rattle.htcp_packet.specs.declared.message.HtcpAuth.TheVariants as auths
use Rattle.htcp_packet.specs.declared.message.HtcpView.{HtcpView}
use Rattle.htcp_packet.specs.Message.{Spec, Details, Body, empty, specifier, clear, detail, cache_headers, opaque, Auth, unsigned, signed, Message}
use Rattle.htcp_packet.specs.Reading.{Received}

-- its SPECIFIER
abbrev pub shown_specifier : Specifier → Spec
shown_specifier s = record { method = s.method.now; uri = s.uri.now; version = s.version.now; headers = s.headers.now }

-- its DETAIL
abbrev pub shown_detail : Detail → Details
shown_detail d = record { response = d.response_headers.now; entity = d.entity_headers.now; cache = d.cache_headers.now }

-- its body
abbrev pub shown_body : HtcpBody → Body
shown_body bodies.Empty = empty
shown_body (bodies.Specifier s) = specifier (shown_specifier s)
shown_body (bodies.Clear reason s) = clear reason (shown_specifier s)
shown_body (bodies.Detail d) = detail (shown_detail d)
shown_body (bodies.CacheHeaders h) = cache_headers h.now
shown_body (bodies.Opaque octets) = opaque octets.now

-- its AUTH
abbrev pub shown_auth : HtcpAuth → Auth
shown_auth auths.Unsigned = unsigned
shown_auth (auths.Signed time expire key_name signature) = signed (record { time = time; expire = expire; key_name = key_name.now; signature = signature.now })

-- the message, without its DATA as received
abbrev pub shown : HtcpView → Message
shown v = record {
  minor = v.minor;
  opcode = v.opcode;
  response = v.response;
  f1 = v.f1;
  rr = v.rr;
  trans = v.trans;
  body = shown_body v.body;
  auth = shown_auth v.auth;
}

-- the message, with its DATA as received
abbrev pub received : HtcpView → Received
received v = record { message = shown v; raw = v.raw.now }

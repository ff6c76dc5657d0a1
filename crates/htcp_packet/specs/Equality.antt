-- Equality of messages as a boolean function.
use Rattle.std.specs.Prelude.{◌==◌, ◌&&◌, Bool, true, false}
use Rattle.std.specs.Bool.{beq}
use Rattle.std.specs.Str.{bytes_eq}
use Rattle.htcp_packet.specs.Message.{Spec, Details, Body, empty, specifier, clear, detail, cache_headers, opaque, Seal, Auth, unsigned, signed, Message}

-- equality of SPECIFIERs
abbrev pub same_spec : Spec → Spec → Bool
same_spec s t = bytes_eq s.method t.method && bytes_eq s.uri t.uri && bytes_eq s.version t.version && bytes_eq s.headers t.headers

-- equality of DETAILs
abbrev pub same_details : Details → Details → Bool
same_details d e = bytes_eq d.response e.response && bytes_eq d.entity e.entity && bytes_eq d.cache e.cache

-- equality of bodies
abbrev pub same_body : Body → Body → Bool
same_body empty empty = true
same_body (specifier s) (specifier t) = same_spec s t
same_body (clear r s) (clear q t) = (r == q) && same_spec s t
same_body (detail d) (detail e) = same_details d e
same_body (cache_headers g) (cache_headers h) = bytes_eq g h
same_body (opaque x) (opaque y) = bytes_eq x y
same_body b c = false

-- equality of seals
abbrev pub same_seal : Seal → Seal → Bool
same_seal s t = (s.time == t.time) && (s.expire == t.expire) && bytes_eq s.key_name t.key_name && bytes_eq s.signature t.signature

-- equality of AUTHs
abbrev pub same_auth : Auth → Auth → Bool
same_auth unsigned unsigned = true
same_auth (signed s) (signed t) = same_seal s t
same_auth a b = false

-- equality of messages
abbrev pub same_message : Message → Message → Bool
same_message m n =
    (m.minor == n.minor) && (m.opcode == n.opcode) && (m.response == n.response) && beq m.f1 n.f1 && beq m.rr n.rr
    && (m.trans == n.trans) && same_body m.body n.body && same_auth m.auth n.auth

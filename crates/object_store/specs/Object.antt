-- Objects: what was fetched for a key, with a digest, the MD5 (RFC 1321) of the encoded fields.
use Rattle.std.specs.Prelude.{◌≡◌, ℕ, List, ◌++◌, Vec, length, map, flat_map}
use Rattle.std.specs.declared.alloc.Global.{Global}
use Rattle.byteorder.specs.Endian.{big_bytes}
use Rattle.md5.specs.Md5.{md5}

-- status code, header fields as names and values, body, received Age in seconds, time to live in seconds, and the 16-octet
-- digest
pub record ObjectFields : Type 0 where
  pub status : ℕ
  pub head : List (List ℕ × List ℕ)
  pub body : List ℕ
  pub age : ℕ
  pub life : ℕ
  pub digest : List ℕ

-- an encoded number: 8 octets, big-endian
unfoldable pub spelled_number : ℕ → List ℕ
spelled_number n = big_bytes 8 n

-- an encoded octet string: its length, then the octets
abbrev pub spelled_octets : List ℕ → List ℕ
spelled_octets octets = spelled_number (length octets) ++ octets

-- an encoded header field: its name, then its value
abbrev pub spelled_field : List ℕ × List ℕ → List ℕ
spelled_field field = spelled_octets field.0 ++ spelled_octets field.1

-- an encoded head: the number of fields, then each field
abbrev pub spelled_head : List (List ℕ × List ℕ) → List ℕ
spelled_head head = spelled_number (length head) ++ flat_map spelled_field head

-- the digest of status, head, body, age and life, encoded in this order
unfoldable pub digest_of : ℕ → List (List ℕ × List ℕ) → List ℕ → ℕ → ℕ → List ℕ
digest_of status head body age life =
    md5 (spelled_number status ++ spelled_head head ++ spelled_octets body ++ spelled_number age ++ spelled_number life)

-- the object of these fields
abbrev pub object_of : ℕ → List (List ℕ × List ℕ) → List ℕ → ℕ → ℕ → ObjectFields
object_of status head body age life = record {
  status = status;
  head = head;
  body = body;
  age = age;
  life = life;
  digest = digest_of status head body age life;
}

-- the digest is right for the other fields
abbrev pub HasDigest : ObjectFields → Type 0
HasDigest object = object.digest ≡ digest_of object.status object.head object.body object.age object.life

-- the contents of a head whose names and values are vectors
abbrev pub head_of : List (Vec ℕ Global × Vec ℕ Global) → List (List ℕ × List ℕ)
head_of head = map (λ field. (field.0.items, field.1.items)) head

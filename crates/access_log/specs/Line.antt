-- The line of a request.
use Rattle.std.specs.Prelude.{◌≡◌, ℕ, ◌/◌, ◌==◌, min, Bool, true, if◌then◌else◌, List, [], ◌∷◌, ◌++◌, length, slice_index, codes, decimal, Option, Some, None}
use Rattle.std.specs.List.{join_with_byte, list_all}
use Rattle.std.specs.declared.net.ip_addr.IpAddr.{IpAddr}
use Rattle.std.specs.declared.net.ip_addr.IpAddr.TheVariants.{V4, V6}
use Rattle.std.specs.Net.Addr.{ipv4_octets, ipv6_segments}
use Rattle.std.specs.Net.Text.{ipv6_text}
use Rattle.httpdate.specs.Date.{unix_secs}
use Rattle.httpdate.specs.declared.date.HttpDate.{HttpDate}
use Rattle.access_log.specs.declared.entry.Entry.{Entry}
use Rattle.access_log.specs.declared.entry.Form.{Form}
use Rattle.access_log.specs.declared.entry.Form.TheVariants.{Common, Json}
use Rattle.access_log.specs.declared.entry.Course.{Course}
use Rattle.access_log.specs.declared.entry.Course.TheVariants.{Hit, Miss, Collapsed, Bypass, Own}
use Rattle.access_log.specs.declared.entry.Supplier.{Supplier}
use Rattle.access_log.specs.declared.entry.Supplier.TheVariants.{Origin, Neighbour}
use Rattle.access_log.specs.declared.stamp.Stamp.{Stamp}
use Rattle.access_log.specs.Escaped.{is_printable, escaped, escaped_or_dash}
use Rattle.access_log.specs.Stamp.{Shows, common_time, json_time}

-- The moment that a line shows, in milliseconds since 1970-01-01 UTC: that at which the request ended, and for one past the year
-- 9999, whose date would need a fifth digit, the last of that year.
abbrev pub shown_moment : ℕ → ℕ
shown_moment millis = min millis 253402300799999

-- the octets of an address of IPv4, such as `10.0.0.1`
unfoldable pub octets_text : List ℕ → List ℕ
octets_text octets =
    decimal (slice_index octets 0) ++ codes "." ++ decimal (slice_index octets 1) ++ codes "."
    ++ decimal (slice_index octets 2) ++ codes "." ++ decimal (slice_index octets 3)

-- an address; one of IPv6 as RFC 5952 writes it, such as `2001:db8::1`
unfoldable pub address_text : IpAddr → List ℕ
address_text (V4 address) = octets_text (ipv4_octets address)
address_text (V6 address) = ipv6_text (ipv6_segments address)

-- a status; 499 where there was none
unfoldable pub status_text : Option ℕ → List ℕ
status_text None = codes "499"
status_text (Some status) = decimal status

unfoldable pub course_text : Course → List ℕ
course_text Hit = codes "hit"
course_text Miss = codes "miss"
course_text Collapsed = codes "collapsed"
course_text Bypass = codes "bypass"
course_text Own = codes "refused"

unfoldable pub supplier_text : Option Supplier → List ℕ
supplier_text None = codes "-"
supplier_text (Some Origin) = codes "origin"
supplier_text (Some (Neighbour place)) = codes "neighbour/" ++ decimal place

-- between quotes
abbrev pub quoted : List ℕ → List ℕ
quoted text = codes "\"" ++ text ++ codes "\""

-- method, target and protocol, and `-` where no request was read
unfoldable pub request_text : Entry → List ℕ
request_text entry =
    if length entry.method.now == 0 then codes "-"
    else escaped Common entry.method.now ++ codes " " ++ escaped Common entry.url.now ++ codes " HTTP/1.1"

-- the fields of NCSA's combined format, and two more: how the request was answered with whose object, and milliseconds
unfoldable pub common_fields : Stamp → Entry → List (List ℕ)
common_fields stamp entry =
    address_text entry.client ∷ codes "-" ∷ codes "-" ∷ (codes "[" ++ common_time stamp ++ codes "]") ∷ quoted (request_text entry)
    ∷ status_text entry.status ∷ decimal entry.octets ∷ quoted (escaped_or_dash entry.referer.now)
    ∷ quoted (escaped_or_dash entry.agent.now) ∷ quoted (course_text entry.course ++ codes " " ++ supplier_text entry.supplier)
    ∷ decimal entry.taken ∷ []

unfoldable pub truth_text : Bool → List ℕ
truth_text is_so = if is_so then codes "true" else codes "false"

-- a member of an object
abbrev pub member : List ℕ → List ℕ → List ℕ
member name value = quoted name ++ codes ":" ++ value

-- a member whose value is what a client wrote
abbrev pub text_member : List ℕ → List ℕ → List ℕ
text_member name text = member name (quoted (escaped Json text))

-- the same, and none for no text
abbrev pub member_if_any : List ℕ → List ℕ → List (List ℕ)
member_if_any name text = if length text == 0 then [] else text_member name text ∷ []

-- the members, of which the last two may be left out
unfoldable pub json_members : Stamp → Entry → List (List ℕ)
json_members stamp entry =
    member (codes "time") (quoted (json_time stamp (shown_moment entry.millis)))
    ∷ member (codes "client") (quoted (address_text entry.client))
    ∷ text_member (codes "method") entry.method.now
    ∷ text_member (codes "url") entry.url.now
    ∷ member (codes "status") (status_text entry.status)
    ∷ member (codes "octets") (decimal entry.octets)
    ∷ member (codes "ms") (decimal entry.taken)
    ∷ member (codes "how") (quoted (course_text entry.course))
    ∷ member (codes "source") (quoted (supplier_text entry.supplier))
    ∷ member (codes "whole") (truth_text entry.is_whole)
    ∷ member_if_any (codes "referer") entry.referer.now ++ member_if_any (codes "agent") entry.agent.now

-- The common form is its fields with a space (32) between each two, JSON an object: its members with a comma (44) between each two.
unfoldable pub line_text : Form → Stamp → Entry → List ℕ
line_text Common stamp entry = join_with_byte 32 (common_fields stamp entry)
line_text Json stamp entry = codes "{" ++ join_with_byte 44 (json_members stamp entry) ++ codes "}"

-- The line of this entry: its text, with the date of the second that is shown, and a line feed.
pub record IsLine (form : Form) (entry : Entry) (line : List ℕ) : Type 0 where
  pub date : HttpDate
  pub stamp : Stamp
  pub second : unix_secs date ≡ shown_moment entry.millis / 1000
  pub shown : Shows date stamp
  pub text : line ≡ line_text form stamp entry ++ 10 ∷ []

-- One line and no more, which a terminal shows as it is: printable ASCII, and a line feed behind it.
abbrev pub IsOneLine : List ℕ → Type 0
IsOneLine line = (text : List ℕ) × (line ≡ text ++ 10 ∷ []) × (list_all is_printable text ≡ true)

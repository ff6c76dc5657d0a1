-- Whether a connection lasts beyond an answer, and whether a request may be sent once more.
use Rattle.std.specs.Prelude.{ℕ, List, codes, bytes_eq, not, ◌==◌, ◌&&◌, ◌||◌, Bool, if◌then◌else◌}
use Rattle.std.specs.List.{list_any}
use Rattle.http_rules.specs.Fields.{Field, has_field}
use Rattle.http_rules.specs.Forwarding.{options}
use Rattle.http_rules.specs.Passing.{is_unsafe}

-- whether an answer with this status has no body, whatever its fields say (RFC 9112, section 6.3)
abbrev pub is_without_body : ℕ → Bool
is_without_body status = status == 204 || status == 304

-- whether the end of a body is told by one framing and not by another one, too (RFC 9112, sections 6.1 and 6.3). A Transfer-Encoding is
-- chunked alone here, as in `tells_end`
abbrev pub has_one_framing : List Field → Bool
has_one_framing fields =
    if has_field (codes "transfer-encoding") fields then not (has_field (codes "content-length") fields)
    else has_field (codes "content-length") fields

-- whether an answer to GET ends before its connection does
abbrev pub has_length : ℕ → List Field → Bool
has_length status fields = is_without_body status || has_one_framing fields

-- whether a connection may carry another request after this answer (RFC 9112, section 9.3)
abbrev pub lasts : Bool → ℕ → List Field → Bool
lasts is_newest status fields =
    is_newest && (not (list_any (bytes_eq (codes "close")) (options fields)) && has_length status fields)

-- whether a request without an answer may be sent once more (RFC 9110, section 9.2.2; RFC 9112, section 9.3.1)
abbrev pub may_retry : List ℕ → Bool → Bool → Bool
may_retry method is_used has_answer = is_used && (not has_answer && not (is_unsafe method))

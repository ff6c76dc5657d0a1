-- How the end of a body is known (RFC 9112, section 6.3). A Transfer-Encoding tells it if chunked is its last coding: what asks here
-- has read the answer, and reads none with another coding than chunked alone.
use Rattle.std.specs.Prelude.{List, codes, ◌||◌, Bool}
use Rattle.http_rules.specs.Fields.{Field, has_field}

-- whether the head of an answer tells where its body ends; the body of one that doesn't ends with its connection
abbrev pub tells_end : List Field → Bool
tells_end fields = has_field (codes "transfer-encoding") fields || has_field (codes "content-length") fields

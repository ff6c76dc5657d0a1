-- A line in the pieces that are appended one after another. Only contracts of private functions use this; `Line` has the line itself.
use Rattle.std.specs.Prelude.{ℕ, ◌==◌, if◌then◌else◌, List, [], ◌++◌, length, codes, decimal}
use Rattle.access_log.specs.declared.entry.Entry.{Entry}
use Rattle.access_log.specs.declared.entry.Form.{Form}
use Rattle.access_log.specs.declared.entry.Form.TheVariants.{Common, Json}
use Rattle.access_log.specs.declared.stamp.Stamp.{Stamp}
use Rattle.access_log.specs.Escaped.{escaped, escaped_or_dash}
use Rattle.access_log.specs.Stamp.{common_time, json_time}
use Rattle.access_log.specs.Line.{shown_moment, address_text, status_text, course_text, supplier_text, request_text, truth_text}

-- who asked for what, and when that ended
unfoldable pub common_asked : Stamp → Entry → List ℕ
common_asked stamp entry =
    address_text entry.client ++ codes " - - [" ++ common_time stamp ++ codes "] \"" ++ request_text entry ++ codes "\" "

-- what was answered, and two fields of the request
unfoldable pub common_answered : Entry → List ℕ
common_answered entry =
    status_text entry.status ++ codes " " ++ decimal entry.octets ++ codes " \"" ++ escaped_or_dash entry.referer.now
    ++ codes "\" \"" ++ escaped_or_dash entry.agent.now ++ codes "\" "

-- how it was answered with whose object, and milliseconds
unfoldable pub common_course : Entry → List ℕ
common_course entry =
    codes "\"" ++ course_text entry.course ++ codes " " ++ supplier_text entry.supplier ++ codes "\" " ++ decimal entry.taken

-- the common form
unfoldable pub common_pieces : Stamp → Entry → List ℕ
common_pieces stamp entry = common_asked stamp entry ++ common_answered entry ++ common_course entry

-- a member of an object whose value is a text, behind another member
unfoldable pub named_text : List ℕ → List ℕ → List ℕ
named_text name text = codes ",\"" ++ name ++ codes "\":\"" ++ escaped Json text ++ codes "\""

-- the same, and nothing for no text
unfoldable pub member_text : List ℕ → List ℕ → List ℕ
member_text name text = if length text == 0 then [] else named_text name text

-- who asked for what, and when that ended
unfoldable pub json_asked : Stamp → Entry → List ℕ
json_asked stamp entry =
    codes "\"time\":\"" ++ json_time stamp (shown_moment entry.millis) ++ codes "\",\"client\":\"" ++ address_text entry.client ++ codes "\""
    ++ named_text (codes "method") entry.method.now ++ named_text (codes "url") entry.url.now

-- what was answered
unfoldable pub json_answered : Entry → List ℕ
json_answered entry =
    codes ",\"status\":" ++ status_text entry.status ++ codes ",\"octets\":" ++ decimal entry.octets
    ++ codes ",\"ms\":" ++ decimal entry.taken

-- how it was answered with whose object
unfoldable pub json_course : Entry → List ℕ
json_course entry =
    codes ",\"how\":\"" ++ course_text entry.course ++ codes "\",\"source\":\"" ++ supplier_text entry.supplier
    ++ codes "\",\"whole\":" ++ truth_text entry.is_whole

-- JSON
unfoldable pub json_pieces : Stamp → Entry → List ℕ
json_pieces stamp entry =
    codes "{" ++ json_asked stamp entry ++ json_answered entry ++ json_course entry
    ++ member_text (codes "referer") entry.referer.now ++ member_text (codes "agent") entry.agent.now ++ codes "}"

unfoldable pub pieces_of : Form → Stamp → Entry → List ℕ
pieces_of Common stamp entry = common_pieces stamp entry
pieces_of Json stamp entry = json_pieces stamp entry

-- A line is printable ASCII but for its end.
use Rattle.std.proofs.Common.{ℕ, ◌+◌, ◌/◌, ◌%◌, ◌<◌, Bool, true, false, List, [], ◌∷◌, ◌++◌, length, nat_eq, refl, sym, subst, arith}
use Rattle.std.specs.Prelude.{codes, decimal, Option, Some, None}
use Rattle.std.proofs.lemmas.List.Folds.{list_all-append}
use Rattle.httpdate.specs.declared.date.HttpDate.{HttpDate}
use Rattle.httpdate.specs.Text.{two_digits}
use Rattle.access_log.specs.declared.entry.Entry.{Entry}
use Rattle.access_log.specs.declared.entry.Form.{Form}
use Rattle.access_log.specs.declared.entry.Form.TheVariants.{Common, Json}
use Rattle.access_log.specs.declared.entry.Course.{Course}
use Rattle.access_log.specs.declared.entry.Course.TheVariants.{Hit, Miss, Collapsed, Bypass, Own}
use Rattle.access_log.specs.declared.entry.Supplier.{Supplier}
use Rattle.access_log.specs.declared.entry.Supplier.TheVariants.{Origin, Neighbour}
use Rattle.access_log.specs.declared.stamp.Stamp.{Stamp}
use Rattle.access_log.specs.Escaped.{is_printable, escaped, escaped_or_dash}
use Rattle.access_log.specs.Stamp.{Shows, common_time, json_time, three_digits}
use Rattle.access_log.specs.Line.{shown_moment, address_text, status_text, course_text, supplier_text, request_text, truth_text}
use Rattle.access_log.specs.Pieces.{common_asked, common_answered, common_course, common_pieces, named_text, member_text, json_asked, json_answered, json_course, json_pieces, pieces_of}
use Rattle.access_log.proofs.Clean.{Clean, clean_both, clean_either, clean_one, clean_decimal, clean_two, clean_escaped}
use Rattle.access_log.proofs.Places.{month_names}

-- the parts of a date
record CleanStamp (stamp : Stamp) : Type 0 where
  year : Clean stamp.year
  month : Clean stamp.month
  month_name : Clean stamp.month_name
  day : Clean stamp.day
  time : Clean stamp.time

clean_time : (hour min sec : ℕ) → hour < 24 → min < 60 → sec < 60 → Clean (two_digits hour ++ codes ":" ++ two_digits min ++ codes ":" ++ two_digits sec)
clean_time hour min sec h m s =
    let a = clean_two hour (omega arith) in
    let b = clean_two min (omega arith) in
    let d = clean_two sec (omega arith) in
    clean_both (two_digits hour ++ codes ":" ++ two_digits min ++ codes ":") (two_digits sec)
    (clean_both (two_digits hour ++ codes ":" ++ two_digits min) (codes ":")
    (clean_both (two_digits hour ++ codes ":") (two_digits min) (clean_both (two_digits hour) (codes ":") a refl) b) refl) d

clean_stamp : (date : HttpDate) (stamp : Stamp) → Shows date stamp → CleanStamp stamp
clean_stamp date stamp shows = record {
  year = subst Clean (sym shows.year) (clean_both (two_digits (date.parts.year / 100)) (two_digits (date.parts.year % 100)) (clean_two (date.parts.year / 100) (omega (arith, date.civil.0))) (clean_two (date.parts.year % 100) (omega arith)));
  month = subst Clean (sym shows.month) (clean_two date.parts.mon (omega (arith, date.civil.1)));
  month_name = subst Clean (sym shows.month_name) (month_names date.parts.mon date.civil.1).clean;
  day = subst Clean (sym shows.day) (clean_two date.parts.day (grind (arith, date.civil.2.1)));
  time = subst Clean (sym shows.time) (clean_time date.parts.hour date.parts.min date.parts.sec date.time.0 date.time.1 date.time.2);
}

clean_three : (n : ℕ) → n < 1000 → Clean (three_digits n)
clean_three n h =
    clean_one (48 + n / 100) ((48 + n / 10 % 10) ∷ (48 + n % 10) ∷ []) (omega arith) (omega arith)
    (clean_one (48 + n / 10 % 10) ((48 + n % 10) ∷ []) (omega arith) (omega arith) (clean_one (48 + n % 10) [] (omega arith) (omega arith) refl))

clean_common_time : (stamp : Stamp) → CleanStamp stamp → Clean (common_time stamp)
unfolding common_time
clean_common_time stamp h = simp (list_all-append is_printable, h.year, h.month_name, h.day, h.time)

clean_json_time : (stamp : Stamp) (millis : ℕ) → CleanStamp stamp → Clean (json_time stamp millis)
unfolding json_time
clean_json_time stamp millis h =
    let three : Clean (three_digits (millis % 1000)) = clean_three (millis % 1000) (omega arith) in
    simp (list_all-append is_printable, h.year, h.month, h.day, h.time, three)

-- words
clean_status : (status : Option ℕ) → Clean (status_text status)
unfolding status_text
clean_status None = refl
clean_status (Some status) = clean_decimal status

clean_course : (course : Course) → Clean (course_text course)
unfolding course_text
clean_course Hit = refl
clean_course Miss = refl
clean_course Collapsed = refl
clean_course Bypass = refl
clean_course Own = refl

clean_supplier : (supplier : Option Supplier) → Clean (supplier_text supplier)
unfolding supplier_text
clean_supplier None = refl
clean_supplier (Some Origin) = refl
clean_supplier (Some (Neighbour place)) = clean_both (codes "neighbour/") (decimal place) refl (clean_decimal place)

clean_truth : (is_so : Bool) → Clean (truth_text is_so)
unfolding truth_text
clean_truth true = refl
clean_truth false = refl

-- the common form
clean_or_dash : (text : List ℕ) → Clean (escaped_or_dash text)
unfolding escaped_or_dash
clean_or_dash text = clean_either (nat_eq (length text) 0) (codes "-") (escaped Common text) refl (clean_escaped Common text)

clean_request : (entry : Entry) → Clean (request_text entry)
unfolding request_text
clean_request entry =
    clean_either (nat_eq (length entry.method.now) 0) (codes "-") (escaped Common entry.method.now ++ codes " " ++ escaped Common entry.url.now ++ codes " HTTP/1.1")
    refl (simp (list_all-append is_printable, clean_escaped))

clean_common_asked : (stamp : Stamp) (entry : Entry) → CleanStamp stamp → Clean (address_text entry.client) → Clean (common_asked stamp entry)
unfolding common_asked
clean_common_asked stamp entry h client =
    let time = clean_common_time stamp h in
    simp (list_all-append is_printable, client, time, clean_request)

clean_common_answered : (entry : Entry) → Clean (common_answered entry)
unfolding common_answered
clean_common_answered entry = simp (list_all-append is_printable, clean_status, clean_decimal, clean_or_dash)

clean_common_course : (entry : Entry) → Clean (common_course entry)
unfolding common_course
clean_common_course entry = simp (list_all-append is_printable, clean_course, clean_supplier, clean_decimal)

clean_common_pieces : (stamp : Stamp) (entry : Entry) → CleanStamp stamp → Clean (address_text entry.client) → Clean (common_pieces stamp entry)
unfolding common_pieces
clean_common_pieces stamp entry h client =
    clean_both (common_asked stamp entry ++ common_answered entry) (common_course entry)
    (clean_both (common_asked stamp entry) (common_answered entry) (clean_common_asked stamp entry h client) (clean_common_answered entry))
    (clean_common_course entry)

-- JSON
clean_named : (name text : List ℕ) → Clean name → Clean (named_text name text)
unfolding named_text
clean_named name text h = simp (list_all-append is_printable, h, clean_escaped)

clean_member : (name text : List ℕ) → Clean name → Clean (member_text name text)
unfolding member_text
clean_member name text h = clean_either (nat_eq (length text) 0) [] (named_text name text) refl (clean_named name text h)

clean_json_asked : (stamp : Stamp) (entry : Entry) → CleanStamp stamp → Clean (address_text entry.client) → Clean (json_asked stamp entry)
unfolding json_asked
clean_json_asked stamp entry h client =
    let time = clean_json_time stamp (shown_moment entry.millis) h in
    let method = clean_named (codes "method") entry.method.now refl in
    let url = clean_named (codes "url") entry.url.now refl in
    simp (list_all-append is_printable, time, client, method, url)

clean_json_answered : (entry : Entry) → Clean (json_answered entry)
unfolding json_answered
clean_json_answered entry = simp (list_all-append is_printable, clean_status, clean_decimal)

clean_json_course : (entry : Entry) → Clean (json_course entry)
unfolding json_course
clean_json_course entry = simp (list_all-append is_printable, clean_course, clean_supplier, clean_truth)

clean_json_pieces : (stamp : Stamp) (entry : Entry) → CleanStamp stamp → Clean (address_text entry.client) → Clean (json_pieces stamp entry)
unfolding json_pieces
clean_json_pieces stamp entry h client =
    let asked = clean_json_asked stamp entry h client in
    let answered = clean_json_answered entry in
    let course = clean_json_course entry in
    let referer = clean_member (codes "referer") entry.referer.now refl in
    let agent = clean_member (codes "agent") entry.agent.now refl in
    simp (list_all-append is_printable, asked, answered, course, referer, agent)

pub clean_pieces : (form : Form) (date : HttpDate) (stamp : Stamp) (entry : Entry) → Shows date stamp → Clean (address_text entry.client) → Clean (pieces_of form stamp entry)
unfolding pieces_of
clean_pieces Common date stamp entry shows client = clean_common_pieces stamp entry (clean_stamp date stamp shows) client
clean_pieces Json date stamp entry shows client = clean_json_pieces stamp entry (clean_stamp date stamp shows) client

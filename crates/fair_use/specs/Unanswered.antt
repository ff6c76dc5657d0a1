-- What may have been changed by a request with an unsafe method (RFC 9110, section 9.2.1) whose client has gone.
use Rattle.std.specs.Prelude.{ℕ, nat_lt, nat_le, ◌&&◌, Bool, true, false, Option, Some, None}
use Rattle.fair_use.specs.declared.unanswered.Upload.{Upload}
use Rattle.fair_use.specs.declared.unanswered.Upload.TheVariants.{Whole, Broken}

-- whether a request was carried out, by the status of its answer: 2xx or 3xx (RFC 9111, section 4.4)
abbrev pub is_carried_out : ℕ → Bool
is_carried_out status = nat_le 200 status && nat_lt status 400

-- whether a request may have been carried out, by how much of it its client has sent and by the status of its answer, if one came: who has
-- said so has done it, and of who says nothing that may be where it had all of the request
abbrev pub may_have_changed : Upload → Option ℕ → Bool
may_have_changed upload (Some status) = is_carried_out status
may_have_changed Whole None = true
may_have_changed Broken None = false

-- The headers, part by part.
use Rattle.std.proofs.Common.{refl, ◌∙◌}
use Rattle.capture.proofs.written.put_headers.Goals as goal

pub returns : goal.returns
returns c = c.in_ok-put_four.ensures ∙ rw (c.header_front-front.ensures, c.udp_header-back.ensures, c.checksum.ensures) refl

-- What a filter makes of a datagram, and whether the octets are a message, as a node counts it.
use Rattle.std.specs.Prelude.{ℕ, ◌==◌, ◌-◌, ◌&&◌, not, nat_lt, Bool, List, length, take, is_none}
use Rattle.bpf_check.specs.declared.insn.Insn.{Insn}
use Rattle.node_terms.specs.declared.ends.Socket.{Socket}
use Rattle.node_terms.specs.declared.ends.Socket.TheVariants.{Icp, Htcp}
use Rattle.bpf_run.specs.Packet.{filter_packet, header_octets}
use Rattle.bpf_run.specs.Verdict.{verdict_of}
use Rattle.capture.specs.Udp.{UdpFields}
use Rattle.icp_packet.specs.Reading as icp
use Rattle.htcp_packet.specs.Reading as htcp
use Rattle.replay.specs.declared.finding.Finding.{Finding}

-- the verdict on a datagram
abbrev pub value_of : List Insn → UdpFields → ℕ
value_of p d = verdict_of p (filter_packet d.from d.to d.payload)

-- what a verdict hands on of a payload: a verdict counts octets of the whole packet, header included
abbrev pub handed_on : List ℕ → ℕ → List ℕ
handed_on payload value = take (value - header_octets) payload

-- octets that are no message of the socket's protocol
abbrev pub is_no_message : Socket → List ℕ → Bool
is_no_message Icp octets = is_none (icp.message_of octets)
is_no_message Htcp octets = is_none (htcp.message_of octets)

-- What becomes of a payload under a verdict. It is cut where it isn't rejected and less than all is handed on, malformed where it
-- isn't rejected and what is handed on is no message. `unfiltered` says whether it would be malformed without a filter.
abbrev pub finding_by : ℕ → Socket → List ℕ → Finding
finding_by value socket payload = record {
  value = value;
  cut = not (value == 0) && nat_lt (length (handed_on payload value)) (length payload);
  malformed = not (value == 0) && is_no_message socket (handed_on payload value);
  unfiltered = is_no_message socket payload;
}

-- what the program makes of a datagram for the socket
abbrev pub finding_of : List Insn → Socket → UdpFields → Finding
finding_of p socket d = finding_by (value_of p d) socket d.payload

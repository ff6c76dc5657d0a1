-- The encoded queries that neighbours of one fetch share. Private contracts only; no public contract uses this.
use Rattle.std.specs.Prelude.{◌≡◌, ℕ, List, IfSome}
use Rattle.icp_packet.specs.Message.{spelling}
use Rattle.htcp_packet.specs.Writing.{message_text, without_auth}
use Rattle.plain_node.specs.declared.queries.QueryOctets.{QueryOctets}
use Rattle.plain_node.specs.PlainNode.{PlainNode}
use Rattle.plain_node.specs.Requests.{icp_query, htcp_query}

-- the octets encoded so far are those of the ICP query, and of the unsigned HTCP query
pub record AreQueryOctets (node : PlainNode) (number : ℕ) (key : List ℕ) (common : QueryOctets) : Type 0 where
  pub icp : IfSome common.icp (λ octets. octets ≡ spelling (icp_query node number key))
  pub htcp : IfSome common.htcp (λ octets. octets ≡ message_text (without_auth (htcp_query number key)))

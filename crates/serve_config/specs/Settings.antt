-- What the settings are that a configuration says.
use Rattle.std.specs.Prelude.{length, codes, option_map}
use Rattle.std.specs.String.{string_bytes}
use Rattle.node_words.specs.declared.config.Config.{Config}
use Rattle.serde_json.specs.Data.{Data}
use Rattle.serve_config.specs.Addresses.{IsHost}
use Rattle.serve_config.specs.Files.{AreFiles}
use Rattle.serve_config.specs.Fronts.{AreFronts, AreLogs}
use Rattle.serve_config.specs.Group.{IsKey, IsNeighbour}
use Rattle.serve_config.specs.Limits.{AreLengths, AreLoads, ArePaces}
use Rattle.serve_config.specs.Mirrors.{AreMirrors}
use Rattle.serve_config.specs.Origins.{AreOrigins, IsNetwork}
use Rattle.serve_config.specs.Passing.{ArePassed}
use Rattle.serve_config.specs.Refresh.{AreFreshness}
use Rattle.serve_config.specs.Said.{IsTruth, IsWhole, Lists, Says}
use Rattle.serve_config.specs.SharedFields.{AreSharedFields}
use Rattle.serve_config.specs.declared.settings.Settings.{Settings}

-- the node
pub record IsNode (settings : Data) (node : Config) : Type 0 where
  pub icp : Says IsHost (codes "address") settings node.icp.addr
  pub icp_port : Says (IsWhole 0 65535) (codes "icp_port") settings node.icp.port
  pub htcp : Says IsHost (codes "address") settings node.htcp.addr
  pub htcp_port : Says (IsWhole 0 65535) (codes "htcp_port") settings node.htcp.port
  pub allowed : Lists IsNetwork (codes "allowed") settings node.allowed.items
  pub miss_nofetch : Says IsTruth (codes "miss_nofetch") settings node.miss_nofetch
  pub origin : Says IsTruth (codes "origin") settings node.origin
  pub entries : Says (IsWhole 1 1000000) (codes "entries") settings node.entries
  pub octets : Says (IsWhole 1 1073741824) (codes "octets") settings node.octets
  pub neighbours : Lists IsNeighbour (codes "neighbours") settings node.neighbours.items
  pub keys : Lists IsKey (codes "keys") settings node.keys.items

-- all of them
pub record AreSettings (settings : Data) (s : Settings) : Type 0 where
  pub lengths : AreLengths settings s.body_limit s.volume s.receipt_octets s.book_octets
  pub loads : AreLoads settings s.fetch_octets s.shelf_octets s.address_connections s.client_threads s.lookup_threads s.stop_after
  pub front : AreFronts settings s.address s.http_port s.admin_port (string_bytes s.name) (option_map string_bytes s.admin_token) s.six_clients
  pub logs : AreLogs settings (option_map string_bytes s.access_log) s.access_log_format s.log_level
  pub node : IsNode settings s.node
  pub filters : AreFiles (length s.node.neighbours.items) settings s.filters.items
  pub origins : AreOrigins settings (option_map (λ v. v.items) s.deny_origins) (option_map (λ v. v.items) s.origin_ports) (option_map (λ v. v.items) s.origins6)
  pub freshness : AreFreshness settings s.freshness s.refresh.items s.serve_stale
  pub passed : ArePassed settings s.methods.items s.connect_ports.items s.large
  pub paces : ArePaces settings s.streams s.tunnels s.fetch_seconds s.fetch_idle s.fetch_speed s.quick_abort_octets s.keep_alive
  pub mirrors : AreMirrors settings s.mirrors.items
  pub shared_fields : AreSharedFields settings s.shared_fields.items

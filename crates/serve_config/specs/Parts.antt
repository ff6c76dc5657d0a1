-- What is known of the parts of a configuration once they are parsed. No public contract depends on these definitions.
use Rattle.std.specs.Prelude.{◌≡◌, ◌⊎◌, ◌++◌, List, [], ◌∷◌, codes, length, option_map}
use Rattle.std.specs.String.{string_bytes}
use Rattle.node_terms.specs.declared.network.Network.{Network}
use Rattle.serde_json.specs.Data.{Data}
use Rattle.serve_config.specs.Addresses.{IsHost}
use Rattle.serve_config.specs.Files.{AreFiles}
use Rattle.serve_config.specs.Fronts.{AreFronts, AreLogs}
use Rattle.serve_config.specs.Limits.{AreLengths, AreLoads, ArePaces}
use Rattle.serve_config.specs.Mirrors.{AreMirrors}
use Rattle.serve_config.specs.Origins.{AreOrigins, IsNetwork, IsSixNetwork}
use Rattle.serve_config.specs.Passing.{ArePassed}
use Rattle.serve_config.specs.Refresh.{AreFreshness}
use Rattle.serve_config.specs.Said.{IsTruth, IsWhole, Says}
use Rattle.serve_config.specs.Settings.{IsNode}
use Rattle.serve_config.specs.SharedFields.{AreSharedFields}
use Rattle.serve_config.specs.declared.front.FrontKeys.{FrontKeys}
use Rattle.serve_config.specs.declared.keys.BackKeys.{BackKeys}
use Rattle.serve_config.specs.declared.keys.Keys.{Keys}
use Rattle.serve_config.specs.declared.limits.LengthKeys.{LengthKeys}
use Rattle.serve_config.specs.declared.limits.LoadKeys.{LoadKeys}
use Rattle.serve_config.specs.declared.logs.LogKeys.{LogKeys}
use Rattle.serve_config.specs.declared.freshness.FreshnessKeys.{FreshnessKeys}
use Rattle.serve_config.specs.declared.node.NodeFrame.{NodeFrame}
use Rattle.serve_config.specs.declared.node.NodeKeys.{NodeKeys}
use Rattle.serve_config.specs.declared.origins.OriginKeys.{OriginKeys}
use Rattle.serve_config.specs.declared.origins.SixNetwork.{SixNetwork}
use Rattle.serve_config.specs.declared.passing.PaceKeys.{PaceKeys}
use Rattle.serve_config.specs.declared.passing.PassingKeys.{PassingKeys}
use Rattle.serve_config.specs.declared.web.SiteKeys.{SiteKeys}
use Rattle.serve_config.specs.declared.web.WebKeys.{WebKeys}

-- each part
abbrev pub AreLengthKeys : Data → LengthKeys → Type 0
AreLengthKeys d s = AreLengths d s.body_limit s.volume s.receipt_octets s.book_octets

abbrev pub AreLoadKeys : Data → LoadKeys → Type 0
AreLoadKeys d s = AreLoads d s.fetch_octets s.shelf_octets s.address_connections s.client_threads s.lookup_threads s.stop_after

abbrev pub AreFrontKeys : Data → FrontKeys → Type 0
AreFrontKeys d s = AreFronts d s.address s.http_port s.admin_port (string_bytes s.name) (option_map string_bytes s.admin_token) s.six_clients

abbrev pub AreLogKeys : Data → LogKeys → Type 0
AreLogKeys d s = AreLogs d (option_map string_bytes s.access_log) s.access_log_format s.log_level

abbrev pub AreOriginKeys : Data → OriginKeys → Type 0
AreOriginKeys d s =
    AreOrigins d (option_map (λ v. v.items) s.deny_origins) (option_map (λ v. v.items) s.origin_ports) (option_map (λ v. v.items) s.origins6)

-- one network more in one of two lists, which a value says
abbrev pub AddsNetwork : Data → List Network → List SixNetwork → List Network → List SixNetwork → Type 0
AddsNetwork value four six four' six' =
    ((network : Network) × (four' ≡ four ++ network ∷ []) × (six' ≡ six) × IsNetwork value network)
    ⊎ ((network : SixNetwork) × (four' ≡ four) × (six' ≡ six ++ network ∷ []) × IsSixNetwork value network)

abbrev pub AreFreshnessKeys : Data → FreshnessKeys → Type 0
AreFreshnessKeys d s = AreFreshness d s.freshness s.refresh.items s.serve_stale

abbrev pub ArePaceKeys : Data → PaceKeys → Type 0
ArePaceKeys d s =
    ArePaces d s.streams s.tunnels s.fetch_seconds s.fetch_idle s.fetch_speed s.quick_abort_octets s.keep_alive

pub record ArePassingKeys (d : Data) (s : PassingKeys) : Type 0 where
  pub passed : ArePassed d s.methods.items s.connect_ports.items s.large
  pub paces : ArePaceKeys d s.pace

-- what of the node has no length of its own
pub record IsFrame (d : Data) (s : NodeFrame) : Type 0 where
  pub icp : Says IsHost (codes "address") d s.icp.addr
  pub icp_port : Says (IsWhole 0 65535) (codes "icp_port") d s.icp.port
  pub htcp : Says IsHost (codes "address") d s.htcp.addr
  pub htcp_port : Says (IsWhole 0 65535) (codes "htcp_port") d s.htcp.port
  pub miss_nofetch : Says IsTruth (codes "miss_nofetch") d s.miss_nofetch
  pub origin : Says IsTruth (codes "origin") d s.origin
  pub entries : Says (IsWhole 1 1000000) (codes "entries") d s.entries
  pub octets : Says (IsWhole 1 1073741824) (codes "octets") d s.octets

pub record AreNodeKeys (d : Data) (s : NodeKeys) : Type 0 where
  pub node : IsNode d s.config
  pub filters : AreFiles (length s.config.neighbours.items) d s.filters.items

-- which origins are fetched from, for how long their answers are fresh, and what is passed on
pub record AreWebKeys (d : Data) (s : WebKeys) : Type 0 where
  pub origins : AreOriginKeys d s.origins
  pub freshness : AreFreshnessKeys d s.freshness
  pub passing : ArePassingKeys d s.passing

-- what requests in origin form stand for, and the fields of the fetches for all clients
pub record AreSiteKeys (d : Data) (s : SiteKeys) : Type 0 where
  pub mirrors : AreMirrors d s.mirrors.items
  pub shared_fields : AreSharedFields d s.shared_fields.items

-- what is behind the front
pub record AreBackKeys (d : Data) (s : BackKeys) : Type 0 where
  pub node : AreNodeKeys d s.node
  pub web : AreWebKeys d s.web
  pub site : AreSiteKeys d s.site

-- all of it
pub record AreKeys (d : Data) (s : Keys) : Type 0 where
  pub lengths : AreLengthKeys d s.lengths
  pub loads : AreLoadKeys d s.loads
  pub front : AreFrontKeys d s.front
  pub logs : AreLogKeys d s.logs
  pub back : AreBackKeys d s.back

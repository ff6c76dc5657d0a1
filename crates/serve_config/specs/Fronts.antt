-- How the proxy is reached by clients and administrators, and what it tells.
use Rattle.std.specs.Prelude.{ℕ, ◌≡◌, List, codes, Option, Some}
use Rattle.serde_json.specs.Data.{Data}
use Rattle.serve_config.specs.Addresses.{IsHost}
use Rattle.serve_config.specs.Files.{IsPath}
use Rattle.serve_config.specs.Refresh.{IsVisible}
use Rattle.serve_config.specs.Said.{IsText, IsWhole, MaySay, Says}
use Rattle.serve_config.specs.SixClients.{AreSixClients}
use Rattle.serve_config.specs.Tokens.{IsToken}
use Rattle.serve_config.specs.Words.{form_said, level_said}
use Rattle.serve_config.specs.declared.settings.LogFormat.{LogFormat}
use Rattle.serve_config.specs.declared.settings.LogLevel.{LogLevel}
use Rattle.serve_config.specs.declared.six_clients.SixClients.{SixClients}

-- the cache's name
pub record IsName (value : Data) (name : List ℕ) : Type 0 where
  pub said : IsText value name
  pub visible : IsVisible name

-- the administrator's token
pub record IsSaidToken (value : Data) (token' : List ℕ) : Type 0 where
  pub said : IsText value token'
  pub token : IsToken token'

-- how it is reached
pub record AreFronts (settings : Data) (address' : List ℕ) (http_port' admin_port' : ℕ) (name' : List ℕ) (admin_token' : Option (List ℕ)) (six_clients' : Option SixClients) : Type 0 where
  pub address : Says IsHost (codes "address") settings address'
  pub http_port : Says (IsWhole 0 65535) (codes "http_port") settings http_port'
  pub admin_port : Says (IsWhole 0 65535) (codes "admin_port") settings admin_port'
  pub name : Says IsName (codes "name") settings name'
  pub admin_token : MaySay IsSaidToken (codes "admin_token") settings admin_token'
  pub six_clients : AreSixClients settings six_clients'

-- the lines that it tells, and where they go
pub record AreLogs (settings : Data) (access_log' : Option (List ℕ)) (form : LogFormat) (level : LogLevel) : Type 0 where
  pub access_log : MaySay IsPath (codes "access_log") settings access_log'
  pub access_log_format : form_said settings ≡ Some form
  pub log_level : level_said settings ≡ Some level

-- The sizes and numbers of a configuration that the program keeps within.
use Rattle.std.specs.Prelude.{ℕ, codes, Option}
use Rattle.serde_json.specs.Data.{Data}
use Rattle.serve_config.specs.Said.{IsWhole, MaySay, Says, SaysOr}

-- the lengths of bodies and of the event log
pub record AreLengths (settings : Data) (body_limit' volume' : ℕ) (receipt_octets' book_octets' : Option ℕ) : Type 0 where
  pub body_limit : Says (IsWhole 1 1073741824) (codes "body_limit") settings body_limit'
  pub volume : Says (IsWhole 1 1048576) (codes "volume") settings volume'
  pub receipt_octets : MaySay (IsWhole 0 1073741824) (codes "receipt_octets") settings receipt_octets'
  pub book_octets : MaySay (IsWhole 1 1073741824) (codes "book_octets") settings book_octets'

-- how much the program takes on, and after how many answers it ends
pub record AreLoads (settings : Data) (fetch_octets' shelf_octets' address_connections' client_threads' lookup_threads' : Option ℕ) (stop_after' : ℕ) : Type 0 where
  pub fetch_octets : MaySay (IsWhole 1 1073741824) (codes "fetch_octets") settings fetch_octets'
  pub shelf_octets : MaySay (IsWhole 0 1073741824) (codes "shelf_octets") settings shelf_octets'
  pub address_connections : MaySay (IsWhole 1 4096) (codes "address_connections") settings address_connections'
  pub client_threads : MaySay (IsWhole 1 16) (codes "client_threads") settings client_threads'
  pub lookup_threads : MaySay (IsWhole 1 256) (codes "lookup_threads") settings lookup_threads'
  pub stop_after : Says (IsWhole 0 18446744073709551615) (codes "stop_after") settings stop_after'

-- how much is passed on at a time, and for how long
pub record ArePaces (settings : Data) (streams' tunnels' fetch_seconds' : ℕ) (fetch_idle' : Option ℕ) (fetch_speed' : ℕ) (quick_abort_octets' : Option ℕ) (keep_alive' : ℕ) : Type 0 where
  pub streams : SaysOr 256 (IsWhole 1 4096) (codes "streams") settings streams'
  pub tunnels : SaysOr 1024 (IsWhole 1 4096) (codes "tunnels") settings tunnels'
  pub fetch_seconds : SaysOr 30 (IsWhole 1 86400) (codes "fetch_seconds") settings fetch_seconds'
  pub fetch_idle : MaySay (IsWhole 1 86400) (codes "fetch_idle") settings fetch_idle'
  pub fetch_speed : SaysOr 0 (IsWhole 0 1000000) (codes "fetch_speed") settings fetch_speed'
  pub quick_abort_octets : MaySay (IsWhole 1 1073741824) (codes "quick_abort_octets") settings quick_abort_octets'
  pub keep_alive : SaysOr 0 (IsWhole 0 3600) (codes "keep_alive") settings keep_alive'

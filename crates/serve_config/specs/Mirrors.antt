-- What requests in origin form stand for.
use Rattle.std.specs.Prelude.{ℕ, ◌≡◌, ◌≤◌, List, [], All, map, length, codes, nat_eq, nat_le, nat_lt, ◌&&◌, Bool, true, Some, MatchOption, String}
use Rattle.std.specs.List.{list_all, starts_with, ends_with}
use Rattle.std.specs.String.{string_bytes}
use Rattle.std.specs.declared.alloc.Global.{Global}
use Rattle.serde_json.specs.Data.{Data, string}
use Rattle.serde_json.specs.Find.{as_object, get}
use Rattle.serde_json.specs.View.{members_of}
use Rattle.serve_config.specs.Refresh.{is_visible}
use Rattle.serve_config.specs.declared.mirrors.MirrorPath.{MirrorPath}

-- a text of at most 8,192 octets of visible ASCII that ends with a slash
abbrev pub is_folder : List ℕ → Bool
is_folder text = ends_with nat_eq text (codes "/") && list_all is_visible text && nat_le (length text) 8192

-- the path of a mirror: a folder that begins with a slash
unfoldable pub is_mirror_path : List ℕ → Bool
is_mirror_path text = starts_with nat_eq text (codes "/") && is_folder text

-- the URL of a mirror: a folder that begins with http:// and goes on
unfoldable pub is_mirror_url : List ℕ → Bool
is_mirror_url text = starts_with nat_eq text (codes "http://") && nat_lt 8 (length text) && is_folder text

-- a mirror of an accepted configuration
pub record IsMirror (mirror : MirrorPath) : Type 0 where
  pub path : is_mirror_path (string_bytes mirror.path) ≡ true
  pub url : is_mirror_url (string_bytes mirror.url) ≡ true

-- the key and the value that name it
abbrev pub mirror_member : MirrorPath → String Global × Data
mirror_member mirror = (mirror.path, string (string_bytes mirror.url))

-- the mirrors of a configuration: those of its object, in that order, at most 64; none without the key
pub record AreMirrors (settings : Data) (mirrors : List MirrorPath) : Type 0 where
  pub said : MatchOption (get (codes "mirrors") settings) (mirrors ≡ [])
      (λ value. as_object value ≡ Some (members_of (map mirror_member mirrors)))
  pub most : length mirrors ≤ 64
  pub each : All IsMirror mirrors

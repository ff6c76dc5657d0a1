-- URIs that name the default port 80 explicitly.
use Rattle.std.specs.Prelude.{◌≡◌, ◌≢◌, ℕ, List, ◌∷◌, ◌++◌}
use Rattle.std.specs.List.{All}

-- `http://` followed by the rest
abbrev pub behind_scheme : List ℕ → List ℕ
behind_scheme rest = 104 ∷ 116 ∷ 116 ∷ 112 ∷ 58 ∷ 47 ∷ 47 ∷ rest

-- `:80/` followed by the rest
abbrev pub at_port_80 : List ℕ → List ℕ
at_port_80 rest = 58 ∷ 56 ∷ 48 ∷ 47 ∷ rest

-- a URI made of `http://`, a host without a slash, `:80/` and the rest
pub record NamesPort80 (uri host rest : List ℕ) : Type 0 where
  pub spelled : uri ≡ behind_scheme (host ++ at_port_80 rest)
  pub free : All (λ octet. octet ≢ 47) host

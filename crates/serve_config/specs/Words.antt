-- The words of a configuration, and what they choose.
use Rattle.std.specs.Prelude.{ℕ, List, codes, bytes_eq, if◌then◌else◌, Option, Some, None, option_and_then}
use Rattle.serde_json.specs.Data.{Data}
use Rattle.serde_json.specs.Find.{get, as_str}
use Rattle.serve_config.specs.declared.freshness.Freshness.{Freshness}
use Rattle.serve_config.specs.declared.freshness.Freshness.TheVariants.{Published, Rfc9111}
use Rattle.serve_config.specs.declared.settings.LogFormat.{LogFormat}
use Rattle.serve_config.specs.declared.settings.LogFormat.TheVariants.{Common, Json}
use Rattle.serve_config.specs.declared.settings.LogLevel.{LogLevel}
use Rattle.serve_config.specs.declared.settings.LogLevel.TheVariants.{Quiet, Info}

-- the text of a value, or the usual word where there is no value
abbrev pub word_or : List ℕ → Option Data → Option (List ℕ)
word_or usual None = Some usual
word_or usual (Some value) = as_str value

-- what a word names
abbrev pub freshness_named : List ℕ → Option Freshness
freshness_named word =
    if bytes_eq word (codes "published") then Some Published
    else (if bytes_eq word (codes "rfc9111") then Some Rfc9111 else None)

abbrev pub level_named : List ℕ → Option LogLevel
level_named word =
    if bytes_eq word (codes "quiet") then Some Quiet
    else (if bytes_eq word (codes "info") then Some Info else None)

abbrev pub form_named : List ℕ → Option LogFormat
form_named word =
    if bytes_eq word (codes "common") then Some Common
    else (if bytes_eq word (codes "json") then Some Json else None)

-- what a configuration says, if it says one of these words or none
abbrev pub freshness_said : Data → Option Freshness
freshness_said settings =
    option_and_then freshness_named (word_or (codes "published") (get (codes "freshness") settings))

abbrev pub level_said : Data → Option LogLevel
level_said settings = option_and_then level_named (word_or (codes "quiet") (get (codes "log_level") settings))

abbrev pub form_said : Data → Option LogFormat
form_said settings =
    option_and_then form_named (word_or (codes "common") (get (codes "access_log_format") settings))

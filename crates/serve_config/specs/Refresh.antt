-- The operator's rules about how long answers are fresh.
use Rattle.std.specs.Prelude.{◌≡◌, ℕ, ◌≤◌, List, [], length, codes, nat_le, ◌&&◌, Bool, true, false, is_some, Some}
use Rattle.std.specs.List.{list_all}
use Rattle.std.specs.String.{string_bytes}
use Rattle.serde_json.specs.Data.{Data}
use Rattle.serde_json.specs.Find.{get}
use Rattle.serve_config.specs.Said.{IsText, IsTruth, IsWhole, Lists, Says, SaysOr}
use Rattle.serve_config.specs.Words.{freshness_said}
use Rattle.serve_config.specs.declared.freshness.Freshness.{Freshness}
use Rattle.serve_config.specs.declared.freshness.Freshness.TheVariants.{Published}
use Rattle.serve_config.specs.declared.freshness.UrlPart.{UrlPart}
use Rattle.serve_config.specs.declared.freshness.UrlPart.TheVariants.{Suffix, Prefix}
use Rattle.serve_config.specs.declared.freshness.RefreshRule.{RefreshRule}

-- visible ASCII
abbrev pub is_visible : ℕ → Bool
is_visible octet = nat_le 33 octet && nat_le octet 126

-- one or more octets of visible ASCII
pub record IsVisible (text : List ℕ) : Type 0 where
  pub some : 1 ≤ length text
  pub each : list_all is_visible text ≡ true

-- what a URL is compared with
pub record IsUrlPart (value : Data) (text : List ℕ) : Type 0 where
  pub said : IsText value text
  pub visible : IsVisible text
  pub short : length text ≤ 8192

-- the part that a rule compares: one of the two, under its own key
abbrev pub ComparesPart : Data → UrlPart → Type 0
ComparesPart rule (Suffix text) =
    Says IsUrlPart (codes "suffix") rule (string_bytes text) × (is_some (get (codes "prefix") rule) ≡ false)
ComparesPart rule (Prefix text) =
    Says IsUrlPart (codes "prefix") rule (string_bytes text) × (is_some (get (codes "suffix") rule) ≡ false)

-- a rule of a configuration: at most 365 days
pub record IsRule (value : Data) (rule : RefreshRule) : Type 0 where
  pub place : ComparesPart value rule.place
  pub seconds : Says (IsWhole 0 31536000) (codes "seconds") value rule.seconds
  pub overrides : SaysOr false IsTruth (codes "override") value rule.overrides

-- its rules: at most 64, and none where freshness is judged as published
pub record AreRules (settings : Data) (freshness : Freshness) (rules : List RefreshRule) : Type 0 where
  pub said : Lists IsRule (codes "refresh") settings rules
  pub most : length rules ≤ 64
  pub judged : freshness ≡ Published → rules ≡ []

-- the seconds for which answers may be used once they are stale: at most 365 days, and none where freshness is judged as published
pub record AreStaleSeconds (settings : Data) (freshness : Freshness) (seconds : ℕ) : Type 0 where
  pub said : SaysOr 0 (IsWhole 0 31536000) (codes "serve_stale") settings seconds
  pub judged : freshness ≡ Published → seconds ≡ 0

-- by which rules answers are fresh, and for how long they may be used once they are stale
pub record AreFreshness (settings : Data) (freshness' : Freshness) (rules : List RefreshRule) (stale : ℕ) : Type 0 where
  pub freshness : freshness_said settings ≡ Some freshness'
  pub refresh : AreRules settings freshness' rules
  pub serve_stale : AreStaleSeconds settings freshness' stale

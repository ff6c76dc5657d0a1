-- Directives that forbid storing or reuse, as the profile rfc9111 reads them. Some servers write a semicolon where a comma belongs, as in
-- `no-store; max-age=0`: where a directive forbids, the one before a semicolon counts as if its name ended there. Directives that
-- allow something count only as the standard has them. 59 is a semicolon.
use Rattle.std.specs.Prelude.{ℕ, List, take, codes, bytes_eq, ◌==◌, Bool}
use Rattle.std.specs.List.{list_any, position_or_len}
use Rattle.http_rules.specs.declared.directives.Place.TheVariants.{Plain}
use Rattle.http_rules.specs.Directives.{directive_of, elements_from}
use Rattle.http_rules.specs.Fields.{Field, values_of}

-- a directive's name up to its first semicolon
abbrev pub before_semicolon : List ℕ → List ℕ
before_semicolon name = take (position_or_len (λ c. c == 59) name) name

-- whether a list element is this directive, or one whose name begins with it and a semicolon
abbrev pub is_forbidding : List ℕ → List ℕ → Bool
is_forbidding name element = bytes_eq (before_semicolon (directive_of element).0) name

-- whether one field value has it so
abbrev pub forbids_in : List ℕ → List ℕ → Bool
forbids_in name value = list_any (is_forbidding name) (elements_from Plain value)

-- whether a head has it so
abbrev pub forbids : List ℕ → List Field → Bool
forbids name fields = list_any (forbids_in name) (values_of (codes "cache-control") fields)

use Rattle.std.proofs.Common.{◌≡◌, ◌++◌, ◌∙◌, ℕ, List, length, drop, true, refl, sym, ap}
use Rattle.std.specs.String.{string_bytes}
use Rattle.std.proofs.lemmas.Slice.Eq.{starts_is}
use Rattle.std.proofs.lemmas.Bool.Decides.{Decides-eqb}
use Rattle.http_rules.proofs.mirrors.url_at.Goals as goal

-- a target that begins with the path has it as its prefix
pub unreachable-requires : goal.unreachable-requires
unreachable-requires c =
    let path = string_bytes c.args.mirror.now.path in
    let rest = drop (length path) c.args.target.now in
    let whole : c.args.target.now ≡ path ++ rest = (starts_is Decides-eqb c.args.target.now path true (sym c.requires)).0 refl in
    c.in-None.ensures.cases rest (whole ∙ ap (λ (p : List ℕ). p ++ rest) (sym c.as_str.ensures.value))

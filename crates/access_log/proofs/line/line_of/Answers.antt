use Rattle.std.proofs.Common.{◌++◌, List, [], ◌∷◌, ℕ, ap, sym, ◌∙◌}
use Rattle.access_log.specs.Pieces.{pieces_of}
use Rattle.access_log.proofs.CleanLine.{clean_pieces}
use Rattle.access_log.proofs.Shape.{line_in_pieces}
use Rattle.access_log.proofs.line.line_of.Goals as goal

pub returns-clause-exact : goal.returns-clause-exact
returns-clause-exact c = record {
  date = c.date_of-date.result;
  stamp = c.stamp_of-stamp.result;
  second = c.date_of-date.ensures;
  shown = c.stamp_of-stamp.ensures;
  text = c.in_ok-extend_from_slice.ensures.items
      ∙ ap (λ (xs : List ℕ). xs ++ 10 ∷ []) c.in_ok-push_line_text.ensures
      ∙ ap (λ (xs : List ℕ). xs ++ pieces_of c.args.form c.stamp_of-stamp.result c.args.entry.now ++ 10 ∷ []) c.new-line.ensures.items
      ∙ ap (λ (xs : List ℕ). xs ++ 10 ∷ []) (sym (line_in_pieces c.args.form c.stamp_of-stamp.result c.args.entry.now));
}

pub returns-clause-safe : goal.returns-clause-safe
returns-clause-safe c = (
  pieces_of c.args.form c.stamp_of-stamp.result c.args.entry.now,
  c.in_ok-extend_from_slice.ensures.items
      ∙ ap (λ (xs : List ℕ). xs ++ 10 ∷ []) c.in_ok-push_line_text.ensures
      ∙ ap (λ (xs : List ℕ). xs ++ pieces_of c.args.form c.stamp_of-stamp.result c.args.entry.now ++ 10 ∷ []) c.new-line.ensures.items,
  clean_pieces c.args.form c.date_of-date.result c.stamp_of-stamp.result c.args.entry.now c.stamp_of-stamp.ensures c.address_is_printable.ensures,
)

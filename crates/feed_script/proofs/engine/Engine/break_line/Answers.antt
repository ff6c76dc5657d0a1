use Rattle.std.proofs.Common.{List, ℕ, ◌+◌, ◌∷◌, [], ap, sym, ◌∙◌, refl, subst, Err}
use Rattle.std.specs.Str.Lines.{strip_carriage_return}
use Rattle.script_lines.specs.ScriptLine.{script_line}
use Rattle.feed_script.specs.Script.{is_misplaced}
use Rattle.feed_script.specs.Ahead.{stage_of, script_phase_of, Obeys, StopsBy}
use Rattle.feed_script.specs.declared.engine.Stop.TheVariants.{Line, NoMemory}
use Rattle.feed_script.proofs.EngineLemmas.{takes-break, stops-break, stops-memory}
use Rattle.feed_script.proofs.engine.Engine.break_line.Goals as goal

pub returns-in-Ok-clause-ok : goal.returns-in-Ok-clause-ok
returns-in-Ok-clause-ok c =
    let text = c.without_return-text.ensures ∙ ap strip_carriage_return c.as_slice.ensures.value in
    let P : List ℕ → Type 0 = λ t. Obeys c.args.self.now.phase (script_line t) c.args.out.now.items c.obey_line.new.phase c.obey_line.new.out.items in
    takes-break _ _ _ _ c.requires.partial (subst P text c.in-Ok.ensures.ok) c.clear.ensures.items refl

pub returns-in-Err-Wrong-clause-stop : goal.returns-in-Err-Wrong-clause-stop
returns-in-Err-Wrong-clause-stop c =
    let text = c.without_return-text.ensures ∙ ap strip_carriage_return c.as_slice.ensures.value in
    let wrong = c.in-Err-Wrong.ensures.wrong (ap Err c.in-Err-Wrong.field-0-is) in
    let P : List ℕ → Type 0 = λ out. StopsBy c.args.self.now (10 ∷ []) c.args.out.now.items out (Line (c.args.self.now.number + 1)) in
    subst P (sym c.in-Err-Wrong.ensures.err) (stops-break c.args.self.now c.args.out.now.items c.requires.partial (ap (λ t. is_misplaced (stage_of (script_phase_of c.args.self.now.phase)) (script_line t)) (sym text) ∙ wrong))

pub returns-in-Err-Memory-clause-stop : goal.returns-in-Err-Memory-clause-stop
returns-in-Err-Memory-clause-stop c =
    let P : List ℕ → Type 0 = λ out. StopsBy c.args.self.now (10 ∷ []) c.args.out.now.items out NoMemory in
    subst P (sym c.in-Err-Memory.ensures.err) (stops-memory c.args.self.now (10 ∷ []) c.args.out.now.items)

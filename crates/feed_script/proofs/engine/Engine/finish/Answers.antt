use Rattle.std.proofs.Common.{ℕ, ◌+◌, List, [], ap, sym, ◌∙◌, subst, Err, arith}
use Rattle.script_lines.specs.ScriptLine.{script_line}
use Rattle.feed_script.specs.Script.{is_misplaced}
use Rattle.feed_script.specs.Ahead.{stage_of, script_phase_of, Obeys, EndsBy, PrintsFront}
use Rattle.feed_script.specs.declared.engine.Stop.TheVariants.{Line, NoMemory}
use Rattle.feed_script.proofs.EngineLemmas.{ends-line, ends-wrong, ends-memory, front-ends, front-unchanged}
use Rattle.feed_script.proofs.engine.Engine.finish.Goals as goal

pub returns-in-Ok-clause-ok : goal.returns-in-Ok-clause-ok
returns-in-Ok-clause-ok c =
    let P : List ℕ → Type 0 = λ t. Obeys c.args.self.now.phase (script_line t) c.args.out.now.items c.obey_line.new.phase c.obey_line.new.out.items in
    ends-line c.args.self.now c.obey_line.new.phase _ _ c.requires.partial (grind arith) (subst P c.as_slice.ensures.value c.in-Ok.ensures.ok)

pub returns-in-Err-Wrong-clause-stop : goal.returns-in-Err-Wrong-clause-stop
returns-in-Err-Wrong-clause-stop c =
    let wrong = c.in-Err-Wrong.ensures.wrong (ap Err c.in-Err-Wrong.field-0-is) in
    let P : List ℕ → Type 0 = λ out. EndsBy c.args.self.now c.args.out.now.items out (Line (c.args.self.now.number + 1)) in
    subst P (sym c.in-Err-Wrong.ensures.err) (ends-wrong c.args.self.now c.args.out.now.items c.requires.partial (grind arith)
    (ap (λ t. is_misplaced (stage_of (script_phase_of c.args.self.now.phase)) (script_line t)) (sym c.as_slice.ensures.value) ∙ wrong))

pub returns-in-Err-Memory-clause-stop : goal.returns-in-Err-Memory-clause-stop
returns-in-Err-Memory-clause-stop c =
    let P : List ℕ → Type 0 = λ out. EndsBy c.args.self.now c.args.out.now.items out NoMemory in
    subst P (sym c.in-Err-Memory.ensures.err) (ends-memory c.args.self.now c.args.out.now.items)

pub returns-in-Ok-clause-front : goal.returns-in-Ok-clause-front
returns-in-Ok-clause-front c =
    let P : List ℕ → Type 0 = λ t. Obeys c.args.self.now.phase (script_line t) c.args.out.now.items c.obey_line.new.phase c.obey_line.new.out.items in
    front-ends c.args.self.now c.args.out.now.items c.obey_line.new.out.items
    (ends-line c.args.self.now c.obey_line.new.phase _ _ c.requires.partial (grind arith) (subst P c.as_slice.ensures.value c.in-Ok.ensures.ok))

pub returns-in-Err-Wrong-clause-front : goal.returns-in-Err-Wrong-clause-front
returns-in-Err-Wrong-clause-front c =
    let P : List ℕ → Type 0 = λ out. PrintsFront c.args.self.now [] c.args.out.now.items out in
    subst P (sym c.in-Err-Wrong.ensures.err) (front-unchanged c.args.self.now [] c.args.out.now.items)

pub returns-in-Err-Memory-clause-front : goal.returns-in-Err-Memory-clause-front
returns-in-Err-Memory-clause-front c =
    let P : List ℕ → Type 0 = λ out. PrintsFront c.args.self.now [] c.args.out.now.items out in
    subst P (sym c.in-Err-Memory.ensures.err) (front-unchanged c.args.self.now [] c.args.out.now.items)

use Rattle.std.proofs.Common.{◌≡◌, ℕ, ◌+◌, [], ◌++◌, take, drop, Err, refl, subst, arith}
use Rattle.std.proofs.lemmas.Result.{err_from_is_err_and, on_err_weaker, on_ok_weaker}
use Rattle.std.specs.Io.KnownBytes.{Consumes}
use Rattle.feed_script.specs.declared.fault.FeedFault.TheVariants.{Line, Read}
use Rattle.feed_script.proofs.ToldLemmas.{told-start, told-kept, told-empty, told-takes, prefix-told, prefix-shown, line-stops, ends-right, ends-at-line, read-piece, length-piece, room-some, length-chunk, total-fits, whole-told}
use Rattle.feed_script.proofs.stream.feed.Goals as goal
use Rattle.feed_script.proofs.stream.feed.Goals.{in-Ok+in_ok-take_out-in-Ok+else-total-gt-SCRIPT_LIMIT, in-Err+else-ne}

pub turns-init : goal.turns-init
turns-init g c = record {
  size = refl;
  most = omega arith;
  few = omega (arith, c.new-engine.ensures.number);
  told = told-start c.text_law.ensures _ _ c.new-engine.result c.new-engine.ensures.phase c.new-engine.ensures.line c.new-engine.ensures.number;
}

pub turns-preserved : goal.turns-preserved
turns-preserved g c =
    let before = c.turns.invariant in
    let i = g.R.Read.remaining c.args.input.now in
    let j = g.R.Read.remaining c.turns.input in
    let k = g.R.Read.remaining c.read.new.self in
    let o = g.W.Write.contents c.args.output.now in
    let p = g.W.Write.contents c.turns.output in
    let buf = c.read.new.buf in
    let rest = drop c.min-room.result c.turns.chunk in
    let size = length-chunk c.min-room.result c.turns.total c.turns.chunk buf before.size c.min-room.ensures c.read.auto.buf in
    elim c.match-read.branch [
      | in-Ok+in_ok-take_out-in-Ok+else-total-gt-SCRIPT_LIMIT w ↦
          (let n = w.in-Ok.n in
          let q = g.W.Write.contents w.take_out.new.output in
          let took = w.in_ok-take_out-in-Ok.ensures.ok in
          let long = length-piece n buf rest w.in-Ok.ensures.bound.0 in
          rw (w.output-is, w.engine-is, w.total-is)
          (record {
            size = size;
            most = omega (arith, w.if-total-gt-SCRIPT_LIMIT.false);
            few = omega (arith, long, w.in_ok-take_out-in-Ok.ensures.number, before.few);
            told = told-takes i j k o p q c.turns.engine w.take_out.new.engine (take n (buf ++ rest)) took.printed c.turns.total (c.turns.total + n)
                before.told (read-piece j k n buf rest w.in-Ok.ensures.bound.0 w.in-Ok.ensures.bytes.0) took.takes took.appended (omega (arith, long));
          }))
      | in-Err+else-ne w ↦
          (rw (w.output-is, w.engine-is, w.total-is)
          (record {
            size = size;
            most = before.most;
            few = before.few;
            told = told-kept i j k o p c.turns.engine c.turns.total before.told w.in-Err.ensures.bytes;
          }))
    ]

pub returns-then-total-gt-SCRIPT_LIMIT-clause-prefix : goal.returns-then-total-gt-SCRIPT_LIMIT-clause-prefix
returns-then-total-gt-SCRIPT_LIMIT-clause-prefix g c =
    let before = c.turns.invariant in
    let buf = c.read.new.buf in
    let rest = drop c.min-room.result c.turns.chunk in
    let n = c.in-Ok.n in
    let took = c.in_ok-take_out-in-Ok.ensures.ok in
    let long = length-piece n buf rest c.in-Ok.ensures.bound.0 in
    let few = total-fits c.min-room.result c.turns.total n c.turns.chunk buf before.size before.most c.min-room.ensures c.read.auto.buf c.in-Ok.ensures.bound.0 in
    prefix-told _ _ _ _ c.take_out.new.engine (c.turns.total + n)
    (told-takes (g.R.Read.remaining c.args.input.now) (g.R.Read.remaining c.turns.input) (g.R.Read.remaining c.read.new.self) (g.W.Write.contents c.args.output.now) (g.W.Write.contents c.turns.output)
    (g.W.Write.contents c.take_out.new.output) c.turns.engine c.take_out.new.engine (take n (buf ++ rest)) took.printed c.turns.total (c.turns.total + n)
    before.told (read-piece _ _ n buf rest c.in-Ok.ensures.bound.0 c.in-Ok.ensures.bytes.0) took.takes took.appended (omega (arith, long)))
    (omega (arith, few))

pub returns-then-total-gt-SCRIPT_LIMIT-clause-whole : goal.returns-then-total-gt-SCRIPT_LIMIT-clause-whole
returns-then-total-gt-SCRIPT_LIMIT-clause-whole g c = λ read.
    let before = c.turns.invariant in
    let buf = c.read.new.buf in
    let rest = drop c.min-room.result c.turns.chunk in
    let n = c.in-Ok.n in
    let took = c.in_ok-take_out-in-Ok.ensures.ok in
    let long = length-piece n buf rest c.in-Ok.ensures.bound.0 in
    whole-told _ _ _ _ c.take_out.new.engine (c.turns.total + n)
    (told-takes (g.R.Read.remaining c.args.input.now) (g.R.Read.remaining c.turns.input) (g.R.Read.remaining c.read.new.self) (g.W.Write.contents c.args.output.now) (g.W.Write.contents c.turns.output)
    (g.W.Write.contents c.take_out.new.output) c.turns.engine c.take_out.new.engine (take n (buf ++ rest)) took.printed c.turns.total (c.turns.total + n)
    before.told (read-piece _ _ n buf rest c.in-Ok.ensures.bound.0 c.in-Ok.ensures.bytes.0) took.takes took.appended (omega (arith, long)))

pub returns-in-Ok-eq0-clause-whole : goal.returns-in-Ok-eq0-clause-whole
returns-in-Ok-eq0-clause-whole g c = λ read. absurd (c.end_out.ensures.reads_nothing read)

pub returns-in_err-take_out-in-Ok-clause-whole : goal.returns-in_err-take_out-in-Ok-clause-whole
returns-in_err-take_out-in-Ok-clause-whole g c = λ read.
    let p = err_from_is_err_and c.from_residual.result c.from_residual.ensures.1 in
    let same : c.take_out.result ≡ Err Read = cc (p.1, p.2, read, c.in_err-take_out-in-Ok.was) in
    absurd (c.take_out.ensures.reads_nothing same)

pub returns-then-ne-clause-whole : goal.returns-then-ne-clause-whole
returns-then-ne-clause-whole g c = λ read.
    whole-told _ _ _ _ c.turns.engine c.turns.total
    (told-kept (g.R.Read.remaining c.args.input.now) (g.R.Read.remaining c.turns.input) (g.R.Read.remaining c.read.new.self) (g.W.Write.contents c.args.output.now) (g.W.Write.contents c.turns.output)
    c.turns.engine c.turns.total c.turns.invariant.told c.in-Err.ensures.bytes)

pub returns-clause-whole : goal.returns-clause-whole
returns-clause-whole g c = λ read. whole-told _ _ _ _ c.turns.engine c.turns.total c.turns.invariant.told

pub returns-then-ne-clause-prefix : goal.returns-then-ne-clause-prefix
returns-then-ne-clause-prefix g c =
    let before = c.turns.invariant in
    prefix-told _ _ _ _ c.turns.engine c.turns.total
    (told-kept (g.R.Read.remaining c.args.input.now) (g.R.Read.remaining c.turns.input) (g.R.Read.remaining c.read.new.self) (g.W.Write.contents c.args.output.now) (g.W.Write.contents c.turns.output)
    c.turns.engine c.turns.total before.told c.in-Err.ensures.bytes)
    (omega (arith, before.most))

pub returns-clause-prefix : goal.returns-clause-prefix
returns-clause-prefix g c =
    prefix-told _ _ _ _ c.turns.engine c.turns.total c.turns.invariant.told (omega (arith, c.turns.invariant.most))

pub returns-in_err-take_out-in-Ok-clause-line : goal.returns-in_err-take_out-in-Ok-clause-line
returns-in_err-take_out-in-Ok-clause-line g c = λ line e.
    let before = c.turns.invariant in
    let p = err_from_is_err_and c.from_residual.result c.from_residual.ensures.1 in
    let same : c.take_out.result ≡ Err (Line line) = cc (p.1, p.2, e, c.in_err-take_out-in-Ok.was) in
    let out = c.take_out.ensures.line line same in
    let n = c.in-Ok.n in
    let buf = c.read.new.buf in
    let rest = drop c.min-room.result c.turns.chunk in
    (line-stops (g.R.Read.remaining c.args.input.now) (g.R.Read.remaining c.turns.input) (g.R.Read.remaining c.read.new.self) (g.W.Write.contents c.args.output.now) (g.W.Write.contents c.turns.output)
    (g.W.Write.contents c.take_out.new.output) c.turns.engine c.turns.total (take n (buf ++ rest)) out.printed line before.told
    (read-piece _ _ n buf rest c.in-Ok.ensures.bound.0 c.in-Ok.ensures.bytes.0) out.stops out.appended).0

pub returns-in_err-take_out-in-Ok-clause-before : goal.returns-in_err-take_out-in-Ok-clause-before
returns-in_err-take_out-in-Ok-clause-before g c = λ line e.
    let before = c.turns.invariant in
    let p = err_from_is_err_and c.from_residual.result c.from_residual.ensures.1 in
    let same : c.take_out.result ≡ Err (Line line) = cc (p.1, p.2, e, c.in_err-take_out-in-Ok.was) in
    let out = c.take_out.ensures.line line same in
    let n = c.in-Ok.n in
    let buf = c.read.new.buf in
    let rest = drop c.min-room.result c.turns.chunk in
    (line-stops (g.R.Read.remaining c.args.input.now) (g.R.Read.remaining c.turns.input) (g.R.Read.remaining c.read.new.self) (g.W.Write.contents c.args.output.now) (g.W.Write.contents c.turns.output)
    (g.W.Write.contents c.take_out.new.output) c.turns.engine c.turns.total (take n (buf ++ rest)) out.printed line before.told
    (read-piece _ _ n buf rest c.in-Ok.ensures.bound.0 c.in-Ok.ensures.bytes.0) out.stops out.appended).1

pub returns-in_err-take_out-in-Ok-clause-prefix : goal.returns-in_err-take_out-in-Ok-clause-prefix
returns-in_err-take_out-in-Ok-clause-prefix g c =
    let before = c.turns.invariant in
    let q = err_from_is_err_and c.from_residual.result c.from_residual.ensures.1 in
    let n = c.in-Ok.n in
    let buf = c.read.new.buf in
    let rest = drop c.min-room.result c.turns.chunk in
    let f = c.in_err-take_out-in-Ok.ensures.front in
    let long = length-piece n buf rest c.in-Ok.ensures.bound.0 in
    let few = total-fits c.min-room.result c.turns.total n c.turns.chunk buf before.size before.most c.min-room.ensures c.read.auto.buf c.in-Ok.ensures.bound.0 in
    rw q.1
    (prefix-shown (g.R.Read.remaining c.args.input.now) (g.R.Read.remaining c.turns.input) (g.R.Read.remaining c.read.new.self) (g.W.Write.contents c.args.output.now) (g.W.Write.contents c.turns.output)
    (g.W.Write.contents c.take_out.new.output) c.turns.engine c.turns.total (take n (buf ++ rest)) f.shown f.more before.told
    (read-piece _ _ n buf rest c.in-Ok.ensures.bound.0 c.in-Ok.ensures.bytes.0) f.parts f.appended (omega (arith, few, long)))

pub returns-in-Ok-eq0-clause-line : goal.returns-in-Ok-eq0-clause-line
returns-in-Ok-eq0-clause-line g c = λ line e.
    let before = c.turns.invariant in
    let zero : c.in-Ok-eq0.field-0 ≡ 0 = omega arith in
    let out = c.end_out.ensures.line line e in
    let i = g.R.Read.remaining c.args.input.now in
    let j = g.R.Read.remaining c.turns.input in
    let k = g.R.Read.remaining c.read.new.self in
    let o = g.W.Write.contents c.args.output.now in
    let p = g.W.Write.contents c.turns.output in
    let P : ℕ → Type 0 = λ n. Consumes j k (take n c.read.new.buf) in
    let some = room-some c.min-room.result c.turns.total c.turns.chunk c.read.new.buf before.size before.most c.min-room.ensures c.read.auto.buf in
    (ends-at-line i k o p (g.W.Write.contents c.end_out.new.output) c.turns.engine c.turns.total out.printed line
    (told-empty i j k o p c.turns.engine c.turns.total before.told (subst P zero c.in-Ok-eq0.ensures.bytes.0))
    (c.in-Ok-eq0.ensures.bytes.1 zero some) out.ends out.appended).0

pub returns-in-Ok-eq0-clause-before : goal.returns-in-Ok-eq0-clause-before
returns-in-Ok-eq0-clause-before g c = λ line e.
    let before = c.turns.invariant in
    let zero : c.in-Ok-eq0.field-0 ≡ 0 = omega arith in
    let out = c.end_out.ensures.line line e in
    let i = g.R.Read.remaining c.args.input.now in
    let j = g.R.Read.remaining c.turns.input in
    let k = g.R.Read.remaining c.read.new.self in
    let o = g.W.Write.contents c.args.output.now in
    let p = g.W.Write.contents c.turns.output in
    let P : ℕ → Type 0 = λ n. Consumes j k (take n c.read.new.buf) in
    let some = room-some c.min-room.result c.turns.total c.turns.chunk c.read.new.buf before.size before.most c.min-room.ensures c.read.auto.buf in
    (ends-at-line i k o p (g.W.Write.contents c.end_out.new.output) c.turns.engine c.turns.total out.printed line
    (told-empty i j k o p c.turns.engine c.turns.total before.told (subst P zero c.in-Ok-eq0.ensures.bytes.0))
    (c.in-Ok-eq0.ensures.bytes.1 zero some) out.ends out.appended).1

pub returns-in-Ok-eq0-clause-prefix : goal.returns-in-Ok-eq0-clause-prefix
returns-in-Ok-eq0-clause-prefix g c =
    let before = c.turns.invariant in
    let zero : c.in-Ok-eq0.field-0 ≡ 0 = omega arith in
    let i = g.R.Read.remaining c.args.input.now in
    let j = g.R.Read.remaining c.turns.input in
    let k = g.R.Read.remaining c.read.new.self in
    let o = g.W.Write.contents c.args.output.now in
    let p = g.W.Write.contents c.turns.output in
    let P : ℕ → Type 0 = λ n. Consumes j k (take n c.read.new.buf) in
    let consumed : Consumes j k [] = subst P zero c.in-Ok-eq0.ensures.bytes.0 in
    on_err_weaker c.end_out.result (λ f. prefix-shown i j k o p (g.W.Write.contents c.end_out.new.output) c.turns.engine c.turns.total [] f.shown f.more before.told consumed f.parts f.appended (omega (arith, before.most)))
    c.end_out.ensures.front

pub returns-in-Ok-eq0-clause-right : goal.returns-in-Ok-eq0-clause-right
returns-in-Ok-eq0-clause-right g c =
    let before = c.turns.invariant in
    let zero : c.in-Ok-eq0.field-0 ≡ 0 = omega arith in
    let i = g.R.Read.remaining c.args.input.now in
    let j = g.R.Read.remaining c.turns.input in
    let k = g.R.Read.remaining c.read.new.self in
    let o = g.W.Write.contents c.args.output.now in
    let p = g.W.Write.contents c.turns.output in
    let P : ℕ → Type 0 = λ n. Consumes j k (take n c.read.new.buf) in
    let some = room-some c.min-room.result c.turns.total c.turns.chunk c.read.new.buf before.size before.most c.min-room.ensures c.read.auto.buf in
    let told = told-empty i j k o p c.turns.engine c.turns.total before.told (subst P zero c.in-Ok-eq0.ensures.bytes.0) in
    let end = c.in-Ok-eq0.ensures.bytes.1 zero some in
    on_ok_weaker c.end_out.result (λ out. (ends-right i k o p (g.W.Write.contents c.end_out.new.output) c.turns.engine c.turns.total out.printed told end out.ends out.appended).0)
    c.end_out.ensures.ok

pub returns-in-Ok-eq0-clause-written : goal.returns-in-Ok-eq0-clause-written
returns-in-Ok-eq0-clause-written g c =
    let before = c.turns.invariant in
    let zero : c.in-Ok-eq0.field-0 ≡ 0 = omega arith in
    let i = g.R.Read.remaining c.args.input.now in
    let j = g.R.Read.remaining c.turns.input in
    let k = g.R.Read.remaining c.read.new.self in
    let o = g.W.Write.contents c.args.output.now in
    let p = g.W.Write.contents c.turns.output in
    let P : ℕ → Type 0 = λ n. Consumes j k (take n c.read.new.buf) in
    let some = room-some c.min-room.result c.turns.total c.turns.chunk c.read.new.buf before.size before.most c.min-room.ensures c.read.auto.buf in
    let told = told-empty i j k o p c.turns.engine c.turns.total before.told (subst P zero c.in-Ok-eq0.ensures.bytes.0) in
    let end = c.in-Ok-eq0.ensures.bytes.1 zero some in
    on_ok_weaker c.end_out.result (λ out. (ends-right i k o p (g.W.Write.contents c.end_out.new.output) c.turns.engine c.turns.total out.printed told end out.ends out.appended).1)
    c.end_out.ensures.ok

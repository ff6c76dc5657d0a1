use Rattle.std.proofs.Common.{◌≡◌, ◌+◌, ◌<◌, length, ap, ◌∙◌, arith}
use Rattle.std.proofs.lemmas.Option.{slice_get-get_or}
use Rattle.bpf_check.specs.Accepted.{most_insns, IsAccepted}
use Rattle.bpf_run.specs.Chain.{effect_if, leads}
use Rattle.bpf_run.specs.declared.machine.Step.TheVariants.{End}
use Rattle.std.specs.Prelude.{Some}
use Rattle.bpf_run.proofs.Chains.{reaches_start, reaches_next, reaches_skip, gives_at_end}
use Rattle.bpf_run.proofs.Given.{same_verdict}
use Rattle.bpf_run.proofs.Accepts.{effect_some, next_inside, skip_inside}
use Rattle.bpf_run.proofs.WholeRun.{ends_here}
use Rattle.bpf_run.proofs.interpreter.judge_with_end.Goals as goal

pub run-init : goal.run-init
run-init c =
    let accepted : IsAccepted c.insns-insns.result.now = rw c.insns-insns.ensures.same c.insns-insns.ensures.accepted in
    rw c.new-machine.ensures (record {
      steps = 0;
      reaches = reaches_start c.insns-insns.result.now c.args.packet.now accepted.some;
      inside = accepted.some;
    })

pub execute-requires : goal.execute-requires
execute-requires c =
    let p = c.insns-insns.result.now in
    let accepted : IsAccepted p = rw c.insns-insns.ensures.same c.insns-insns.ensures.accepted in
    effect_some (length p) c.run.place _ c.args.packet.now c.run.machine (accepted.each c.run.place _ (slice_get-get_or p c.run.place _ c.run.invariant.inside))

-- the instruction here ends the run
ends : (c : goal.In-End) → leads c.insns-insns.result.now c.args.packet.now (record { place = c.run.place; machine = c.run.machine }) ≡ Some (End c.in-End.value)
ends c = ap (λ o. effect_if o c.args.packet.now c.run.machine) (slice_get-get_or c.insns-insns.result.now c.run.place _ c.run.invariant.inside) ∙ c.in-End.ensures

pub returns-in-End-clause-value : goal.returns-in-End-clause-value
returns-in-End-clause-value c =
    let p = c.insns-insns.result.now in
    let packet = c.args.packet.now in
    let accepted : IsAccepted p = rw c.insns-insns.ensures.same c.insns-insns.ensures.accepted in
    let gives = gives_at_end p packet c.run.invariant.steps (record { place = c.run.place; machine = c.run.machine }) c.in-End.value c.run.invariant.reaches (ends c) in
    rw (← c.insns-insns.ensures.same) (same_verdict p packet c.in-End.value (c.run.invariant.steps + 1) accepted gives).0

pub returns-in-End-clause-place : goal.returns-in-End-clause-place
returns-in-End-clause-place c =
    rw (← c.insns-insns.ensures.same)
    (ends_here c.insns-insns.result.now c.args.packet.now c.run.invariant.steps (record { place = c.run.place; machine = c.run.machine }) c.in-End.value c.run.invariant.reaches (ends c))

pub run-preserved-in-Next : goal.run-preserved-in-Next
run-preserved-in-Next c =
    let p = c.insns-insns.result.now in
    let packet = c.args.packet.now in
    let accepted : IsAccepted p = rw c.insns-insns.ensures.same c.insns-insns.ensures.accepted in
    let here = slice_get-get_or p c.run.place (record { code = 0; jt = 0; jf = 0; k = 0 }) c.run.invariant.inside in
    let inside = next_inside p c.run.place _ packet c.run.machine _ accepted c.run.invariant.inside here c.in-Next.ensures in
    record {
      steps = c.run.invariant.steps + 1;
      reaches = reaches_next p packet c.run.invariant.steps (record { place = c.run.place; machine = c.run.machine }) _ c.run.invariant.reaches (ap (λ o. effect_if o packet c.run.machine) here ∙ c.in-Next.ensures) inside;
      inside = inside;
    }

pub run-preserved : goal.run-preserved
run-preserved c =
    let p = c.insns-insns.result.now in
    let packet = c.args.packet.now in
    let accepted : IsAccepted p = rw c.insns-insns.ensures.same c.insns-insns.ensures.accepted in
    let here = slice_get-get_or p c.run.place (record { code = 0; jt = 0; jf = 0; k = 0 }) c.run.invariant.inside in
    let ahead = skip_inside (length p) c.run.place _ packet c.run.machine c.in-Skip.distance (accepted.each c.run.place _ here) c.in-Skip.ensures.0 in
    let inside : c.run.place + (1 + c.in-Skip.distance) < length p = omega (arith, ahead) in
    rw c.in-Skip.ensures.1 (record {
      steps = c.run.invariant.steps + 1;
      reaches = reaches_skip p packet c.run.invariant.steps (record { place = c.run.place; machine = c.run.machine }) c.in-Skip.distance _ c.run.invariant.reaches (ap (λ o. effect_if o packet c.run.machine) here ∙ c.in-Skip.ensures.0) (omega arith) inside;
      inside = inside;
    })

-- a jump's target is inside the program, so its index is small
target : (c : goal.In-Skip) → c.run.place + 1 + c.in-Skip.distance < most_insns
target c =
    let p = c.insns-insns.result.now in
    let accepted : IsAccepted p = rw c.insns-insns.ensures.same c.insns-insns.ensures.accepted in
    let here = slice_get-get_or p c.run.place (record { code = 0; jt = 0; jf = 0; k = 0 }) c.run.invariant.inside in
    omega (arith, skip_inside (length p) c.run.place _ c.args.packet.now c.run.machine c.in-Skip.distance (accepted.each c.run.place _ here) c.in-Skip.ensures.0, accepted.short)

pub overflow_add-place-in-Skip : goal.overflow_add-place-in-Skip
overflow_add-place-in-Skip c = omega (arith, target c)

pub overflow_add-place-in-Skip-2 : goal.overflow_add-place-in-Skip-2
overflow_add-place-in-Skip-2 c = omega (arith, target c)

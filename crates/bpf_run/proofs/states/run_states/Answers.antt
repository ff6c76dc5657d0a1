use Rattle.std.proofs.Common.{◌≡◌, ◌+◌, ◌<◌, length, ap, ◌∙◌, arith}
use Rattle.std.proofs.lemmas.Option.{slice_get-get_or}
use Rattle.bpf_check.specs.Accepted.{most_insns, IsAccepted}
use Rattle.bpf_run.specs.Chain.{effect_if}
use Rattle.bpf_run.specs.Run.{IsRun}
use Rattle.bpf_run.specs.Verdict.{verdict_of, steps_of}
use Rattle.bpf_run.proofs.Chains.{chain_start}
use Rattle.bpf_run.proofs.Given.{same_verdict}
use Rattle.bpf_run.proofs.Accepts.{effect_some, next_inside, skip_inside}
use Rattle.bpf_run.proofs.WholeRun.{longer_next, longer_skip, whole, run_gives}
use Rattle.bpf_run.proofs.states.run_states.Goals as goal

pub run-init : goal.run-init
run-init c =
    let accepted : IsAccepted c.insns-insns.result.now = rw c.insns-insns.ensures.same c.insns-insns.ensures.accepted in
    rw c.new-machine.ensures (rw c.new-states.ensures.items (record {
      is_chain = chain_start c.insns-insns.result.now c.args.packet.now accepted.some;
      inside = accepted.some;
    }))

pub execute-requires : goal.execute-requires
execute-requires c =
    let p = c.insns-insns.result.now in
    let accepted : IsAccepted p = rw c.insns-insns.ensures.same c.insns-insns.ensures.accepted in
    effect_some (length p) c.run.place _ c.args.packet.now c.run.machine (accepted.each c.run.place _ (slice_get-get_or p c.run.place _ c.run.invariant.inside))

pub run-preserved-in-Next : goal.run-preserved-in-Next
run-preserved-in-Next c =
    let p = c.insns-insns.result.now in
    let packet = c.args.packet.now in
    let accepted : IsAccepted p = rw c.insns-insns.ensures.same c.insns-insns.ensures.accepted in
    let here = slice_get-get_or p c.run.place (record { code = 0; jt = 0; jf = 0; k = 0 }) c.run.invariant.inside in
    let inside = next_inside p c.run.place _ packet c.run.machine _ accepted c.run.invariant.inside here c.in-Next.ensures in
    record {
      is_chain = longer_next p packet c.run.states.items c.push.new.self.items (record { place = c.run.place; machine = c.run.machine }) _ c.run.invariant.is_chain c.in_ok-push.ensures.items (ap (λ o. effect_if o packet c.run.machine) here ∙ c.in-Next.ensures) inside;
      inside = inside;
    }

pub run-preserved : goal.run-preserved
run-preserved c =
    let p = c.insns-insns.result.now in
    let packet = c.args.packet.now in
    let accepted : IsAccepted p = rw c.insns-insns.ensures.same c.insns-insns.ensures.accepted in
    let here = slice_get-get_or p c.run.place (record { code = 0; jt = 0; jf = 0; k = 0 }) c.run.invariant.inside in
    let ahead = skip_inside (length p) c.run.place _ packet c.run.machine c.in-Skip.distance (accepted.each c.run.place _ here) c.in-Skip.ensures.0 in
    let inside : c.run.place + (1 + c.in-Skip.distance) < length p = omega (arith, ahead) in
    rw c.in-Skip.ensures.1 (record {
      is_chain = longer_skip p packet c.run.states.items c.push.new.self.items (record { place = c.run.place; machine = c.run.machine }) c.in-Skip.distance _ c.run.invariant.is_chain c.in_ok-push.ensures.items (ap (λ o. effect_if o packet c.run.machine) here ∙ c.in-Skip.ensures.0) (omega arith) inside;
      inside = inside;
    })

-- a jump's target is inside the program, so its index is small
target : (c : goal.In-Skip) → c.run.place + 1 + c.in-Skip.distance < most_insns
target c =
    let p = c.insns-insns.result.now in
    let accepted : IsAccepted p = rw c.insns-insns.ensures.same c.insns-insns.ensures.accepted in
    let here = slice_get-get_or p c.run.place (record { code = 0; jt = 0; jf = 0; k = 0 }) c.run.invariant.inside in
    omega (arith, skip_inside (length p) c.run.place _ c.args.packet.now c.run.machine c.in-Skip.distance (accepted.each c.run.place _ here) c.in-Skip.ensures.0, accepted.short)

pub overflow_add-place-in-Skip : goal.overflow_add-place-in-Skip
overflow_add-place-in-Skip c = omega (arith, target c)

pub overflow_add-place-in-Skip-2 : goal.overflow_add-place-in-Skip-2
overflow_add-place-in-Skip-2 c = omega (arith, target c)

-- the states up to this one are the whole run
run_here : (c : goal.In-End) → IsRun c.insns-insns.result.now c.args.packet.now c.push.new.self.items c.in-End.value
run_here c =
    let p = c.insns-insns.result.now in
    let packet = c.args.packet.now in
    whole p packet c.run.states.items c.push.new.self.items (record { place = c.run.place; machine = c.run.machine }) c.in-End.value c.run.invariant.is_chain c.in_ok-push.ensures.items
    (ap (λ o. effect_if o packet c.run.machine) (slice_get-get_or p c.run.place _ c.run.invariant.inside) ∙ c.in-End.ensures)

pub returns-in-End-clause-run : goal.returns-in-End-clause-run
returns-in-End-clause-run c = rw (← c.insns-insns.ensures.same) (run_here c)

-- and so its value and its number of steps are those of the functions
the_verdict : (c : goal.In-End) → (c.in-End.value ≡ verdict_of c.insns-insns.result.now c.args.packet.now) × (length c.push.new.self.items ≡ steps_of c.insns-insns.result.now c.args.packet.now)
the_verdict c =
    let accepted : IsAccepted c.insns-insns.result.now = rw c.insns-insns.ensures.same c.insns-insns.ensures.accepted in
    same_verdict c.insns-insns.result.now c.args.packet.now c.in-End.value (length c.push.new.self.items) accepted (run_gives c.insns-insns.result.now c.args.packet.now c.push.new.self.items c.in-End.value (run_here c))

pub returns-in-End-clause-value : goal.returns-in-End-clause-value
returns-in-End-clause-value c = rw (← c.insns-insns.ensures.same) (the_verdict c).0

pub returns-in-End-clause-steps : goal.returns-in-End-clause-steps
returns-in-End-clause-steps c = rw (← c.insns-insns.ensures.same) (the_verdict c).1

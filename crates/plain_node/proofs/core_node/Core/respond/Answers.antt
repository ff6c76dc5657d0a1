use Rattle.std.proofs.Common.{◌∙◌, sym, subst, ap}
use Rattle.htcp_packet.specs.View.{shown_body}
use Rattle.plain_node.specs.Signed.{shown_standing, Suits}
use Rattle.plain_node.specs.HtcpRequests.{comes_to}
use Rattle.plain_node.proofs.Findings.{finding-suits}
use Rattle.plain_node.proofs.core_node.Core.respond.Goals as goal

pub answer_request-requires-clause-suits : goal.answer_request-requires-clause-suits
answer_request-requires-clause-suits c =
    let node = record c.args.self.now { clock = c.args.clock } in
    let view = c.args.view.now in
    let body = shown_body view.body in
    let found = c.finding-finding.ensures ∙ ap (comes_to node body) (c.refusal_code-refusal_code.ensures c.args.clock) in
    subst (λ finding. Suits view.opcode finding) (sym found)
    (finding-suits node c.args.from body view.opcode (shown_standing c.judgement-judgement.result) c.requires.fits)

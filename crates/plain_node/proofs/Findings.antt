-- The result of a request suits its operation, and its code fits four bits.
use Rattle.std.proofs.Common.{◌≡◌, ◌==◌, ◌<◌, ℕ, Bool, true, false, cond, Some, None, if◌then◌else◌, not, ◌&&◌, arith, refl}
use Rattle.std.proofs.lemmas.Bool.Decides.{nat_tests}
use Rattle.node_terms.specs.declared.ends.End.{End}
use Rattle.htcp_packet.specs.declared.message.Form.TheVariants as forms
use Rattle.htcp_packet.specs.Message.{Body, Spec, empty, specifier, clear, detail, cache_headers, opaque, request_form}
use Rattle.htcp_packet.specs.Writing.{FitsForm}
use Rattle.plain_node.specs.declared.finding.Finding.TheVariants.{Found, NotFound, Cleared, NotCleared}
use Rattle.plain_node.specs.Settings.{is_allowed}
use Rattle.plain_node.specs.PlainNode.{PlainNode}
use Rattle.plain_node.specs.Signatures.{SignatureStanding, is_absent, is_bad}
use Rattle.plain_node.specs.HtcpRequests.{is_served, refusal_code, served, comes_to, has_fresh, has_stored}
use Rattle.plain_node.specs.Signed.{Suits}

number_is : (a b : ℕ) → (a == b) ≡ true → a ≡ b
number_is a b h = grind (arith, nat_tests)

-- a request's form is that of its operation
fits-empty : (nop tst clr : Bool) → FitsForm (cond nop forms.Empty (cond tst forms.Specifier (cond clr forms.Clear forms.Opaque))) empty → nop ≡ true
fits-empty true tst clr fits = refl
fits-empty false true clr fits = absurd fits
fits-empty false false true fits = absurd fits
fits-empty false false false fits = absurd fits

fits-specifier : (nop tst clr : Bool) → (s : Spec) → FitsForm (cond nop forms.Empty (cond tst forms.Specifier (cond clr forms.Clear forms.Opaque))) (specifier s) → tst ≡ true
fits-specifier true tst clr s fits = absurd fits
fits-specifier false true clr s fits = refl
fits-specifier false false true s fits = absurd fits
fits-specifier false false false s fits = absurd fits

fits-clear : (nop tst clr : Bool) (reason : ℕ) → (s : Spec) → FitsForm (cond nop forms.Empty (cond tst forms.Specifier (cond clr forms.Clear forms.Opaque))) (clear reason s) → clr ≡ true
fits-clear true tst clr reason s fits = absurd fits
fits-clear false true clr reason s fits = absurd fits
fits-clear false false true reason s fits = refl
fits-clear false false false reason s fits = absurd fits

served-suits : (node : PlainNode) (body : Body) (opcode : ℕ) → FitsForm (request_form opcode) body → Suits opcode (served node body)
served-suits node empty opcode fits = number_is opcode 0 (fits-empty (opcode == 0) (opcode == 1) (opcode == 4) fits)
served-suits node (specifier s) opcode fits =
    let is = number_is opcode 1 (fits-specifier (opcode == 0) (opcode == 1) (opcode == 4) s fits) in
    elim (has_fresh node s) as (λ v. Suits opcode (if v then Found else NotFound)) [
      | true ↦ is
      | false ↦ is
    ]
served-suits node (clear reason s) opcode fits =
    let is = number_is opcode 4 (fits-clear (opcode == 0) (opcode == 1) (opcode == 4) reason s fits) in
    elim (has_stored node s) as (λ v. Suits opcode (if v then Cleared else NotCleared)) [
      | true ↦ is
      | false ↦ is
    ]
served-suits node (detail d) opcode fits = omega arith
served-suits node (cache_headers h) opcode fits = omega arith
served-suits node (opaque octets) opcode fits = omega arith

-- each of the four codes fits
refused-suits : (other unknown untrusted unsigned : Bool) (node : PlainNode) (body : Body) (opcode : ℕ) → Suits opcode (served node body) →
    Suits opcode (comes_to node body (cond other (Some 5) (cond unknown (Some 2) (cond untrusted (Some 1) (cond unsigned (Some 0) None)))))
refused-suits true unknown untrusted unsigned node body opcode suits = omega arith
refused-suits false true untrusted unsigned node body opcode suits = omega arith
refused-suits false false true unsigned node body opcode suits = omega arith
refused-suits false false false true node body opcode suits = omega arith
refused-suits false false false false node body opcode suits = suits

pub finding-suits : (node : PlainNode) (from : End) (body : Body) (opcode : ℕ) (worth : SignatureStanding) → FitsForm (request_form opcode) body →
    Suits opcode (comes_to node body (refusal_code node from opcode worth))
unfolding refusal_code
finding-suits node from body opcode worth fits =
    refused-suits (not (is_allowed node.settings from.addr)) (not (is_served opcode)) (is_bad worth) ((opcode == 4) && is_absent worth) node body opcode
    (served-suits node body opcode fits)

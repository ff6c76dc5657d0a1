use Rattle.std.proofs.Common.{◌∙◌}
use Rattle.bpf_asm.proofs.Addresses.{parsed_test}
use Rattle.bpf_asm.proofs.number.is_address_of.Goals as goal

pub returns : goal.returns
returns c = c.is_ok.ensures.value ∙ parsed_test c.args.word.now _ c.parse_ascii.ensures

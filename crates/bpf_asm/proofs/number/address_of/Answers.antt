use Rattle.bpf_asm.proofs.Addresses.{refused_none, parsed_bits}
use Rattle.bpf_asm.proofs.number.address_of.Goals as goal

pub returns-in_default : goal.returns-in_default
returns-in_default c = refused_none c.args.word.now _ _ c.in_default.is c.parse_ascii.ensures

pub returns : goal.returns
returns c = parsed_bits c.args.word.now _ c.in-Ok.address _ c.in-Ok.is c.to_bits.ensures c.parse_ascii.ensures

use Rattle.bpf_asm.proofs.AddressLaws.{address_token, address_number}
use Rattle.bpf_asm.proofs.laws.an_address_is_a_number.Goals as goal

pub returns-clause-token : goal.returns-clause-token
returns-clause-token c = address_token

pub returns-clause-value : goal.returns-clause-value
returns-clause-value c = address_number

-- Messages that are too long to be encoded.
use Rattle.std.proofs.Common.{◌≡◌, ℕ, ◌+◌, ◌-◌, ◌^◌, ◌<◌, ◌≤◌, min, Result, Ok, Err, arith}
use Rattle.std.specs.Prelude.{◌↔◌, IsErrAnd}
use Rattle.wire_octets.specs.declared.encode_fault.EncodeFault.{EncodeFault}
use Rattle.wire_octets.specs.declared.encode_fault.EncodeFault.TheVariants as faults

-- testing the length of OP-DATA plus key name is testing that of the whole message
pub over : (body name sum total : ℕ) → sum ≡ min (min body (2 ^ 64 - 1) + name) (2 ^ 64 - 1) → total ≡ body + name + 42 → 65465 < sum → 65507 < total
over body name sum total sum-is total-is lt = omega arith

pub within : (body name sum total : ℕ) → sum ≡ min (min body (2 ^ 64 - 1) + name) (2 ^ 64 - 1) → total ≡ body + name + 42 → sum ≤ 65465 → total ≤ 65507
within body name sum total sum-is total-is le = omega arith

-- the results TooLong, NoMemory and Ok
pub refused_over : {A : Type 0} (r : Result A EncodeFault) (total : ℕ) → r ≡ Err faults.TooLong → 65507 < total → (r ≡ Err faults.TooLong) ↔ (65507 < total)
refused_over r total long lt = (λ e. lt, λ l. long)

pub refused_within : {A : Type 0} (r : Result A EncodeFault) (total : ℕ) → IsErrAnd r (λ e. e ≡ faults.NoMemory) → total ≤ 65507 → (r ≡ Err faults.TooLong) ↔ (65507 < total)
refused_within (Ok v) total memory le = absurd memory
refused_within (Err e) total memory le = (λ long. absurd cc, λ lt. absurd (omega arith))

pub written_within : {A : Type 0} (v : A) (total : ℕ) → total ≤ 65507 → (Ok v ≡ Err faults.TooLong) ↔ (65507 < total)
written_within v total le = (λ long. absurd cc, λ lt. absurd (omega arith))

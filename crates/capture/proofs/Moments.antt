-- Parts of a second.
use Rattle.std.proofs.Common.{◌≡◌, ℕ, suc, ◌*◌, ◌^◌, ◌<◌, arith}
use Rattle.std.proofs.Math.Nat.{pow-succ'}

pub tens : (n : ℕ) → 0 < 10 ^ n
tens ℕ.zero = omega arith
tens (suc n) =
    let more : 10 ^ suc n ≡ 10 * 10 ^ n = pow-succ' 10 n in
    omega (arith, more, tens n)

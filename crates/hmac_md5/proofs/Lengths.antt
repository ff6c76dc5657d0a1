-- The length of a code: a lemma for the proofs of crates that write one.
use Rattle.std.proofs.Common.{◌≡◌, ℕ, List, length}
use Rattle.md5.proofs.StandardFacts.{length-md5}
use Rattle.hmac_md5.specs.Hmac.{hmac}

-- a code has 16 octets
pub length-hmac : (key text : List ℕ) → length (hmac key text) ≡ 16
unfolding hmac
length-hmac key text = length-md5 _

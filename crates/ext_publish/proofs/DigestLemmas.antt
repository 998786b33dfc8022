-- What SHA-256 gives is a digest.
use Rattle.std.proofs.Common.{ℕ, zero, suc, ◌<◌, List, arith}
use Rattle.std.specs.List.{AllByRecursion}
use Rattle.sha2.specs.Sha256.{digest_bytes, sha256}
use Rattle.sha2.proofs.Facts256.{length-sha256}
use Rattle.ext_text.specs.Digest.{IsDigest}
use Rattle.ext_text.proofs.ForCallers.{all_append}

each_byte : (h : List ℕ) (n : ℕ) → AllByRecursion (λ b. b < 256) (digest_bytes h n)
unfolding digest_bytes
each_byte h zero = tt
each_byte h (suc n) = all_append (λ b. b < 256) (digest_bytes h n) _ (each_byte h n) (omega arith, (omega arith, (omega arith, (omega arith, tt))))

pub digest_is : (bytes : List ℕ) → IsDigest (sha256 bytes)
unfolding sha256
digest_is bytes = record { count = length-sha256 bytes; each = each_byte _ 8 }

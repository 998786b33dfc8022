-- Digests of SHA-256, FIPS 180-4: what `sha256` of the crate sha2 gives.
use Rattle.std.specs.Prelude.{ℕ, List}
use Rattle.ext_lines.specs.Hexadecimal.{Are32Bytes}

-- a digest is 32 bytes
abbrev pub IsDigest : List ℕ → Type 0
IsDigest bytes = Are32Bytes bytes

use Rattle.std.proofs.Common.{◌≡◌, ◌<◌, ℕ, List, length, get_or}
use Rattle.hex.specs.Hex.{encode_lower}
use Rattle.ext_lines.specs.Hexadecimal.{Are32Bytes}
use Rattle.ext_lines.proofs.hexadecimal.bytes_of.Given as goal

abbrev pub invariant-bytes : goal.invariant-bytes
invariant-bytes l = record {
  count : length l.bytes ≡ 32;
  each : (k : ℕ) → get_or l.bytes k 0 < 256;
  read : (ds : List ℕ) → Are32Bytes ds → l.digits ≡ encode_lower ds → (k : ℕ) → k < l.at → get_or l.bytes k 0 ≡ get_or ds k 0;
}

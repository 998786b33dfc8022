use Rattle.std.proofs.Common.{◌≡◌, ◌*◌, ◌++◌, length, take, drop}
use Rattle.hex.specs.Hex.{encode_lower}
use Rattle.ext_lines.proofs.hexadecimal.hex_digits.Given as goal

abbrev pub invariant-bytes : goal.invariant-bytes
invariant-bytes l = record {
  count : length l.digits ≡ 64;
  written : take (2 * l.at) l.digits ++ encode_lower (drop l.at l.input) ≡ encode_lower l.input;
}

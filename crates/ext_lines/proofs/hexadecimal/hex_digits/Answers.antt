use Rattle.std.proofs.Common.{arith, ◌∙◌}
use Rattle.std.proofs.Math.ListN.{length-set}
use Rattle.hex.specs.Hex.{lower_digits}
use Rattle.hex.proofs.Pairs.{encode_step, encode_done}
use Rattle.ext_lines.proofs.hexadecimal.hex_digits.Goals as goal

pub bytes-preserved : goal.bytes-preserved
bytes-preserved c =
    let was = c.bytes.invariant in
    record {
      count = length-set _ _ _ ∙ length-set _ _ _ ∙ was.count;
      written = encode_step lower_digits c.args.input.now c.bytes.digits c.bytes.at _ _ (omega arith) (omega (arith, was.count)) c.digit_of.ensures c.digit_of-in-bytes.ensures was.written;
    }

pub returns : goal.returns
returns c =
    let was = c.bytes.invariant in
    encode_done lower_digits c.args.input.now c.bytes.digits c.bytes.at (omega arith) (omega (arith, was.count)) was.written

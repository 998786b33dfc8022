use Rattle.std.specs.Prelude.{replicate}
use Rattle.std.proofs.Common.{◌<◌, ◌+◌, ◌*◌, ℕ, length, refl, sym, ◌∙◌, arith}
use Rattle.std.proofs.Math.ListN.{length-set}
use Rattle.std.proofs.lemmas.List.{ext_get_or}
use Rattle.ext_lines.proofs.HexadecimalLemmas.{each_below, digits_give, set_below, set_reads, zeros_below}
use Rattle.ext_lines.proofs.hexadecimal.bytes_of.Goals as goal

pub bytes-init : goal.bytes-init
bytes-init c = record { count = refl; each = zeros_below (replicate 32 0) refl; read = λ ds is e k lt. absurd (omega arith) }

pub bytes-preserved : goal.bytes-preserved
bytes-preserved c =
    let was = c.bytes.invariant in
    let byte : ℕ = c.value_of_digit.result * 16 + c.value_of_digit-in-bytes.result in
    let within : c.bytes.at < length c.bytes.bytes = omega (arith, was.count, c.bytes-test.true) in
    record {
      count = length-set c.bytes.bytes c.bytes.at byte ∙ was.count;
      each = set_below c.bytes.bytes c.bytes.at byte 256 within was.each (omega (arith, c.value_of_digit.ensures.low, c.value_of_digit-in-bytes.ensures.low));
      read = λ ds is e. set_reads c.bytes.bytes ds c.bytes.at byte within (was.read ds is e)
          (digits_give c.args.digits.now ds c.bytes.at c.value_of_digit.result c.value_of_digit-in-bytes.result is e c.bytes-test.true c.value_of_digit.ensures.value c.value_of_digit-in-bytes.ensures.value);
    }

pub returns : goal.returns
returns c =
    let was = c.bytes.invariant in
    record {
      bytes = record { count = was.count; each = each_below c.bytes.bytes was.each };
      read = λ ds is e. ext_get_or 0 c.bytes.bytes ds (was.count ∙ sym is.count) (λ k lt. was.read ds is e k (omega (arith, was.count, c.bytes-test.false)));
    }

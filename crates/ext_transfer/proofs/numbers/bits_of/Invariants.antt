use Rattle.std.proofs.Common.{◌≡◌, ◌≤◌, length}
use Rattle.ext_transfer.specs.Numbers.{bits_and_digits}
use Rattle.ext_transfer.proofs.numbers.bits_of.Given as goal

abbrev pub invariant-digits : goal.invariant-digits
invariant-digits l = record { value : bits_and_digits l.bits l.rest ≡ bits_and_digits 0 l.digits; within : l.bits ≤ 4095 }

abbrev pub decreases-digits : goal.decreases-digits
decreases-digits l = length l.rest

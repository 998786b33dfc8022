use Rattle.std.proofs.Common.{◌≡◌, ◌≤◌, take}
use Rattle.std.specs.Str.Parse.{AllDigits, digits_value}
use Rattle.ext_lines.proofs.numbers.value_of.Given as goal

abbrev pub invariant-digits : goal.invariant-digits
invariant-digits l = record {
  digits : AllDigits l.base (take l.byte-index l.digits);
  value : l.value ≡ digits_value l.base (take l.byte-index l.digits);
  within : l.value ≤ l.most;
}

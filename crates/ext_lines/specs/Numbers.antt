-- Numbers as text, without leading zeros. Decimal digits are std's `decimal`.
use Rattle.std.specs.Prelude.{ℕ, false, List}
use Rattle.std.specs.Fmt.{digits}

-- the octal digits of a number
abbrev pub octal : ℕ → List ℕ
octal n = digits 8 false n

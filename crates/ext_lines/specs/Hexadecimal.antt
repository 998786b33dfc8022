-- Lower-case hexadecimal digits. Those of bytes are the crate hex's `encode_lower`, two digits a byte.
use Rattle.std.specs.Prelude.{◌≡◌, ℕ, ◌/◌, ◌%◌, ◌<◌, List, [], ◌∷◌, length, slice_index}
use Rattle.std.specs.List.{AllByRecursion}
use Rattle.hex.specs.Hex.{lower_digits}

-- 32 bytes
pub record Are32Bytes (bytes : List ℕ) : Type 0 where
  pub count : length bytes ≡ 32
  pub each : AllByRecursion (λ b. b < 256) bytes

-- the digit of a value below 16
abbrev pub hex_digit : ℕ → ℕ
hex_digit value = slice_index lower_digits value

-- the five digits of a number below 1,048,576
abbrev pub five_digits : ℕ → List ℕ
five_digits n = hex_digit (n / 65536) ∷ hex_digit (n / 4096 % 16) ∷ hex_digit (n / 256 % 16) ∷ hex_digit (n / 16 % 16) ∷ hex_digit (n % 16) ∷ []

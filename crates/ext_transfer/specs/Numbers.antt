-- Keys whose values are numbers: Mode= and InstancesMax=, as sysupdate.d(5) has them. The least and the most instances, and what
-- holds where a key is absent, is this project's own.
use Rattle.std.specs.Prelude.{ℕ, ◌+◌, ◌*◌, ◌-◌, Bool, ◌&&◌, nat_le, if◌then◌else◌, decimal, List, [], ◌∷◌, length, Option, Some, None, Result, Ok}
use Rattle.std.specs.Option.{option_and_then}
use Rattle.std.specs.Str.{bytes_eq}
use Rattle.std.specs.Str.Parse.{digits_value}
use Rattle.ext_ini.specs.declared.sections.Setting.{Setting}
use Rattle.ext_transfer.specs.declared.err.TransferErr.{TransferErr}
use Rattle.ext_transfer.specs.declared.err.TransferFault.TheVariants.{Mode, Instances}
use Rattle.ext_transfer.specs.Fault.{or_fault}

-- `0` to `7`
abbrev pub is_octal_digit : ℕ → Bool
is_octal_digit b = nat_le 48 b && nat_le b 55

-- the permission bits with one octal digit more, if it is one and there are such
abbrev pub bits_and_digit : ℕ → ℕ → Option ℕ
bits_and_digit bits b = if is_octal_digit b && nat_le (bits * 8 + (b - 48)) 4095 then Some (bits * 8 + (b - 48)) else None

-- the permission bits with more octal digits, if all are such
abbrev pub bits_and_digits : ℕ → List ℕ → Option ℕ
bits_and_digits bits [] = Some bits
bits_and_digits bits (b ∷ bs) = option_and_then (λ more. bits_and_digits more bs) (bits_and_digit bits b)

-- the permission bits that 1 to 5 octal digits write, if they are at most 7777
abbrev pub mode_of : List ℕ → Option ℕ
mode_of text = if nat_le 1 (length text) && nat_le (length text) 5 then bits_and_digits 0 text else None

-- Mode= of [Target]: octal 644, which is 420, where it is absent
abbrev pub mode_set : Option Setting → Result ℕ TransferErr
mode_set None = Ok 420
mode_set (Some setting) = or_fault (mode_of setting.value) setting.line Mode

-- 2 to 1,000,000
abbrev pub are_instances : ℕ → Bool
are_instances n = nat_le 2 n && nat_le n 1000000

-- the number of instances that decimal digits without a leading zero write, if it is one
abbrev pub instances_of : List ℕ → Option ℕ
instances_of text =
    if bytes_eq text (decimal (digits_value 10 text)) && are_instances (digits_value 10 text) then Some (digits_value 10 text) else None

-- InstancesMax= of [Target]: 2 where it is absent
abbrev pub instances_set : Option Setting → Result ℕ TransferErr
instances_set None = Ok 2
instances_set (Some setting) = or_fault (instances_of setting.value) setting.line Instances

-- What is root's, with a mode in its range, is in its ranges.
use Rattle.std.proofs.Common.{ℕ, ◌≤◌, arith}
use Rattle.ext_attributes.specs.declared.attributes.Attributes.{Attributes}
use Rattle.ext_attributes.specs.Attributes.{IsAttributes, IsOfFile, IsOwner, of_mode, plain_file, root_owner}

pub root_in_range : IsOwner root_owner
root_in_range = record { user = omega arith; group = omega arith }

pub mode_in_range : (mode : ℕ) → mode ≤ 4095 → IsAttributes (of_mode mode)
mode_in_range mode low = record { mode = low; owner = root_in_range }

-- so is what a file has without a capability
pub plain_in_range : (a : Attributes) → IsAttributes a → IsOfFile (plain_file a)
plain_in_range a is = record { attributes = is; capability = tt }

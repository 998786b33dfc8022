-- Names of entries. The rule is this project's own narrowing of what Linux takes for a file name: text without control
-- bytes, so that a name can stand on a line.
use Rattle.std.specs.Prelude.{◌≡◌, ℕ, ◌<◌, ◌≤◌, ◌≢◌, Bool, not, ◌&&◌, ◌==◌, nat_le, nat_lt, List, [], ◌∷◌, length, IsUtf8, Result, Ok, Err}
use Rattle.std.specs.List.{AllPass}
use Rattle.ext_lines.specs.Plain.{is_plain_byte}
use Rattle.ext_text.specs.declared.name.NameErr.{NameErr}
use Rattle.ext_text.specs.declared.name.NameErr.TheVariants.{OutOfMemory, BadName}
pub use Rattle.ext_lines.specs.ByteOrder.{bytes_cmp}

-- no control byte, and no `/`
abbrev pub is_name_byte : ℕ → Bool
is_name_byte b = is_plain_byte b && not (b == 47)

-- 1 to 255 bytes of text that is neither `.` nor `..`
pub record IsName (bytes : List ℕ) : Type 0 where
  pub non_empty : 0 < length bytes
  pub at_most_255 : length bytes ≤ 255
  pub not_dot : bytes ≢ 46 ∷ []
  pub not_dot_dot : bytes ≢ 46 ∷ 46 ∷ []
  pub plain : AllPass is_name_byte bytes
  pub utf8 : IsUtf8 bytes

-- what a name's length and its dots decide alone
pub record HasNameShape (bytes : List ℕ) : Type 0 where
  pub non_empty : 0 < length bytes
  pub at_most_255 : length bytes ≤ 255
  pub not_dot : bytes ≢ 46 ∷ []
  pub not_dot_dot : bytes ≢ 46 ∷ 46 ∷ []

-- a byte of ASCII that is no control byte
abbrev pub is_plain_ascii : ℕ → Bool
is_plain_ascii b = nat_le 32 b && nat_lt b 127

-- what `Name::read` gives: the name, or that the bytes are none
abbrev pub ReadsName : List ℕ → Result (List ℕ) NameErr → Type 0
ReadsName bytes (Ok name) = (name ≡ bytes) × IsName bytes
ReadsName bytes (Err OutOfMemory) = Unit {0}
ReadsName bytes (Err BadName) = ¬ IsName bytes

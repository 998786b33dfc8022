-- What an index holds of a file: its stamp, and its home, which is the generation that wrote it and the number of the file
-- there.
--
--     SIZE HEX GENERATION abcde
--
-- GENERATION is decimal without a leading zero, `abcde` the number in five lower-case hexadecimal digits.
use Rattle.std.specs.Prelude.{ℕ, ◌%◌, ◌≤◌, List, [], ◌∷◌, decimal}
use Rattle.hex.specs.Hex.{encode_lower}
use Rattle.ext_lines.specs.Hexadecimal.{five_digits}
use Rattle.ext_tree.specs.Fields.{IsStamp}
use Rattle.ext_tree.specs.EntryLine.{LineForm, HasLine, entry_line}
use Rattle.ext_tree.specs.declared.entry.Entry.{Entry}
use Rattle.ext_host.specs.declared.home.Home.{Home}
use Rattle.ext_host.specs.Home.{last_generation}
use Rattle.ext_index_lines.specs.declared.homed.Homed.{Homed}

-- a generation number, and the number of a file in it
pub record IsHome (home : Home) : Type 0 where
  pub first : 1 ≤ home.generation
  pub last : home.generation ≤ last_generation
  pub file : home.file ≤ 262143

-- the stamp and the home are in their ranges
pub record IsHomed (homed : Homed) : Type 0 where
  pub stamp : IsStamp homed.stamp
  pub home : IsHome homed.home

-- the five low digits of a number; the number of a file has no more
unfoldable pub file_digits : ℕ → List ℕ
file_digits file = five_digits (file % 1048576)

-- GENERATION and abcde
abbrev pub home_fields : Home → List (List ℕ)
home_fields home = decimal home.generation ∷ file_digits home.file ∷ []

-- the fields of a file: its stamp, then its home
abbrev pub homed_fields : Homed → List (List ℕ)
homed_fields homed = decimal homed.stamp.size ∷ encode_lower homed.stamp.digest.0 ∷ home_fields homed.home

-- files are known by their stamps and homes
abbrev pub homed_form : LineForm Homed
homed_form = record { fields = homed_fields; writable = IsHomed }

-- the line of an entry in an index, without its newline
abbrev pub homed_line : List (List ℕ) × Entry Homed → List ℕ
homed_line x = entry_line homed_form x

-- the entry has a line there
abbrev pub HasHomedLine : List (List ℕ) × Entry Homed → Type 0
HasHomedLine x = HasLine homed_form x

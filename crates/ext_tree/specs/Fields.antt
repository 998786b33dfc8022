-- The fields of a line: each with one space after it. They are read one by one from the start of a text.
use Rattle.std.specs.Prelude.{ℕ, ◌<◌, ◌≤◌, List, [], ◌∷◌, ◌++◌, length, decimal, IsUtf8}
use Rattle.std.specs.List.{AllPass}
use Rattle.hex.specs.Hex.{encode_lower}
use Rattle.ext_text.specs.Digest.{IsDigest}
use Rattle.ext_lines.specs.Plain.{is_plain_byte}
use Rattle.ext_tree.specs.declared.stamp.Stamp.{Stamp}

-- the fields, a space after each, and what follows them
abbrev pub spaced : List (List ℕ) → List ℕ → List ℕ
spaced [] rest = rest
spaced (field ∷ fields) rest = field ++ 32 ∷ spaced fields rest

-- a target: 1 to 4,096 bytes of UTF-8 without control bytes
pub record IsTarget (target : List ℕ) : Type 0 where
  pub non_empty : 0 < length target
  pub at_most_4096 : length target ≤ 4096
  pub plain : AllPass is_plain_byte target
  pub text : IsUtf8 target

-- a stamp that a line holds: a size of at most 1,073,741,824 bytes, and a digest
pub record IsStamp (stamp : Stamp) : Type 0 where
  pub size : stamp.size ≤ 1073741824
  pub digest : IsDigest stamp.digest.0

-- SIZE and HEX: the size in decimal digits without a leading zero, the digest in lower-case hexadecimal digits
abbrev pub stamp_fields : Stamp → List (List ℕ)
stamp_fields stamp = decimal stamp.size ∷ encode_lower stamp.digest.0 ∷ []

-- Lines put in the order of their names by keys: the first bytes after what all names begin with, as one number.
use Rattle.std.specs.Prelude.{ℕ, zero, suc, ◌+◌, ◌*◌, ◌<◌, List, drop, map, slice_index_or}
use Rattle.ext_sums.specs.declared.merging.Numbered.{Numbered}
use Rattle.ext_sums.specs.Merging.{AreSortedFrom}

-- the byte at a place, and 0 after the end
abbrev pub byte_at : List ℕ → ℕ → ℕ
byte_at bytes at = slice_index_or bytes at 0

-- the number that so many first bytes write, each a digit to the base 256, the first one the highest; 0 stands after the end
abbrev pub key_of : ℕ → List ℕ → ℕ
key_of zero bytes = 0
key_of (suc count) bytes = key_of count bytes * 256 + byte_at bytes count

-- each is a byte
abbrev pub AreBytes : List ℕ → Type 0
AreBytes bytes = (at : ℕ) → byte_at bytes at < 256

-- what follows so many first bytes of the name are bytes
abbrev pub HasBytes : ℕ → Numbered → Type 0
HasBytes count n = AreBytes (drop count n.listed.name)

-- the line with the key of what follows so many first bytes of its name
abbrev pub with_key : ℕ → Numbered → Numbered
with_key count n = record { key = key_of 8 (drop count n.listed.name); listed = n.listed; line = n.line }

-- each line with its key
abbrev pub with_keys : ℕ → List Numbered → List Numbered
with_keys count ns = map (with_key count) ns

-- the same lines with keys of some count, by name
pub record IsSorting (old new : List Numbered) : Type 0 where
  pub count : ℕ
  pub sorted : AreSortedFrom (with_keys count old) new

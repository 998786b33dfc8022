-- What the code finds out on the way to the transfers that lack a version.
use Rattle.std.specs.Prelude.{◌∷◌, ◌++◌, ℕ, Bool, true, if◌then◌else◌, List, [], slice_set}
use Rattle.std.specs.Str.{bytes_eq}
use Rattle.ext_installed.specs.declared.instance.Instance.{Instance}

-- marks of transfers, and one at that of an instance of the version, where there is such a transfer
abbrev pub marked : List ℕ → List Bool → Instance → List Bool
marked version have item = if bytes_eq item.version version then slice_set have item.transfer true else have

-- places, and one more where it isn't marked
abbrev pub with_unmarked : List ℕ → ℕ → Bool → List ℕ
with_unmarked places place mark = places ++ (if mark then [] else place ∷ [])

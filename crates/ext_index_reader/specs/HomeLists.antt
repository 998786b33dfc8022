-- Lists of homes, each in order with its stamps: which stamps they have, and how one more comes in.
use Rattle.std.specs.Prelude.{◌≡◌, ℕ, ◌<◌, List, [], ◌∷◌, ◌++◌, length, if◌then◌else◌, IfSome, IsTrue, Some, Vec, slice_get}
use Rattle.std.specs.FinMap.{find, is_sorted}
use Rattle.std.specs.List.{AllByRecursion}
use Rattle.std.specs.Ordering.{eq_by_cmp}
use Rattle.ext_tree.specs.InsertionPoint.{insertion_point}
use Rattle.ext_tree.specs.declared.stamp.Stamp.{Stamp}
use Rattle.ext_index_reader.specs.Homes.{Stamps, home_cmp}

-- a list is in order
abbrev pub IsSorted : {Z : Type 0} → Vec ((ℕ × ℕ) × Stamp) Z → Type 0
IsSorted list = IsTrue (is_sorted home_cmp list.items)

-- and so are lists
abbrev pub AreSorted : {Z : Type 0} → List (Vec ((ℕ × ℕ) × Stamp) Z) → Type 0
AreSorted lists = AllByRecursion IsSorted lists

-- the stamps of lists, one list after another
abbrev pub all_of : {Z : Type 0} → List (Vec ((ℕ × ℕ) × Stamp) Z) → Stamps
all_of [] = []
all_of (list ∷ lists) = list.items ++ all_of lists

-- the home comes after all homes of the list at the index
abbrev pub IsAtEnd : {Z : Type 0} → ℕ × ℕ → List (Vec ((ℕ × ℕ) × Stamp) Z) → ℕ → Type 0
IsAtEnd home lists i = (i < length lists) × IfSome (slice_get lists i) (λ list. insertion_point home_cmp home list.items ≡ length list.items)

-- the same stamps are found in the new lists, and one more
abbrev pub IsWithHome : {Z : Type 0} → List (Vec ((ℕ × ℕ) × Stamp) Z) → List (Vec ((ℕ × ℕ) × Stamp) Z) → ℕ × ℕ → Stamp → Type 0
IsWithHome old new home stamp =
    (q : ℕ × ℕ) → find home_cmp q (all_of new) ≡ (if eq_by_cmp home_cmp q home then Some stamp else find home_cmp q (all_of old))

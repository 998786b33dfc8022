-- Laws of changes.
use Rattle.std.specs.Prelude.{◌≡◌, ◌≢◌, ◌↔◌, ℕ, List, [], map, Some, slice_get}
use Rattle.std.specs.FinMap.Entries.{where_key}
use Rattle.std.specs.List.{AllByRecursion}
use Rattle.ext_text.specs.Path.{IsPath, path_cmp, is_prefix}
use Rattle.ext_tree.specs.Tree.{Entries, IsTree}
use Rattle.ext_tree.specs.declared.stamp.Stamp.{Stamp}
use Rattle.ext_changes.specs.Changes.{AreChanges, AreChangesBelow, Changes, stamped_at}
use Rattle.ext_changes.specs.Lines.{changes_text}
use Rattle.ext_changes.specs.declared.change.ChangeKind.{ChangeKind}
use Rattle.ext_changes.specs.declared.change.ChangeKind.TheVariants.{Added, Removed, Changed}

-- two trees have one list of changes
abbrev pub OneList : Type 0 → Type 0 → Type 0
OneList A B =
    (old_stamp : A → Stamp) (new_stamp : B → Stamp) (earlier : Entries A) (later : Entries B) (cs ds : Changes)
    → AreChanges old_stamp new_stamp earlier later cs → AreChanges old_stamp new_stamp earlier later ds → cs ≡ ds

-- and one below a path
abbrev pub OneListBelow : Type 0 → Type 0 → Type 0
OneListBelow A B =
    (old_stamp : A → Stamp) (new_stamp : B → Stamp) (prefix : List (List ℕ)) (earlier : Entries A) (later : Entries B) (cs ds : Changes)
    → AreChangesBelow old_stamp new_stamp prefix earlier later cs → AreChangesBelow old_stamp new_stamp prefix earlier later ds → cs ≡ ds

-- trees without a change have the same at each path, and trees that have the same at each path are without a change
abbrev pub NoneWhereAlike : Type 0 → Type 0 → Type 0
NoneWhereAlike A B =
    (old_stamp : A → Stamp) (new_stamp : B → Stamp) (earlier : Entries A) (later : Entries B)
    → AreChanges old_stamp new_stamp earlier later [] ↔ ((path : List (List ℕ)) → stamped_at old_stamp earlier path ≡ stamped_at new_stamp later path)

-- where nothing but stamps is kept of files, trees without a change are equal, and equal trees are without a change
abbrev pub NoneOfEqual : Type 0
NoneOfEqual = (earlier later : Entries Stamp) → IsTree earlier → IsTree later → AreChanges (λ s. s) (λ s. s) earlier later [] ↔ (earlier ≡ later)

-- at the path of each change the trees differ
abbrev pub EachDiffers : Type 0 → Type 0 → Type 0
EachDiffers A B =
    (old_stamp : A → Stamp) (new_stamp : B → Stamp) (earlier : Entries A) (later : Entries B) (changes : Changes) (place : ℕ) (change : List (List ℕ) × ChangeKind)
    → AreChanges old_stamp new_stamp earlier later changes → slice_get changes place ≡ Some change → stamped_at old_stamp earlier change.0 ≢ stamped_at new_stamp later change.0

-- added in place of removed, and the other way round
abbrev pub turned : ChangeKind → ChangeKind
turned Added = Removed
turned Removed = Added
turned Changed = Changed

-- the same of each change
abbrev pub all_turned : Changes → Changes
all_turned changes = map (λ change. (change.0, turned change.1)) changes

-- the other way round the same paths differ, with what was added and what was removed exchanged
abbrev pub TurnedTheOtherWay : Type 0 → Type 0 → Type 0
TurnedTheOtherWay A B =
    (old_stamp : A → Stamp) (new_stamp : B → Stamp) (earlier : Entries A) (later : Entries B) (changes : Changes)
    → AreChanges old_stamp new_stamp earlier later changes → AreChanges new_stamp old_stamp later earlier (all_turned changes)

-- the changes at and below a path are those of all changes that have a path there
abbrev pub BelowOfAll : Type 0 → Type 0 → Type 0
BelowOfAll A B =
    (old_stamp : A → Stamp) (new_stamp : B → Stamp) (prefix : List (List ℕ)) (earlier : Entries A) (later : Entries B) (changes : Changes)
    → AreChanges old_stamp new_stamp earlier later changes → AreChangesBelow old_stamp new_stamp prefix earlier later (where_key path_cmp (is_prefix prefix) changes)

-- each path at which two trees differ is within the limits of a path
abbrev pub PathsOfTrees : Type 0 → Type 0 → Type 0
PathsOfTrees A B =
    (old_stamp : A → Stamp) (new_stamp : B → Stamp) (earlier : Entries A) (later : Entries B) (changes : Changes)
    → IsTree earlier → IsTree later → AreChanges old_stamp new_stamp earlier later changes → AllByRecursion (λ change. IsPath change.0) changes

-- the lines of changes are those of one list
abbrev pub OneListOfText : Type 0
OneListOfText =
    (cs ds : Changes) → AllByRecursion (λ change. IsPath change.0) cs → AllByRecursion (λ change. IsPath change.0) ds
    → changes_text cs ≡ changes_text ds → cs ≡ ds

-- The changes between two trees, an earlier and a later one, stated of each path by itself. This project's own choice: an
-- entry is added, removed or changed, and a file is changed where its attributes or its stamp are others.
use Rattle.std.specs.Prelude.{◌≡◌, ◌≢◌, ℕ, false, List, IsTrue, Option, Some, None}
use Rattle.std.specs.FinMap.{find, is_sorted}
use Rattle.std.specs.Option.{option_map}
use Rattle.ext_text.specs.Path.{path_cmp, is_prefix}
use Rattle.ext_tree.specs.Tree.{Entries, lookup}
use Rattle.ext_tree.specs.declared.entry.Entry.{Entry}
use Rattle.ext_tree.specs.declared.entry.Entry.TheVariants.{Dir, Opaque, File, Link, Hide}
use Rattle.ext_tree.specs.declared.stamp.Stamp.{Stamp}
use Rattle.ext_changes.specs.declared.change.ChangeKind.{ChangeKind}
use Rattle.ext_changes.specs.declared.change.ChangeKind.TheVariants.{Added, Removed, Changed}

-- the entry, with nothing of a file but its attributes and its stamp
abbrev pub stamped : {C : Type 0} → (C → Stamp) → Entry C → Entry Stamp
stamped stamp (Dir attributes) = Dir attributes
stamped stamp (Opaque attributes) = Opaque attributes
stamped stamp (File attributes content) = File attributes (stamp content)
stamped stamp (Link owner target) = Link owner target
stamped stamp Hide = Hide

-- what a tree has at a path, so seen
abbrev pub stamped_at : {C : Type 0} → (C → Stamp) → Entries C → List (List ℕ) → Option (Entry Stamp)
stamped_at stamp es path = option_map (stamped stamp) (lookup es path)

-- how two entries at one path differ: they are changed where they are not equal
abbrev pub IsChanged : Entry Stamp → Entry Stamp → Option ChangeKind → Type 0
IsChanged old new None = old ≡ new
IsChanged old new (Some Added) = ⊥
IsChanged old new (Some Removed) = ⊥
IsChanged old new (Some Changed) = old ≢ new

-- how what the earlier and the later tree have at one path differs, if it does
abbrev pub DiffersBy : Option (Entry Stamp) → Option (Entry Stamp) → Option ChangeKind → Type 0
DiffersBy None None kind = kind ≡ None
DiffersBy None (Some new) kind = kind ≡ Some Added
DiffersBy (Some old) None kind = kind ≡ Some Removed
DiffersBy (Some old) (Some new) kind = IsChanged old new kind

-- paths with how each differs
abbrev pub Changes : Type 0
Changes = List (List (List ℕ) × ChangeKind)

-- how a path differs by such a list; a path that is not in it does not differ
abbrev pub change_at : Changes → List (List ℕ) → Option ChangeKind
change_at changes path = find path_cmp path changes

-- the changes between two trees: each path at which they differ, once and in path order, and no other path
pub record AreChanges {A B : Type 0} (old_stamp : A → Stamp) (new_stamp : B → Stamp) (earlier : Entries A) (later : Entries B) (changes : Changes) : Type 0 where
  pub sorted : IsTrue (is_sorted path_cmp changes)
  pub each : (path : List (List ℕ)) → DiffersBy (stamped_at old_stamp earlier path) (stamped_at new_stamp later path) (change_at changes path)

-- the changes at and below a path alone
pub record AreChangesBelow {A B : Type 0} (old_stamp : A → Stamp) (new_stamp : B → Stamp) (prefix : List (List ℕ)) (earlier : Entries A) (later : Entries B) (changes : Changes) : Type 0 where
  pub sorted : IsTrue (is_sorted path_cmp changes)
  pub each : (path : List (List ℕ)) → IsTrue (is_prefix prefix path) → DiffersBy (stamped_at old_stamp earlier path) (stamped_at new_stamp later path) (change_at changes path)
  pub elsewhere : (path : List (List ℕ)) → is_prefix prefix path ≡ false → change_at changes path ≡ None

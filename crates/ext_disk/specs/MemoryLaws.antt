-- The law of disks, of a disk in memory: what its history keeps makes it one.
use Rattle.std.proofs.Common.{◌≡◌, ℕ, true, ◌||◌, List, [], ◌∷◌, ◌++◌, length, Option, Some, None, refl, ap, ◌∙◌, inr, arith}
use Rattle.std.proofs.lemmas.Bool.{false≢true}
use Rattle.std.proofs.lemmas.List.{take_all}
use Rattle.std.specs.Option.{is_some}
use Rattle.ext_disk.specs.Disk.{Node, Place, Places, Swing, IsTree, IsDisk, is_taken, is_file}
use Rattle.ext_disk.specs.DiskEntries.{DiskEntries, IsGrown, IsReached}
use Rattle.ext_disk.specs.Deeds.{IsWhole, told_of, replay}
use Rattle.ext_disk.specs.Memory.{told_by}
use Rattle.ext_disk.specs.declared.deed.Deed.{Deed}
use Rattle.ext_disk.specs.declared.disk_entry.Content.{Content}
use Rattle.ext_disk.specs.declared.memory_disk.MemoryDisk.{MemoryDisk}

taken_either : (x : Place) (node : Option Node) (swing : Option Swing) → x.node ≡ node → ((w : Swing) → swing ≡ Some w → IsReached w node) → (is_some node || is_some swing) ≡ true → is_some node ≡ true
taken_either x (Some n) swing is unsynced_rename taken = refl
taken_either x None None is unsynced_rename taken = taken
taken_either x None (Some w) is unsynced_rename taken = let reached = unsynced_rename w refl in absurd (false≢true (ap is_file reached.stands ∙ reached.after))

taken_there : (x : Place) → ((w : Swing) → x.unsynced_rename ≡ Some w → IsReached w x.node) → is_taken x ≡ true → is_some x.node ≡ true
taken_there x unsynced_rename taken = taken_either x x.node x.unsynced_rename refl unsynced_rename taken

-- a tree in memory is a tree
pub grown_is_tree : (d : Places) → IsGrown d → IsTree d
grown_is_tree d grown = record {
  root = grown.root;
  parents = λ p n taken. grown.parents p n (taken_there (d (p ++ n ∷ [])) (λ w is. grown.swings (p ++ n ∷ []) w is) taken);
  swings = λ p w is. let reached = grown.swings p w is in record { before = reached.before; after = reached.after; stands = inr reached.stands };
}

-- what a disk in memory tells is a disk
pub told_is_disk : (disk_entries : DiskEntries) (given : List (List (List ℕ) × Content)) (deeds : List Deed) (sum : ℕ) → IsWhole disk_entries given deeds → IsDisk (told_of given deeds sum)
told_is_disk disk_entries given deeds sum whole = record {
  tree = grown_is_tree (replay given deeds) whole.grown;
  present = ap (replay given) (take_all (length deeds) deeds (omega arith));
}

pub holds_a_tree : (disk : MemoryDisk) → IsDisk (told_by disk.history)
holds_a_tree disk = told_is_disk disk.history.disk_entries disk.history.given.items disk.history.deeds.items disk.history.appended disk.history.whole

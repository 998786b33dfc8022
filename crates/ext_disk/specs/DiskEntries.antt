-- A disk in memory: what its map says of each path.
use Rattle.std.specs.Prelude.{◌≡◌, ℕ, Bool, true, not, ◌&&◌, List, [], ◌∷◌, ◌++◌, Option, Some, None, if◌then◌else◌}
use Rattle.std.specs.Option.{option_map, is_some}
use Rattle.std.specs.BTreeMap.{BTreeMap, get}
use Rattle.ext_text.specs.Path.{path_cmp}
use Rattle.ext_disk.specs.Disk.{Node, folder, file, Place, Places, Swing, absent, root_place, is_file, is_no_folder, is_synced}
use Rattle.ext_disk.specs.Calls.{child_name, is_child}
use Rattle.ext_disk.specs.declared.disk_entry.Content.{Content}
use Rattle.ext_disk.specs.declared.disk_entry.Content.TheVariants.{Absent, Folder, File}
use Rattle.ext_disk.specs.declared.disk_entry.DiskEntry.{DiskEntry}

-- a place for each path that was ever named, the root's apart
abbrev pub DiskEntries : Type 0
DiskEntries = BTreeMap (List (List ℕ)) DiskEntry

-- what stands where the content is
abbrev pub node_of : Content → Option Node
node_of Absent = None
node_of Folder = Some folder
node_of (File bytes) = Some (file bytes)

-- a path of a disk in memory, as the model has it
abbrev pub place_of : DiskEntry → Place
place_of disk_entry = record {
  node = node_of disk_entry.content;
  unsynced_name = disk_entry.unsynced_name;
  unsynced_bytes = disk_entry.unsynced_bytes;
  unsynced_rename = option_map (λ before. record { before = node_of before; after = node_of disk_entry.content }) disk_entry.unsynced_rename;
}

-- that of a path, which is absent where nothing is held of it
abbrev pub found_place : Option DiskEntry → Place
found_place None = absent
found_place (Some disk_entry) = place_of disk_entry

-- all paths of a disk in memory, as the model has them
abbrev pub place_at : DiskEntries → Places
place_at disk_entries [] = root_place
place_at disk_entries (n ∷ p) = found_place (get path_cmp disk_entries (n ∷ p))

-- at a path with an unsynced rename the new one of its outcomes stands, which is a file, and the old one is no folder
pub record IsReached (w : Swing) (node : Option Node) : Type 0 where
  pub before : is_no_folder w.before ≡ true
  pub after : is_file w.after ≡ true
  pub stands : node ≡ w.after

-- what a disk in memory keeps: the root is a folder with nothing to sync, what stands elsewhere has its folder, and at a
-- path with an unsynced rename the renamed file stands
pub record IsGrown (d : Places) : Type 0 where
  pub root : d [] ≡ root_place
  pub parents : (p : List (List ℕ)) (n : List ℕ) → is_some (d (p ++ n ∷ [])).node ≡ true → (d p).node ≡ Some folder
  pub swings : (p : List (List ℕ)) (w : Swing) → (d p).unsynced_rename ≡ Some w → IsReached w (d p).node

-- the name of a path in a folder, where something stands there
abbrev pub disk_entry_name : List (List ℕ) → List (List ℕ) → DiskEntry → Option (List ℕ)
disk_entry_name dir path disk_entry = if is_some (node_of disk_entry.content) then child_name dir path else None

-- a path directly in the folder whose name is not synced
abbrev pub is_unsynced_in : List (List ℕ) → Places → List (List ℕ) → Bool
is_unsynced_in dir d q = is_child dir q && not (is_synced (d q))

-- the same, of the path's own entry
abbrev pub is_unsynced : List (List ℕ) → List (List ℕ) → DiskEntry → Bool
is_unsynced dir path disk_entry = is_child dir path && not (is_synced (place_of disk_entry))

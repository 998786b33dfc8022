-- The past of a disk in memory: what it began with, and what was done to it, one deed after another.
use Rattle.std.specs.Prelude.{◌≡◌, ℕ, List, [], ◌∷◌, length, take}
use Rattle.ext_disk.specs.Disk.{Place, Places, Told, absent, root_place}
use Rattle.ext_disk.specs.Calls.{Call, make_dir, make_file, append, sync_file, sync_dir, rename, remove, put, after}
use Rattle.ext_disk.specs.DiskEntries.{DiskEntries, node_of, place_at, IsGrown}
use Rattle.ext_disk.specs.declared.deed.Deed.{Deed}
use Rattle.ext_disk.specs.declared.deed.Deed.TheVariants.{MakeDir, MakeFile, Append, SyncFile, SyncDir, Rename, Remove}
use Rattle.ext_disk.specs.declared.disk_entry.Content.{Content}

-- an empty disk
abbrev pub empty_places : Places
empty_places [] = root_place
empty_places (n ∷ p) = absent

-- something that stands at a path, with nothing to sync
abbrev pub durable_place : Content → Place
durable_place content = record absent { node = node_of content }

-- a disk on which these stand, put there in turn
abbrev pub given_from : Places → List (List (List ℕ) × Content) → Places
given_from d [] = d
given_from d (e ∷ es) = given_from (put e.0 (durable_place e.1) d) es

-- the call that did it
abbrev pub call_of : Deed → Call
call_of (MakeDir p) = make_dir p
call_of (MakeFile p) = make_file p
call_of (Append p bytes) = append p bytes
call_of (SyncFile p) = sync_file p
call_of (SyncDir p) = sync_dir p
call_of (Rename from to) = rename from to
call_of (Remove p) = remove p

-- the deeds done in turn
abbrev pub replay_from : Places → List Deed → Places
replay_from d [] = d
replay_from d (deed ∷ deeds) = replay_from (after (call_of deed) d) deeds

-- what a disk came to that began with these
abbrev pub replay : List (List (List ℕ) × Content) → List Deed → Places
replay given deeds = replay_from (given_from empty_places given) deeds

-- what a disk in memory tells: everything, and each moment of its past
abbrev pub told_of : List (List (List ℕ) × Content) → List Deed → ℕ → Told
told_of given deeds appended = record {
  places = replay given deeds;
  clock = length deeds;
  past = λ n. replay given (take n deeds);
  appended = appended;
}

-- the map says what the disk came to, which is a tree
pub record IsWhole (disk_entries : DiskEntries) (given : List (List (List ℕ) × Content)) (deeds : List Deed) : Type 0 where
  pub agrees : (p : List (List ℕ)) → place_at disk_entries p ≡ replay given deeds p
  pub grown : IsGrown (replay given deeds)

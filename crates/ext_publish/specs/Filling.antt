-- The files of a resource, written in the depot.
use Rattle.std.specs.Prelude.{◌≡◌, ℕ, Bool, true, false, ◌||◌, List, ◌++◌, ◌⊎◌, drop, length, Option, Some, None, IfSome, Result, Ok, Err}
use Rattle.std.specs.Option.{is_some}
use Rattle.ext_text.specs.Causes.{Rose}
use Rattle.ext_text.specs.Path.{is_prefix, is_proper_prefix, parent}
use Rattle.ext_disk.specs.Disk.{Places, Told, DiskState, BothTold, folder, is_file, is_synced, now}
use Rattle.ext_tree.specs.Tree.{Entries}
use Rattle.ext_tree.specs.declared.entry.Entry.{Entry}
use Rattle.ext_tree.specs.declared.entry.Entry.TheVariants as entries
use Rattle.ext_host.specs.Held.{HeldFile, IsStampOf}
use Rattle.ext_host.specs.Shelf.{IsTold, IsFound, IsKeptAs}
use Rattle.ext_store_files.specs.HeldFiles.{body_told, is_served}
use Rattle.ext_store_files.specs.Removal.{IsClear}
use Rattle.ext_store_files.specs.Writing.{IsWritten}
use Rattle.ext_gen.specs.declared.bad_store.BadStore.TheVariants as bad_stores
use Rattle.ext_published.specs.Asked.{AskedOf}
use Rattle.ext_published.specs.Payload.{HasHeldFileAt}
use Rattle.ext_published.specs.Places.{published_resource_path, tree_text_path}
use Rattle.ext_published.specs.Published.{published_text}
use Rattle.ext_published.specs.declared.payload.Payload.{Payload}
use Rattle.ext_published.specs.declared.payload.Payload.TheVariants.{Directory, File}
use Rattle.ext_publish.specs.Out.{first_file, is_left_at}
use Rattle.ext_publish.specs.Copying.{HeldCause}
use Rattle.ext_publish.specs.Folders.{IsCalmAt}
use Rattle.ext_publish.specs.declared.stop.Stop.{Stop}
use Rattle.ext_publish.specs.declared.stop.Stop.TheVariants.{OutOfMemory, Refused, DiskFault, OutFault, BadStore, Unfinished}

-- the file is one of what is published
abbrev pub IsPublishedFileOf : Payload → HeldFile → Type 0
IsPublishedFileOf (Directory tree) held = (path : List (List ℕ)) × HasHeldFileAt tree path held
IsPublishedFileOf (File one) held = held ≡ one

-- each file of it can be read
abbrev pub IsReadable : Payload → Type 0
IsReadable payload = (held : HeldFile) → IsPublishedFileOf payload held → is_served held.body ≡ true

-- the folder stands, and nothing that an earlier run left
pub record IsOpenFor (asked : AskedOf) (d : Places) : Type 0 where
  pub folder : (d asked.folder).node ≡ Some folder
  pub clear : IsClear (is_left_at asked) d

-- a file stands at the path that has the bytes which the store tells, and they are synced
abbrev pub IsFilledWith : DiskState → HeldFile → List (List ℕ) → Places → Type 0
IsFilledWith store held path e = (bytes : List ℕ) × IsTold (body_told store held.body) bytes × IsStampOf bytes held.stamp × IsWritten path bytes e

-- each file of these entries stands below the resource
abbrev pub AreFilled : DiskState → List (List ℕ) → Entries HeldFile → Places → Type 0
AreFilled store resource es e = (path : List (List ℕ)) (held : HeldFile) → HasHeldFileAt es path held → IsFilledWith store held (resource ++ path) e

-- a file stands below the path in the tree
abbrev pub IsAboveFile : Entries HeldFile → List (List ℕ) → Type 0
IsAboveFile tree path = (below : List (List ℕ)) × (held : HeldFile) × HasHeldFileAt tree below held × (is_proper_prefix path below ≡ true)

-- of a directory the files of these entries are written, and nothing else stands below the resource but the folders that have them,
-- all of which are synced
pub record IsFilling (store : DiskState) (dir resource : List (List ℕ)) (tree es : Entries HeldFile) (e : Places) : Type 0 where
  pub base : (e dir).node ≡ Some folder
  pub files : AreFilled store resource es e
  pub only : (path : List (List ℕ)) → is_file (e (resource ++ path)).node ≡ true → (held : HeldFile) × HasHeldFileAt es path held
  pub folders : (path : List (List ℕ)) → (e (resource ++ path)).node ≡ Some folder → IsAboveFile tree path
  pub calm : (path : List (List ℕ)) → (e (resource ++ path)).node ≡ Some folder → IsCalmAt e (resource ++ path)

-- nothing stands at the path of a file, the folder stands, and no file on the way down from it
pub record MayWriteOne (above path : List (List ℕ)) (d : Places) : Type 0 where
  pub base : (d above).node ≡ Some folder
  pub way : first_file (now d) above (drop (length above) (parent path)) ≡ None
  pub free : (d path).node ≡ None

-- one file more stands, and the folders that have it; those that were made are synced
pub record IsOneMore (store : DiskState) (held : HeldFile) (path : List (List ℕ)) (d e : Places) : Type 0 where
  pub there : IsFilledWith store held path e
  pub others : (p : List (List ℕ)) → is_prefix p path ≡ false → (e p).node ≡ (d p).node
  pub keeps : (p : List (List ℕ)) → is_some (d p).node ≡ true → (e p).node ≡ (d p).node
  pub files : (p : List (List ℕ)) → is_file (e p).node ≡ true → (is_file (d p).node ≡ true) ⊎ (p ≡ path)
  pub calm : (p : List (List ℕ)) → (e p).node ≡ Some folder → ((d p).node ≡ Some folder → IsCalmAt d p) → IsCalmAt e p
  pub hard : (p : List (List ℕ)) → is_file (d p).node ≡ true → (d p).unsynced_bytes ≡ false → (e p).unsynced_bytes ≡ false

-- the file of an entry, where it is one
abbrev pub held_of : Entry HeldFile → Option HeldFile
held_of (entries.Dir attributes) = None
held_of (entries.Opaque attributes) = None
held_of (entries.File attributes held) = Some held
held_of (entries.Link owner target) = None
held_of entries.Hide = None

-- an entry was written, where it is a file; what is told stays else
abbrev pub WritesEntry : DiskState → Option HeldFile → List (List ℕ) → DiskState → DiskState → Type 0
WritesEntry store None path old new = new.told ≡ old.told
WritesEntry store (Some held) path old new = BothTold (λ d e. IsOneMore store held path d.places e.places) old.told new.told

-- why an entry was not written: why its file was not copied
abbrev pub WrittenEntryCause : Option HeldFile → DiskState → DiskState → DiskState → DiskState → Stop → Type 0
WrittenEntryCause None store after old new stop = ⊥
WrittenEntryCause (Some held) store after old new stop = HeldCause held store after old new stop

-- each file of these entries stands
abbrev pub HasFilesOf : Entries HeldFile → List (List ℕ) → Places → Type 0
HasFilesOf es resource d = (path : List (List ℕ)) (held : HeldFile) → HasHeldFileAt es path held → is_file (d (resource ++ path)).node ≡ true

-- what was synced is so still
abbrev pub StaySynced : Told → Told → Type 0
StaySynced d e = (p : List (List ℕ)) → is_synced (d.places p) ≡ true → is_synced (e.places p) ≡ true

-- the name of each file of these entries is synced
abbrev pub AreNamed : List (List ℕ) → Entries HeldFile → Places → Type 0
AreNamed resource es e = (path : List (List ℕ)) (held : HeldFile) → HasHeldFileAt es path held → is_synced (e (resource ++ path)) ≡ true

-- what is published stands, but for the manifest: all bytes are synced, and the names below the resource
abbrev pub IsResourceFilled : DiskState → AskedOf → Payload → Places → Type 0
IsResourceFilled store asked (Directory tree) e =
    IsWritten (tree_text_path asked) (published_text tree) e
    × IsFilling store asked.folder (published_resource_path asked) tree tree e
    × AreNamed (published_resource_path asked) tree e
IsResourceFilled store asked (File held) e = IsFilledWith store held (published_resource_path asked) e

-- the path is that of the tree text or of the resource, or lies below one
abbrev pub is_filled_at : AskedOf → List (List ℕ) → Bool
is_filled_at asked p = is_prefix (tree_text_path asked) p || is_prefix (published_resource_path asked) p

-- where it is done, it stands
abbrev pub EndsFilled : {T : Type 0} → Result T Stop → DiskState → AskedOf → Payload → DiskState → Type 0
EndsFilled (Ok _) store asked payload new = IfSome new.told (λ e. IsResourceFilled store asked payload e.places)
EndsFilled (Err stop) store asked payload new = Unit {0}

-- why what is published was not written
abbrev pub FilesCause : Payload → DiskState → DiskState → DiskState → DiskState → Stop → Type 0
FilesCause payload store after old new OutOfMemory = Unit {0}
FilesCause payload store after old new (Refused refusal) = ⊥
FilesCause payload store after old new DiskFault = Rose store.faults after.faults
FilesCause payload store after old new OutFault = Rose old.faults new.faults
FilesCause payload store after old new (BadStore (bad_stores.Broken line)) = ⊥
FilesCause payload store after old new (BadStore (bad_stores.Damaged damage)) =
    (held : HeldFile) × IsPublishedFileOf payload held × IsKeptAs held damage.home damage.listed × IsFound damage.listed (body_told store held.body) damage.found
FilesCause payload store after old new Unfinished = ⊥

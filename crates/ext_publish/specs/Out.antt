-- The folder in which a run publishes: what stands there, what a stop leaves of it, and which of its paths a run may touch. This
-- project's own.
use Rattle.std.specs.Prelude.{◌≡◌, ℕ, Bool, true, false, ◌||◌, List, [], ◌∷◌, ◌++◌, Option, Some, None, if◌then◌else◌}
use Rattle.ext_text.specs.Path.{is_prefix}
use Rattle.ext_disk.specs.Disk.{Node, Tree, Places, folder, file, is_file, is_folder, is_synced}
use Rattle.ext_depot.specs.Depot.{Files}
use Rattle.ext_store_files.specs.Removal.{is_below_any}
use Rattle.ext_published.specs.Asked.{AskedOf}
use Rattle.ext_published.specs.Names.{coming_manifest_name, tree_text_name}
use Rattle.ext_published.specs.Places.{published_manifest_path}

-- nothing of the disk is unsynced: no name, no bytes and no rename
pub record IsQuiet (d : Places) : Type 0 where
  pub synced : (p : List (List ℕ)) → is_synced (d p) ≡ true
  pub hard : (p : List (List ℕ)) → (d p).unsynced_bytes ≡ false

-- the bytes of a file
abbrev pub file_bytes : Option Node → Option (List ℕ)
file_bytes None = None
file_bytes (Some folder) = None
file_bytes (Some (file bytes)) = Some bytes

-- the files that stand, as a depot that is read from the same folder has them
abbrev pub files_standing : Tree → Files
files_standing t = λ p. file_bytes (t p)

-- the bytes; none where there is no file
abbrev pub bytes_or_none : Option (List ℕ) → List ℕ
bytes_or_none None = []
bytes_or_none (Some bytes) = bytes

-- the bytes of the manifest that stands; none where there is none
abbrev pub manifest_bytes : Tree → AskedOf → List ℕ
manifest_bytes t asked = bytes_or_none (file_bytes (t (published_manifest_path asked)))

-- the names in the folder that an earlier run may have left, which a run removes with all below them
abbrev pub left_names : AskedOf → List (List ℕ)
left_names asked = coming_manifest_name ∷ tree_text_name asked.name ∷ asked.name ∷ []

-- the path is a left-over's, or lies below one
abbrev pub is_left_at : AskedOf → List (List ℕ) → Bool
is_left_at asked p = is_below_any asked.folder (left_names asked) p

-- the path is a left-over's or the manifest's, or lies below one: where a run may change what stands, once the folder is there
abbrev pub is_published_at : AskedOf → List (List ℕ) → Bool
is_published_at asked p = is_left_at asked p || is_prefix (published_manifest_path asked) p

-- going down from a path by names: the first path, from the top down, at which no folder stands
abbrev pub first_missing : Tree → List (List ℕ) → List (List ℕ) → Option (List (List ℕ))
first_missing t above [] = None
first_missing t above (n ∷ names) = if is_folder (t (above ++ n ∷ [])) then first_missing t (above ++ n ∷ []) names else Some (above ++ n ∷ [])

-- the second path is the first one or lies below it, where there is a first one
abbrev pub is_at_or_below : Option (List (List ℕ)) → List (List ℕ) → Bool
is_at_or_below None p = false
is_at_or_below (Some missing) p = is_prefix missing p

-- the path is at or below the first missing folder of the depot's, where one is missing
abbrev pub is_missing_at : Tree → AskedOf → List (List ℕ) → Bool
is_missing_at t asked p = is_at_or_below (first_missing t [] asked.folder) p

-- going down from a path by names: the first path, from the top down, at which a file stands
abbrev pub first_file : Tree → List (List ℕ) → List (List ℕ) → Option (List (List ℕ))
first_file t above [] = None
first_file t above (n ∷ names) = if is_file (t (above ++ n ∷ [])) then Some (above ++ n ∷ []) else first_file t (above ++ n ∷ []) names

-- the manifest, where it is a folder
abbrev pub folder_manifest : Tree → AskedOf → Option (List (List ℕ))
folder_manifest t asked = if is_folder (t (published_manifest_path asked)) then Some (published_manifest_path asked) else None

-- one of two, the first where there is one
abbrev pub first_of_paths : Option (List (List ℕ)) → Option (List (List ℕ)) → Option (List (List ℕ))
first_of_paths None other = other
first_of_paths (Some path) other = Some path

-- the least path at which something of the wrong kind stands: a file where the folder, or one above it, should, or a folder where
-- the manifest should
abbrev pub wrong_kind : Tree → AskedOf → Option (List (List ℕ))
wrong_kind t asked = first_of_paths (first_file t [] asked.folder) (folder_manifest t asked)

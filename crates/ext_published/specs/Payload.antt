-- What is published: a directory of the host with all below it, or a file. This project's own.
use Rattle.std.specs.Prelude.{◌≡◌, ℕ, true, false, List, [], ◌∷◌, Some, None, Result, Ok, Err}
use Rattle.std.specs.List.{flat_map, sum_by}
use Rattle.ext_attributes.specs.Attributes.{OfFile}
use Rattle.ext_tree.specs.Part.{part}
use Rattle.ext_tree.specs.Tree.{Entries, is_directory, is_directory_or_root, is_file, lookup}
use Rattle.ext_tree.specs.declared.entry.Entry.{Entry}
use Rattle.ext_tree.specs.declared.entry.Entry.TheVariants as entries
use Rattle.ext_host.specs.Held.{HeldFile}
use Rattle.ext_published.specs.Names.{tree_text_name}
use Rattle.ext_published.specs.declared.payload.Payload.{Payload}
use Rattle.ext_published.specs.declared.payload.Payload.TheVariants.{Directory, File}
use Rattle.ext_published.specs.declared.payload.PayloadErr.{PayloadErr}
use Rattle.ext_published.specs.declared.payload.PayloadErr.TheVariants.{OutOfMemory, NoEntry, NotFile}

-- a file stands at the path of the tree
pub record HasHeldFileAt (es : Entries HeldFile) (path : List (List ℕ)) (held : HeldFile) : Type 0 where
  pub attributes : OfFile
  pub stands : lookup es path ≡ Some (entries.File attributes held)

-- what stands at the path is neither a directory nor a file
pub record HasOtherAt (es : Entries HeldFile) (path : List (List ℕ)) : Type 0 where
  pub entry : Entry HeldFile
  pub stands : lookup es path ≡ Some entry
  pub no_directory : is_directory entry ≡ false
  pub no_file : is_file entry ≡ false

-- a directory or nothing stands at the path
abbrev pub IsNoOtherAt : Entries HeldFile → List (List ℕ) → Type 0
IsNoOtherAt es path = (entry : Entry HeldFile) → lookup es path ≡ Some entry → is_directory entry ≡ true

-- nothing stands at the path, which is not the root
pub record HasNoneAt (es : Entries HeldFile) (path : List (List ℕ)) : Type 0 where
  pub stands : lookup es path ≡ None
  pub below_root : is_directory_or_root es path ≡ false

-- what a host's tree has at a path, to be published: the part below a directory or the root, a file, or why there is none
abbrev pub GivesPayload : Entries HeldFile → List (List ℕ) → Result Payload PayloadErr → Type 0
GivesPayload es path (Ok (Directory tree)) = (is_directory_or_root es path ≡ true) × (tree ≡ part path es)
GivesPayload es path (Ok (File held)) = HasHeldFileAt es path held
GivesPayload es path (Err OutOfMemory) = Unit {0}
GivesPayload es path (Err NoEntry) = HasNoneAt es path
GivesPayload es path (Err NotFile) = HasOtherAt es path

-- the files of an entry
abbrev pub files_of_entry : Entry HeldFile → List HeldFile
files_of_entry (entries.Dir attributes) = []
files_of_entry (entries.Opaque attributes) = []
files_of_entry (entries.File attributes held) = held ∷ []
files_of_entry (entries.Link owner target) = []
files_of_entry entries.Hide = []

-- the files of a tree, in path order
abbrev pub files_of_tree : Entries HeldFile → List HeldFile
files_of_tree es = flat_map (λ e. files_of_entry e.1) es

-- the files that are published
abbrev pub payload_files : Payload → List HeldFile
payload_files (Directory tree) = files_of_tree tree
payload_files (File held) = held ∷ []

-- their bytes, as they are listed
abbrev pub payload_bytes : Payload → ℕ
payload_bytes payload = sum_by (λ (held : HeldFile). held.stamp.size) (payload_files payload)

-- the name that the manifest lists: a directory's tree text, or the file
abbrev pub listing_name : Payload → List ℕ → List ℕ
listing_name (Directory tree) name = tree_text_name name
listing_name (File held) name = name

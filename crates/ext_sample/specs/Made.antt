-- Files that are made, and the tree that they make: beside them it has the directories in which they stand, and nothing
-- else. The attributes are this project's own choice.
use Rattle.std.specs.Prelude.{◌≡◌, ℕ, Bool, not, ◌&&◌, if◌then◌else◌, List, length, Option, Some}
use Rattle.std.specs.Option.{option_map}
use Rattle.std.specs.List.{list_any}
use Rattle.std.specs.Map.{lookup}
use Rattle.std.specs.BTreeMap.{is_at}
use Rattle.sha2.specs.Sha256.{sha256}
use Rattle.ext_attributes.specs.Attributes.{file_of_mode, of_mode}
use Rattle.ext_text.specs.Path.{path_cmp, is_proper_prefix}
use Rattle.ext_tree.specs.Tree as trees
use Rattle.ext_tree.specs.Refusals.{is_root}
use Rattle.ext_tree.specs.TreeText.{HasText}
use Rattle.ext_tree.specs.declared.entry.Entry.{Entry}
use Rattle.ext_tree.specs.declared.entry.Entry.TheVariants.{Dir, File}
use Rattle.ext_tree.specs.declared.stamp.Stamp.{Stamp}

-- a file that is made: its path, and its bytes
abbrev pub MadeFile : Type 0
MadeFile = List (List ℕ) × List ℕ

-- the bytes of the file at the path, if one of the files has it
abbrev pub made_bytes : List MadeFile → List (List ℕ) → Option (List ℕ)
made_bytes files path = lookup (is_at (path_cmp path)) files

-- a directory in which the path stands, be it right in it or deeper; the root does not count
abbrev pub is_above : List (List ℕ) → List (List ℕ) → Bool
is_above directory path = not (is_root directory) && is_proper_prefix directory path

-- one of the files stands in the directory
abbrev pub has_made : List MadeFile → List (List ℕ) → Bool
has_made files directory = list_any (λ file. is_above directory file.0) files

-- how many bytes there are, and their digest
abbrev pub made_stamp : List ℕ → Stamp
made_stamp bytes = record { size = length bytes; digest = record { 0 = sha256 bytes } }

-- a file of root's, of mode 644 and without a capability, with these bytes
abbrev pub made_file : List ℕ → Entry Stamp
made_file bytes = File (file_of_mode 420) (made_stamp bytes)

-- what stands at the path: a directory of root's, of mode 755, where files stand in it, else the file, else nothing
abbrev pub made_entry : List MadeFile → List (List ℕ) → Option (Entry Stamp)
made_entry files path = if has_made files path then Some (Dir (of_mode 493)) else option_map made_file (made_bytes files path)

-- the tree of the files, which has a text
pub record IsTreeOf (files : List MadeFile) (tree : trees.Entries Stamp) : Type 0 where
  pub text : HasText tree
  pub each : (path : List (List ℕ)) → trees.lookup tree path ≡ made_entry files path

-- How the tree of files and their depot are made, step by step: what a map has at each path.
use Rattle.std.specs.Prelude.{◌≡◌, ℕ, ◌+◌, ◌*◌, ◌<◌, ◌≤◌, if◌then◌else◌, List, length, map, Option, Some}
use Rattle.std.specs.Option.{option_map, option_or}
use Rattle.std.specs.Map.{lookup}
use Rattle.std.specs.BTreeMap.{is_at}
use Rattle.ext_attributes.specs.Attributes.{of_mode}
use Rattle.ext_text.specs.Path.{IsPath, path_cmp, path_text}
use Rattle.ext_depot.specs.DepotView.{DepotView, file_at}
use Rattle.ext_tree.specs.Tree.{Entries}
use Rattle.ext_tree.specs.TreeText.{tree_text}
use Rattle.ext_tree.specs.declared.entry.Entry.{Entry}
use Rattle.ext_tree.specs.declared.entry.Entry.TheVariants.{Dir}
use Rattle.ext_tree.specs.declared.stamp.Stamp.{Stamp}
use Rattle.ext_sample.specs.Made.{IsTreeOf, MadeFile, has_made, is_above, made_bytes, made_file}
use Rattle.ext_sample.specs.Sample.{in_folder}

-- a file of a sample: it is not the root, its path is at most five names deep, and both are short
pub record IsSmallFile (file : MadeFile) : Type 0 where
  pub path : IsPath file.0
  pub non_empty : 0 < length file.0
  pub depth : length file.0 ≤ 5
  pub text : length (path_text file.0) ≤ 1000
  pub size : length file.1 ≤ 1000

-- what stands at a path of a map
abbrev pub entry_at : Entries Stamp → List (List ℕ) → Option (Entry Stamp)
entry_at es path = lookup (is_at (path_cmp path)) es

-- the entry was put at the path, whatever stood there
pub record PutsAt (old new : Entries Stamp) (path : List (List ℕ)) (entry : Entry Stamp) : Type 0 where
  pub each : (q : List (List ℕ)) → entry_at new q ≡ (if is_at (path_cmp q) path then Some entry else entry_at old q)
  pub count : length new ≤ length old + 1

-- the files were put
pub record PutsFiles (old new : Entries Stamp) (files : List MadeFile) : Type 0 where
  pub each : (q : List (List ℕ)) → entry_at new q ≡ option_or (option_map made_file (made_bytes files q)) (entry_at old q)
  pub count : length new ≤ length old + length files

-- a directory was put at each path above this one
pub record PutsAbove (old new : Entries Stamp) (path : List (List ℕ)) : Type 0 where
  pub each : (q : List (List ℕ)) → entry_at new q ≡ (if is_above q path then Some (Dir (of_mode 493)) else entry_at old q)
  pub count : length new ≤ length old + 5

-- a directory was put at each path above a file
pub record PutsDirectories (old new : Entries Stamp) (files : List MadeFile) : Type 0 where
  pub each : (q : List (List ℕ)) → entry_at new q ≡ (if has_made files q then Some (Dir (of_mode 493)) else entry_at old q)
  pub count : length new ≤ length old + 5 * length files

-- the files were put into the depot, below a folder of this name
pub record PutsBelow (old new : DepotView) (name : List ℕ) (files : List MadeFile) : Type 0 where
  pub each : (q : List (List ℕ)) → file_at new q ≡ option_or (made_bytes (map (in_folder name) files) q) (file_at old q)
  pub fails : new.fails ≡ old.fails
  pub calls : new.calls ≡ old.calls
  pub faults : new.faults ≡ old.faults

-- the text of the tree of the files
abbrev pub IsTextOf : List MadeFile → List ℕ → Type 0
IsTextOf files text = (tree : Entries Stamp) × IsTreeOf files tree × (text ≡ tree_text tree)

-- What contracts see of a depot in memory.
use Rattle.std.specs.Prelude.{ℕ, List, Option, Some}
use Rattle.std.specs.Map.{lookup}
use Rattle.std.specs.BTreeMap.{is_at}
use Rattle.ext_text.specs.Path.{path_cmp}
use Rattle.ext_depot.specs.Depot.{DepotState}

-- what contracts see of a depot in memory
pub record DepotView : Type 0 where
  -- the files with their paths, in path order
  pub files : List (List (List ℕ) × List ℕ)
  -- the numbers of the calls that fail
  pub fails : List ℕ
  -- how often it was called
  pub calls : ℕ
  -- how often a call failed
  pub faults : ℕ

-- the bytes of the file at a path
abbrev pub file_at : DepotView → List (List ℕ) → Option (List ℕ)
file_at depot path = lookup (is_at (path_cmp path)) depot.files

-- what it is as a depot: it tells every file
abbrev pub depot_state : DepotView → DepotState
depot_state depot = record { contents = Some (file_at depot); faults = depot.faults }

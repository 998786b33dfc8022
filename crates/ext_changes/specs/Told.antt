-- What contracts see of borrowed changes.
use Rattle.std.specs.Prelude.{ℕ, List, [], ◌∷◌, map, Option, Some, None}
use Rattle.ext_changes.specs.Changes.{Changes}
use Rattle.ext_changes.specs.declared.change.Change.{Change}
use Rattle.ext_changes.specs.declared.change.ChangeKind.{ChangeKind}

-- a path with how it differs
abbrev pub told : Change → List (List ℕ) × ChangeKind
told change = (change.path.now, change.kind)

-- each of the changes
abbrev pub all_told : List Change → Changes
all_told changes = map told changes

-- a change, where there is one
abbrev pub some_told : Option Change → Changes
some_told None = []
some_told (Some change) = told change ∷ []

-- a path with how it differs, if it does
abbrev pub at_path : List (List ℕ) → Option ChangeKind → Changes
at_path path None = []
at_path path (Some kind) = (path, kind) ∷ []

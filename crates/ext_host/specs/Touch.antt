-- What a change at a path leaves of a host's manifests: this project's own.
use Rattle.std.specs.Prelude.{ℕ, not, List}
use Rattle.std.specs.List.{filter}
use Rattle.ext_text.specs.Path.{are_related}
use Rattle.ext_text.specs.SortedPaths.{meets}
use Rattle.ext_host.specs.declared.manifest.Manifest.{Manifest}

-- the manifests whose paths are neither at, above nor below the path
abbrev pub untouched : List (List ℕ) → List Manifest → List Manifest
untouched path manifests = filter (λ manifest. not (are_related manifest.path path)) manifests

-- the manifests whose paths are neither at, above nor below one of the paths
abbrev pub untouched_all : List (List (List ℕ)) → List Manifest → List Manifest
untouched_all paths manifests = filter (λ manifest. not (meets paths manifest.path)) manifests

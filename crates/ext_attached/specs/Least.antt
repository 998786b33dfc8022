-- The least path, in path order, that is in the way. This project's own.
use Rattle.std.specs.Prelude.{◌≡◌, ◌≢◌, ℕ, Bool, true, false, List, Option, Some, None}
use Rattle.std.specs.declared.cmp.Ordering.TheVariants.{Less}
use Rattle.ext_text.specs.Path.{path_cmp}
use Rattle.ext_text.specs.SortedPaths.{is_among}

-- one of the paths, which passes the test, and none before it does
pub record IsLeastPassing (test : List (List ℕ) → Bool) (paths : List (List (List ℕ))) (path : List (List ℕ)) : Type 0 where
  pub among : is_among paths path ≡ true
  pub passes : test path ≡ true
  pub least : (other : List (List ℕ)) → is_among paths other ≡ true → test other ≡ true → path_cmp other path ≢ Less

-- none of the paths passes the test
abbrev pub NonePasses : (List (List ℕ) → Bool) → List (List (List ℕ)) → Type 0
NonePasses test paths = (path : List (List ℕ)) → is_among paths path ≡ true → test path ≡ false

-- the least of the paths that passes the test, or that none does
abbrev pub FindsLeast : (List (List ℕ) → Bool) → List (List (List ℕ)) → Option (List (List ℕ)) → Type 0
FindsLeast test paths None = NonePasses test paths
FindsLeast test paths (Some path) = IsLeastPassing test paths path

-- Names and paths that may stand as words: a word that begins with `-` is an option or nothing. The rules are this project's own.
use Rattle.std.specs.Prelude.{◌≢◌, ℕ, List, [], ◌∷◌}
use Rattle.ext_text.specs.Name.{IsName}
use Rattle.ext_text.specs.Path.{IsPath}

-- a path other than the root
pub record IsBelowRoot (path : List (List ℕ)) : Type 0 where
  pub within : IsPath path
  pub below_root : path ≢ []

-- a name that isn't taken for an option
pub record IsPlainName (name : List ℕ) : Type 0 where
  pub name_is : IsName name
  pub no_dash : (rest : List ℕ) → name ≢ 45 ∷ rest

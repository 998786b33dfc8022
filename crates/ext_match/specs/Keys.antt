-- The keys of a release file that are those of a class of extensions: os-release(5), SYSEXT_LEVEL= and
-- SYSEXT_SCOPE=, and CONFEXT_LEVEL= and CONFEXT_SCOPE=.
use Rattle.std.specs.Prelude.{ℕ, List, [], codes}
use Rattle.ext_text.specs.declared.extension.Extension.{Extension}
use Rattle.ext_text.specs.declared.extension.Extension.TheVariants.{Sysext, Confext}

-- the key of the level
abbrev pub level_key : Extension → List ℕ
level_key Sysext = codes "SYSEXT_LEVEL"
level_key Confext = codes "CONFEXT_LEVEL"

-- the key of the list of scopes
abbrev pub scope_key : Extension → List ℕ
scope_key Sysext = codes "SYSEXT_SCOPE"
scope_key Confext = codes "CONFEXT_SCOPE"

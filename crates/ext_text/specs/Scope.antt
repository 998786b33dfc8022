-- Scopes, by the names that os-release(5) gives them at SYSEXT_SCOPE= and CONFEXT_SCOPE=.
use Rattle.std.specs.Prelude.{◌≡◌, ◌≢◌, ℕ, List, codes, Option, Some, None}
use Rattle.ext_text.specs.declared.scope.Scope.{Scope}
use Rattle.ext_text.specs.declared.scope.Scope.TheVariants.{System, Initrd, Portable}

-- the name of a scope
abbrev pub scope_name : Scope → List ℕ
scope_name System = codes "system"
scope_name Initrd = codes "initrd"
scope_name Portable = codes "portable"

-- what reading a text gives: the scope of this name, or that there is none
abbrev pub ReadsScope : List ℕ → Option Scope → Type 0
ReadsScope text (Some scope) = text ≡ scope_name scope
ReadsScope text None = (scope : Scope) → text ≢ scope_name scope

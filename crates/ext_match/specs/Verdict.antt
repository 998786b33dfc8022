-- Whether an extension fits a host, by their release files: after systemd-sysext(8). That an extension without an ID doesn't
-- fit, what the level decides, that VERSION_ID is looked at only where the host sets it, the order of the reasons and the
-- force are this project's own.
use Rattle.std.specs.Prelude.{◌≡◌, ℕ, Bool, true, false, ◌⊎◌, List, codes, Some, IfSome, IsSome}
use Rattle.std.specs.FinMap.{FinMap, get}
use Rattle.std.specs.Option.{unwrap_or}
use Rattle.ext_text.specs.Arch.{arch_name}
use Rattle.ext_lines.specs.ByteOrder.{bytes_cmp}
use Rattle.ext_text.specs.Scope.{scope_name}
use Rattle.ext_text.specs.declared.arch.Arch.{Arch}
use Rattle.ext_text.specs.declared.extension.Extension.{Extension}
use Rattle.ext_text.specs.declared.scope.Scope.{Scope}
use Rattle.ext_lines.specs.Words.{has_word}
use Rattle.ext_match.specs.Keys.{level_key, scope_key}
use Rattle.ext_match.specs.declared.verdict.Verdict.{Verdict}
use Rattle.ext_match.specs.declared.verdict.Verdict.TheVariants as verdicts

-- what a release file assigns
abbrev pub Release : Type 0
Release = FinMap bytes_cmp (List ℕ)

-- the scope is in the extension's list, or in `system portable` where it has none
abbrev pub HasScope : Release → Extension → Scope → Type 0
HasScope ext class scope = has_word (scope_name scope) (unwrap_or (get ext (scope_key class)) (codes "system portable")) ≡ true

-- the extension is made for the architecture, for any, or doesn't say
abbrev pub FitsArch : Release → Arch → Type 0
FitsArch ext arch = IfSome (get ext (codes "ARCHITECTURE")) (λ name. (name ≡ codes "_any") ⊎ (name ≡ arch_name arch))

-- the extension says which host it is made for
abbrev pub HasId : Release → Type 0
HasId ext = IsSome (get ext (codes "ID"))

-- it is made for any
abbrev pub FitsAnyId : Release → Type 0
FitsAnyId ext = get ext (codes "ID") ≡ Some (codes "_any")

-- it is made for hosts of this ID; a host without one has `linux`
abbrev pub FitsId : Release → Release → Type 0
FitsId host ext = get ext (codes "ID") ≡ Some (unwrap_or (get host (codes "ID")) (codes "linux"))

-- both have a level of the class
abbrev pub HaveLevels : Release → Release → Extension → Type 0
HaveLevels host ext class = IsSome (get host (level_key class)) × IsSome (get ext (level_key class))

-- both have the same level
abbrev pub FitsLevel : Release → Release → Extension → Type 0
FitsLevel host ext class = get ext (level_key class) ≡ get host (level_key class)

-- the extension has the host's version, where the host has one
abbrev pub FitsVersion : Release → Release → Type 0
FitsVersion host ext = IfSome (get host (codes "VERSION_ID")) (λ version. get ext (codes "VERSION_ID") ≡ Some version)

-- the level decides where both have one, else the version
abbrev pub FitsRelease : Release → Release → Extension → Type 0
FitsRelease host ext class = (HaveLevels host ext class × FitsLevel host ext class) ⊎ ((¬ HaveLevels host ext class) × FitsVersion host ext)

-- the extension fits the host
pub record IsFitting (host ext : Release) (class : Extension) (scope : Scope) (arch : Arch) : Type 0 where
  pub scoped : HasScope ext class scope
  pub built : FitsArch ext arch
  pub named : HasId ext
  pub made : FitsAnyId ext ⊎ (FitsId host ext × FitsRelease host ext class)

-- the verdict: it fits, or is forced to; or the first part that fails
abbrev pub IsVerdict : Release → Release → Extension → Scope → Arch → Bool → Verdict → Type 0
IsVerdict host ext class scope arch force verdicts.Fits = (force ≡ true) ⊎ IsFitting host ext class scope arch
IsVerdict host ext class scope arch force verdicts.Scope = (force ≡ false) × (¬ HasScope ext class scope)
IsVerdict host ext class scope arch force verdicts.Architecture = (force ≡ false) × HasScope ext class scope × (¬ FitsArch ext arch)
IsVerdict host ext class scope arch force verdicts.NoId = (force ≡ false) × HasScope ext class scope × FitsArch ext arch × (¬ HasId ext)
IsVerdict host ext class scope arch force verdicts.Id =
    (force ≡ false) × HasScope ext class scope × FitsArch ext arch × HasId ext × (¬ FitsAnyId ext) × (¬ FitsId host ext)
IsVerdict host ext class scope arch force verdicts.Level =
    (force ≡ false) × HasScope ext class scope × FitsArch ext arch × (¬ FitsAnyId ext) × FitsId host ext × HaveLevels host ext class × (¬ FitsLevel host ext class)
IsVerdict host ext class scope arch force verdicts.Version =
    (force ≡ false) × HasScope ext class scope × FitsArch ext arch × (¬ FitsAnyId ext) × FitsId host ext × (¬ HaveLevels host ext class) × (¬ FitsVersion host ext)

-- what the level decides, or else the version
abbrev pub JudgesRelease : Release → Release → Extension → Verdict → Type 0
JudgesRelease host ext class verdicts.Fits = FitsRelease host ext class
JudgesRelease host ext class verdicts.Level = HaveLevels host ext class × (¬ FitsLevel host ext class)
JudgesRelease host ext class verdicts.Version = (¬ HaveLevels host ext class) × (¬ FitsVersion host ext)
JudgesRelease host ext class verdicts.Scope = ⊥
JudgesRelease host ext class verdicts.Architecture = ⊥
JudgesRelease host ext class verdicts.NoId = ⊥
JudgesRelease host ext class verdicts.Id = ⊥

-- of the same files, class, scope, architecture and force no two verdicts hold
abbrev pub OneVerdict : Type 0
OneVerdict =
    (host ext : Release) (class : Extension) (scope : Scope) (arch : Arch) (force : Bool) (v w : Verdict) →
    IsVerdict host ext class scope arch force v → IsVerdict host ext class scope arch force w → v ≡ w

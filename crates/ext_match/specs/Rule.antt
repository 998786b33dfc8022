-- The verdict as it is computed: each part of the rule is a test, and the first part that decides gives the verdict.
use Rattle.std.specs.Prelude.{◌≡◌, ℕ, Bool, true, not, ◌&&◌, ◌||◌, if◌then◌else◌, List, codes, Option, None, Some, is_some}
use Rattle.std.specs.FinMap.{get}
use Rattle.std.specs.Option.{option_eq, unwrap_or}
use Rattle.std.specs.Str.{bytes_eq}
use Rattle.ext_text.specs.Arch.{arch_name}
use Rattle.ext_text.specs.Scope.{scope_name}
use Rattle.ext_text.specs.declared.arch.Arch.{Arch}
use Rattle.ext_text.specs.declared.extension.Extension.{Extension}
use Rattle.ext_text.specs.declared.scope.Scope.{Scope}
use Rattle.ext_lines.specs.Words.{has_word}
use Rattle.ext_match.specs.Keys.{level_key, scope_key}
use Rattle.ext_match.specs.Verdict.{Release, IsVerdict}
use Rattle.ext_match.specs.declared.verdict.Verdict.{Verdict}
use Rattle.ext_match.specs.declared.verdict.Verdict.TheVariants as verdicts

-- the verdict, by the outcomes of the parts
abbrev pub rule : (forced scoped built named any_id same_id levels same_level versioned : Bool) → Verdict
rule forced scoped built named any_id same_id levels same_level versioned =
    if forced then verdicts.Fits
    else if not scoped then verdicts.Scope
    else if not built then verdicts.Architecture
    else if not named then verdicts.NoId
    else if any_id then verdicts.Fits
    else if not same_id then verdicts.Id
    else if levels then (if same_level then verdicts.Fits else verdicts.Level)
    else if versioned then verdicts.Fits
    else verdicts.Version

-- both are unset, or both are set to the same
abbrev pub is_same : Option (List ℕ) → Option (List ℕ) → Bool
is_same a b = option_eq bytes_eq a b

-- unset, or set to one of two
abbrev pub is_unset_or_either : List ℕ → List ℕ → Option (List ℕ) → Bool
is_unset_or_either a b None = true
is_unset_or_either a b (Some value) = bytes_eq value a || bytes_eq value b

-- the first is unset, or the second is set to the same
abbrev pub is_unset_or_same : Option (List ℕ) → Option (List ℕ) → Bool
is_unset_or_same None b = true
is_unset_or_same (Some value) b = is_same b (Some value)

-- the scope is in the extension's list
abbrev pub is_scoped : Release → Extension → Scope → Bool
is_scoped ext class scope = has_word (scope_name scope) (unwrap_or (get ext (scope_key class)) (codes "system portable"))

-- the extension is made for the architecture, for any, or doesn't say
abbrev pub is_built : Release → Arch → Bool
is_built ext arch = is_unset_or_either (codes "_any") (arch_name arch) (get ext (codes "ARCHITECTURE"))

-- the verdict of an extension against a host, class, scope and architecture, forced or not
abbrev pub verdict_of : Release → Release → Extension → Scope → Arch → Bool → Verdict
verdict_of host ext class scope arch force =
    rule force
    (is_scoped ext class scope)
    (is_built ext arch)
    (is_some (get ext (codes "ID")))
    (is_same (get ext (codes "ID")) (Some (codes "_any")))
    (is_same (get ext (codes "ID")) (Some (unwrap_or (get host (codes "ID")) (codes "linux"))))
    (is_some (get host (level_key class)) && is_some (get ext (level_key class)))
    (is_same (get ext (level_key class)) (get host (level_key class)))
    (is_unset_or_same (get host (codes "VERSION_ID")) (get ext (codes "VERSION_ID")))

-- the verdict that is computed holds
abbrev pub RuleHolds : Type 0
RuleHolds =
    (host ext : Release) (class : Extension) (scope : Scope) (arch : Arch) (force : Bool) →
    IsVerdict host ext class scope arch force (verdict_of host ext class scope arch force)

-- a verdict that holds is the one that is computed
abbrev pub RuleIsMet : Type 0
RuleIsMet =
    (host ext : Release) (class : Extension) (scope : Scope) (arch : Arch) (force : Bool) (v : Verdict) →
    IsVerdict host ext class scope arch force v → v ≡ verdict_of host ext class scope arch force

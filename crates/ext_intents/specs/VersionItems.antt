-- What the code finds out of updates once, before it looks at each version.
use Rattle.std.specs.Prelude.{◌≡◌, ℕ, ◌||◌, true, List, Option}
use Rattle.std.specs.List.{flat_map, list_any}
use Rattle.std.specs.Option.{option_copied}
use Rattle.ext_transfer.specs.declared.transfer.Transfer.{Transfer}
use Rattle.ext_versions.specs.Versions.{has_version}
use Rattle.ext_intents.specs.Updates.{is_obsolete_by, protected_by, versions_of_items}
use Rattle.ext_update.specs.declared.updates.Updates.{Updates}
use Rattle.ext_intents.specs.declared.version_items.Flags.{Flags}

-- the version is available or has an instance
abbrev pub IsKnown : Updates → List ℕ → Type 0
IsKnown updates version = has_version updates.available version || has_version (versions_of_items updates.installed.items) version ≡ true

-- a least version is above a version exactly where one of two is
abbrev pub IsGreater : Option (List ℕ) → Option (List ℕ) → Option (List ℕ) → Type 0
IsGreater first second greatest = (version : List ℕ) → is_obsolete_by greatest version ≡ (is_obsolete_by first version || is_obsolete_by second version)

-- exactly where that of some transfer is
abbrev pub IsGreatestLeast : List Transfer → Option (List ℕ) → Type 0
IsGreatestLeast transfers greatest = (version : List ℕ) → is_obsolete_by greatest version ≡ list_any (λ (t : Transfer). is_obsolete_by t.min version) transfers

-- which versions have an instance, which are protected, and the greatest least version
pub record AreFlagsOf (updates : Updates) (flags : Flags) : Type 0 where
  pub present : (v : List ℕ) → has_version flags.present v ≡ has_version (versions_of_items updates.installed.items) v
  pub protected : (v : List ℕ) → has_version flags.protected v ≡ has_version (flat_map protected_by updates.transfers) v
  pub least : IsGreatestLeast updates.transfers (option_copied flags.least)

-- Which version an update takes over, after sysupdate.d(5) and systemd-sysupdate(8). That a version is the newest by the order of
-- versions, and among equal ones by its bytes, and that a version that is equal to an installed one is not newer, is this
-- project's own.
use Rattle.std.specs.Prelude.{◌≡◌, ◌≢◌, ℕ, Bool, true, false, List, slice_get, Option, Some, None}
use Rattle.std.specs.Ordering.{is_gt}
use Rattle.std.specs.declared.cmp.Ordering.TheVariants.{Greater}
use Rattle.ext_vers.specs.Version.{order_of, version_cmp}
use Rattle.ext_versions.specs.Versions.{has_version}
use Rattle.ext_choice.specs.declared.choosing.Choice.{Choice}
use Rattle.ext_choice.specs.declared.choosing.Choice.TheVariants.{Install, Present, NoneNewer, NoSuch}

-- the newest of the available versions, which is newer than each installed one
pub record IsNewest (available installed : List (List ℕ)) (v : List ℕ) : Type 0 where
  pub there : has_version available v ≡ true
  pub greatest : (w : List ℕ) → has_version available w ≡ true → order_of w v ≢ Greater
  pub newer : (u : List ℕ) → has_version installed u ≡ true → version_cmp v u ≡ Greater

-- without a wish: the newest version is installed, where it is newer than each installed one
abbrev pub ChoosesNewest : List (List ℕ) → List (List ℕ) → Choice → Type 0
ChoosesNewest available installed (Install place) = (v : List ℕ) × (slice_get available place ≡ Some v) × IsNewest available installed v
ChoosesNewest available installed Present = ⊥
ChoosesNewest available installed NoneNewer = (v : List ℕ) → ¬ IsNewest available installed v
ChoosesNewest available installed NoSuch = ⊥

-- the version that is wanted: it is installed where it isn't yet and is available
abbrev pub ChoosesWanted : List (List ℕ) → List (List ℕ) → List ℕ → Choice → Type 0
ChoosesWanted available installed v (Install place) = (has_version installed v ≡ false) × (slice_get available place ≡ Some v)
ChoosesWanted available installed v Present = has_version installed v ≡ true
ChoosesWanted available installed v NoneNewer = ⊥
ChoosesWanted available installed v NoSuch = (has_version installed v ≡ false) × (has_version available v ≡ false)

-- what an update does about the available versions and the installed ones, with a version that is wanted or without
abbrev pub Chooses : List (List ℕ) → List (List ℕ) → Option (List ℕ) → Choice → Type 0
Chooses available installed None choice = ChoosesNewest available installed choice
Chooses available installed (Some v) choice = ChoosesWanted available installed v choice

-- a version is newer than the last of some, if there is one
abbrev pub exceeds : List ℕ → Option (List ℕ) → Bool
exceeds v None = true
exceeds v (Some u) = is_gt (version_cmp v u)

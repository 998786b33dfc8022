-- The profile of an attachment, after portablectl(1), option --profile=. That it is always needed, and the order of the directories,
-- is this project's own.
use Rattle.std.specs.Prelude.{◌≡◌, ◌⊎◌, ℕ, false, List, ◌++◌, codes, Option, Some, None}
use Rattle.ext_attributes.specs.Attributes.{OfFile}
use Rattle.ext_tree.specs.Tree.{Entries, lookup}
use Rattle.ext_tree.specs.declared.entry.Entry.TheVariants.{File}
use Rattle.ext_walk.specs.Leads.{LeadsTo}
use Rattle.ext_walk.specs.Walk.{Ends, parts}
use Rattle.ext_host.specs.Held.{HeldFile}
use Rattle.ext_find.specs.Content.{is_file_at}
use Rattle.ext_added.specs.declared.profile.Profile.{Profile}

-- the directories of profiles, the first of which counts most
abbrev pub etc_profiles : List ℕ
etc_profiles = codes "etc/systemd/portable/profile/"

-- the second
abbrev pub run_profiles : List ℕ
run_profiles = codes "run/systemd/portable/profile/"

-- the third
abbrev pub vendor_profiles : List ℕ
vendor_profiles = codes "usr/lib/systemd/portable/profile/"

-- the text of the path of a profile in one of them
abbrev pub profile_text : List ℕ → List ℕ → List ℕ
profile_text directory name = (directory ++ name) ++ codes "/service.conf"

-- names lead to the file of a profile
pub record LeadsToProfile (base : Entries HeldFile) (names : List (List ℕ)) (profile : Profile) : Type 0 where
  pub leads : Ends base names profile.path
  pub attributes : OfFile
  pub stands : lookup base profile.path ≡ Some (File attributes profile.file)

-- the file that stands at a path, or that none does
abbrev pub ProfileWhere : Entries HeldFile → List (List ℕ) → Option Profile → Type 0
ProfileWhere base end None = is_file_at (lookup base end) ≡ false
ProfileWhere base end (Some profile) = (profile.path ≡ end) × ((attributes : OfFile) × (lookup base end ≡ Some (File attributes profile.file)))

-- the profile to which names lead, or that they lead to no file
abbrev pub ProfileIn : Entries HeldFile → List (List ℕ) → Option Profile → Type 0
ProfileIn base names None = ¬ LeadsTo is_file_at base names
ProfileIn base names (Some profile) = LeadsToProfile base names profile

module _ (base : Entries HeldFile) (name : List ℕ) where
  -- that of this name in a directory leads to the file
  abbrev pub IsProfileIn : List ℕ → Profile → Type 0
  IsProfileIn directory profile = LeadsToProfile base (parts (profile_text directory name)) profile

  -- there is none in a directory
  abbrev pub NoProfileIn : List ℕ → Type 0
  NoProfileIn directory = ¬ LeadsTo is_file_at base (parts (profile_text directory name))

  -- the profile of this name: that of the first directory which has one
  abbrev pub IsProfile : Profile → Type 0
  IsProfile profile =
      IsProfileIn etc_profiles profile
      ⊎ ((NoProfileIn etc_profiles × IsProfileIn run_profiles profile)
      ⊎ (NoProfileIn etc_profiles × NoProfileIn run_profiles × IsProfileIn vendor_profiles profile))

  -- no directory has one
  abbrev pub NoProfile : Type 0
  NoProfile = NoProfileIn etc_profiles × NoProfileIn run_profiles × NoProfileIn vendor_profiles

  -- the profile, or that there is none
  abbrev pub ProfileAt : Option Profile → Type 0
  ProfileAt None = NoProfile
  ProfileAt (Some profile) = IsProfile profile

  -- the profile of the directories after the first one, or that they have none
  abbrev pub LaterProfileAt : Option Profile → Type 0
  LaterProfileAt None = NoProfileIn run_profiles × NoProfileIn vendor_profiles
  LaterProfileAt (Some profile) =
      IsProfileIn run_profiles profile ⊎ (NoProfileIn run_profiles × IsProfileIn vendor_profiles profile)

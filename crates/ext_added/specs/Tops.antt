-- Where an attachment puts something, and the directories above. A directory of drop-ins whose name is too long counts for no
-- refusal but that of the limit. This project's own.
use Rattle.std.specs.Prelude.{◌≡◌, ℕ, Bool, true, false, ◌&&◌, if◌then◌else◌, List, [], ◌∷◌, ◌++◌, codes, map}
use Rattle.std.specs.List.{AllByRecursion, filter}
use Rattle.ext_text.specs.Absolute.{absolute}
use Rattle.ext_units.specs.declared.unit_file.UnitFile.{UnitFile}
use Rattle.ext_added.specs.Added.{copies_images, copies_profiles, image_top, is_service, links_units, services, unit_target}
use Rattle.ext_added.specs.Destination.{destination, drop_in_name, fits_name, image_directory, upper_directory}
use Rattle.ext_added.specs.Limits.{fits_text}
use Rattle.ext_added.specs.declared.attaching.Attaching.{Attaching}

-- a service whose drop-ins have a directory of a name within the limit
abbrev pub has_drop_ins : UnitFile → Bool
has_drop_ins unit = is_service unit && fits_name (drop_in_name unit.name)

module _ (attaching : Attaching) where
  -- the path of the image, where it is put
  abbrev pub image_tops : List (List (List ℕ))
  image_tops = if attaching.outside then image_top attaching ∷ [] else []

  -- the paths at which something is put
  abbrev pub tops_of : List (List (List ℕ))
  tops_of =
      (map (λ (unit : UnitFile). destination attaching.runtime ++ unit.name ∷ []) attaching.units
      ++ map (λ (unit : UnitFile). destination attaching.runtime ++ drop_in_name unit.name ∷ []) (filter has_drop_ins attaching.units))
      ++ image_tops

  -- the directory of images, where one is put there
  abbrev pub image_ways : List (List (List ℕ))
  image_ways = if attaching.outside then image_directory attaching.runtime ∷ [] else []

  -- the directories in which something is put, and those above them
  abbrev pub ways_of : List (List (List ℕ))
  ways_of =
      (upper_directory attaching.runtime ∷ []) ∷ (upper_directory attaching.runtime ∷ codes "systemd" ∷ [])
      ∷ destination attaching.runtime ∷ image_ways

  -- the text of the link to a unit is within its limit, where units are linked
  abbrev pub FitsUnit : UnitFile → Type 0
  FitsUnit unit = links_units attaching.copy ≡ true → fits_text (unit_target attaching unit) ≡ true

  -- so is that of the link to the profile, where profiles are linked
  abbrev pub FitsProfile : Type 0
  FitsProfile = copies_profiles attaching.copy ≡ false → fits_text (absolute attaching.profile.path) ≡ true

  -- a service has a directory of drop-ins of a name within the limit, and a profile
  pub record FitsService (unit : UnitFile) : Type 0 where
    pub name : fits_name (drop_in_name unit.name) ≡ true
    pub profile : FitsProfile

  -- the text of the link to the image is within its limit, where images are linked
  abbrev pub FitsImage : Type 0
  FitsImage = copies_images attaching.copy ≡ false → fits_text (absolute attaching.place) ≡ true

  -- where it is put
  abbrev pub FitsOutside : Type 0
  FitsOutside = attaching.outside ≡ true → FitsImage

  -- the names and the texts of links that are made stay within the limits
  pub record FitsAttaching : Type 0 where
    pub units : AllByRecursion FitsUnit attaching.units
    pub services_fit : AllByRecursion FitsService (services attaching.units)
    pub image : FitsOutside

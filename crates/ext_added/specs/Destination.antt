-- Where an attachment is put, after portablectl(1): below `/etc`, or below `/run` where it lasts until the host stops.
use Rattle.std.specs.Prelude.{◌≡◌, ℕ, Bool, true, false, nat_le, if◌then◌else◌, List, [], ◌∷◌, ◌++◌, codes, length, Option, Some, None}

-- `etc`, or `run`
abbrev pub upper_directory : Bool → List ℕ
upper_directory runtime = if runtime then codes "run" else codes "etc"

-- where units go
abbrev pub destination : Bool → List (List ℕ)
destination runtime = upper_directory runtime ∷ codes "systemd" ∷ codes "system.attached" ∷ []

-- where an image goes that stands outside the search directories
abbrev pub image_directory : Bool → List (List ℕ)
image_directory runtime = upper_directory runtime ∷ codes "portables" ∷ []

-- the name of the directory of a unit's drop-ins
abbrev pub drop_in_name : List ℕ → List ℕ
drop_in_name unit = unit ++ codes ".d"

-- a name has at most 255 bytes
abbrev pub fits_name : List ℕ → Bool
fits_name name = nat_le (length name) 255

-- the name of the directory of a unit's drop-ins, or that it is too long
abbrev pub IsDropInName : List ℕ → Option (List ℕ) → Type 0
IsDropInName unit None = fits_name (drop_in_name unit) ≡ false
IsDropInName unit (Some name) = (name ≡ drop_in_name unit) × (fits_name name ≡ true)

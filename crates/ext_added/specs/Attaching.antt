-- What is made of an ask, an image and its units. Outside the search directories is an image at a path whose folder, compared as a
-- path, is none of them. The mode and the owner of a copied image are those of the directory to which its place leads, and octal
-- 755 and root's of the root; that is this project's own.
use Rattle.std.specs.Prelude.{◌≡◌, ℕ, Bool, false, not, ◌&&◌, ◌||◌, if◌then◌else◌, List, [], ◌∷◌, ◌++◌, codes, Option, Some, None}
use Rattle.std.specs.Ordering.{eq_by_cmp}
use Rattle.ext_lines.specs.ByteOrder.{bytes_cmp}
use Rattle.ext_attributes.specs.declared.attributes.Attributes.{Attributes}
use Rattle.ext_attributes.specs.Attributes.{of_mode}
use Rattle.ext_text.specs.Path.{parent, path_text}
use Rattle.ext_tree.specs.Tree.{Entries, lookup}
use Rattle.ext_tree.specs.declared.entry.Entry.{Entry}
use Rattle.ext_tree.specs.declared.entry.Entry.TheVariants.{Dir, Opaque, File, Link, Hide}
use Rattle.ext_walk.specs.Walk.{Ends}
use Rattle.ext_host.specs.Held.{HeldFile}
use Rattle.ext_units.specs.ImageName.{last_name}
use Rattle.ext_units.specs.declared.body.Body.{Body}
use Rattle.ext_units.specs.declared.image.Image.{Image}
use Rattle.ext_units.specs.declared.image.Image.TheVariants.{Named, At}
use Rattle.ext_units.specs.declared.unit_file.UnitFile.{UnitFile}
use Rattle.ext_added.specs.Added.{copies_images}
use Rattle.ext_added.specs.Destination.{image_directory}
use Rattle.ext_added.specs.DropIn.{IsOwn, own_text}
use Rattle.ext_added.specs.declared.ask.Ask.{Ask}
use Rattle.ext_added.specs.declared.ask.CopyMode.{CopyMode}
use Rattle.ext_added.specs.declared.attaching.Attaching.{Attaching}
use Rattle.ext_added.specs.declared.attaching.ImageDirectory.{ImageDirectory}
use Rattle.ext_added.specs.declared.profile.Profile.{Profile}

-- the text is that of a directory in which images of portable services are looked for
abbrev pub is_searched : List ℕ → Bool
is_searched text =
    eq_by_cmp bytes_cmp text (codes "etc/portables")
    || eq_by_cmp bytes_cmp text (codes "run/portables")
    || eq_by_cmp bytes_cmp text (codes "var/lib/portables")
    || eq_by_cmp bytes_cmp text (codes "usr/local/lib/portables")
    || eq_by_cmp bytes_cmp text (codes "usr/lib/portables")

-- the image is named by a path outside of these
abbrev pub is_outside : Image → Bool
is_outside (Named name) = false
is_outside (At path) = not (is_searched (path_text (parent path)))

-- the attributes of a directory, and those of the root
abbrev pub directory_attributes : Option (Entry HeldFile) → Attributes
directory_attributes None = of_mode 493
directory_attributes (Some (Dir attributes)) = attributes
directory_attributes (Some (Opaque attributes)) = attributes
directory_attributes (Some (File attributes held)) = of_mode 493
directory_attributes (Some (Link owner target)) = of_mode 493
directory_attributes (Some Hide) = of_mode 493

-- the directory to which a place leads, and its attributes
pub record IsDirectoryOf (base : Entries HeldFile) (place : List (List ℕ)) (directory : ImageDirectory) : Type 0 where
  pub leads : Ends base place directory.path
  pub attributes : directory.attributes ≡ directory_attributes (lookup base directory.path)

-- the path at which an image is shown to its services: where it stands, or where it is copied to
abbrev pub shown_for : Bool → CopyMode → Bool → List (List ℕ) → List (List ℕ)
shown_for runtime copy outside place =
    if outside && copies_images copy then image_directory runtime ++ last_name place ∷ [] else place

-- what is made of an ask, an image, its units, its profile and further lines of each drop-in
pub record IsAttaching (base : Entries HeldFile) (ask : Ask) (body : Body) (units : List UnitFile) (profile : Profile) (lines : List ℕ)
    (attaching : Attaching) : Type 0 where
  pub runtime : attaching.runtime ≡ ask.runtime
  pub copy : attaching.copy ≡ ask.copy
  pub place : attaching.place ≡ body.place
  pub outside : attaching.outside ≡ is_outside ask.image
  pub leads : Ends base body.place attaching.directory
  pub attributes : attaching.attributes ≡ directory_attributes (lookup base attaching.directory)
  pub profile_is : attaching.profile ≡ profile
  pub own : IsOwn (own_text body.place (shown_for ask.runtime ask.copy (is_outside ask.image) body.place) lines) attaching.own
  pub units_are : attaching.units ≡ units

-- What attaching an image adds, after portablectl(1): each unit below its name; for each service a directory of drop-ins, with the
-- profile and the image in which it runs; and the image, where that stands outside the search directories. The attributes of what is
-- made, that a link's text is a path from the root on, and the table of what is copied are this project's own.
use Rattle.std.specs.Prelude.{ℕ, nat_eq, Bool, true, false, if◌then◌else◌, List, [], ◌∷◌, ◌++◌, codes, map, Option, Some, None}
use Rattle.std.specs.List.{ends_with, filter}
use Rattle.ext_attributes.specs.Attributes.{OfFile, file_of_mode, root_owner}
use Rattle.ext_text.specs.Absolute.{absolute}
use Rattle.ext_tree.specs.Graft.{made}
use Rattle.ext_tree.specs.Tree.{Entries, lookup}
use Rattle.ext_tree.specs.declared.entry.Entry.{Entry}
use Rattle.ext_tree.specs.declared.entry.Entry.TheVariants.{Dir, Opaque, File, Link, Hide}
use Rattle.ext_host.specs.Held.{HeldFile}
use Rattle.ext_units.specs.ImageName.{last_name}
use Rattle.ext_units.specs.declared.unit_file.UnitFile.{UnitFile}
use Rattle.ext_updated.specs.declared.piece.Piece.{Piece}
use Rattle.ext_added.specs.Destination.{destination, drop_in_name, image_directory}
use Rattle.ext_added.specs.declared.ask.CopyMode.{CopyMode}
use Rattle.ext_added.specs.declared.ask.CopyMode.TheVariants as copying
use Rattle.ext_added.specs.declared.attaching.Attaching.{Attaching}

-- units are linked, and not copied
abbrev pub links_units : CopyMode → Bool
links_units copying.Copy = false
links_units copying.Symlink = true
links_units copying.Auto = false
links_units copying.Mixed = false

-- profiles are copied, and not linked
abbrev pub copies_profiles : CopyMode → Bool
copies_profiles copying.Copy = true
copies_profiles copying.Symlink = false
copies_profiles copying.Auto = false
copies_profiles copying.Mixed = false

-- images are copied, and not linked
abbrev pub copies_images : CopyMode → Bool
copies_images copying.Copy = false
copies_images copying.Symlink = false
copies_images copying.Auto = false
copies_images copying.Mixed = true

-- the attributes of made files: root's, with the mode octal 644
abbrev pub made_attributes : OfFile
made_attributes = file_of_mode 420

-- a copied file, with these; nothing else is copied for a unit
abbrev pub copied : Option (Entry HeldFile) → Entry HeldFile
copied None = Hide
copied (Some (Dir attributes)) = Hide
copied (Some (Opaque attributes)) = Hide
copied (Some (File attributes held)) = File made_attributes held
copied (Some (Link owner target)) = Hide
copied (Some Hide) = Hide

-- the name of a service
abbrev pub is_service : UnitFile → Bool
is_service unit = ends_with nat_eq unit.name (codes ".service")

-- the services among units
abbrev pub services : List UnitFile → List UnitFile
services units = filter is_service units

-- the path at which an image that stands outside the search directories is put
abbrev pub image_top : Attaching → List (List ℕ)
image_top attaching = image_directory attaching.runtime ++ last_name attaching.place ∷ []

-- both drop-ins of a service
abbrev pub drop_ins_of : Entry HeldFile → Entry HeldFile → Entries HeldFile
drop_ins_of profile own = (codes "10-profile.conf" ∷ [], profile) ∷ (codes "20-portable.conf" ∷ [], own) ∷ []

module _ (attaching : Attaching) where
  -- the text of the link to a unit: the directory of the image and the unit's path below it
  abbrev pub unit_target : UnitFile → List ℕ
  unit_target unit = absolute (attaching.directory ++ unit.file)

  -- the profile of each service
  abbrev pub profile_entry : Entry HeldFile
  profile_entry = if copies_profiles attaching.copy then File made_attributes attaching.profile.file else Link root_owner (absolute attaching.profile.path)

  -- the drop-ins of each service
  abbrev pub drop_ins : Entries HeldFile
  drop_ins = drop_ins_of profile_entry (File made_attributes attaching.own)

  -- what is put for a service beside its unit
  abbrev pub service_piece : UnitFile → Piece HeldFile
  service_piece unit = record { path = destination attaching.runtime ++ drop_in_name unit.name ∷ []; top = made; part = drop_ins }

  module _ (tree : Entries HeldFile) where
    -- a unit, whose file the tree has
    abbrev pub unit_entry : UnitFile → Entry HeldFile
    unit_entry unit = if links_units attaching.copy then Link root_owner (unit_target unit) else copied (lookup tree unit.file)

    -- what is put for a unit
    abbrev pub unit_piece : UnitFile → Piece HeldFile
    unit_piece unit = record { path = destination attaching.runtime ++ unit.name ∷ []; top = unit_entry unit; part = [] }

  module _ (image : Entries HeldFile) where
    -- the image, copied with all below it, or linked
    abbrev pub image_piece_by : Bool → Piece HeldFile
    image_piece_by true = record { path = image_top attaching; top = Dir attaching.attributes; part = image }
    image_piece_by false = record { path = image_top attaching; top = Link root_owner (absolute attaching.place); part = [] }

    -- by what is copied
    abbrev pub image_piece : Piece HeldFile
    image_piece = image_piece_by (copies_images attaching.copy)

    -- it is put where it stands outside the search directories
    abbrev pub image_pieces : List (Piece HeldFile)
    image_pieces = if attaching.outside then image_piece ∷ [] else []

  -- all that is put: the image's tree and the one in which units were looked for are given
  abbrev pub pieces_of : Entries HeldFile → Entries HeldFile → List (Piece HeldFile)
  pieces_of image tree =
      (map (unit_piece tree) attaching.units ++ map service_piece (services attaching.units)) ++ image_pieces image

-- What each entry is that an attachment puts: a made directory, a link or a file of root's, the file of mode 644 and made or
-- copied, or an entry of the image.
use Rattle.std.specs.Prelude.{◌≡◌, ◌⊎◌, ℕ, true, List, Some}
use Rattle.std.specs.List.{AllByRecursion, list_any}
use Rattle.ext_attributes.specs.Attributes.{IsAttributes, root_owner}
use Rattle.ext_text.specs.Path.{IsPath}
use Rattle.ext_tree.specs.Fields.{IsTarget}
use Rattle.ext_tree.specs.Tree.{Entries, lookup}
use Rattle.ext_tree.specs.declared.entry.Entry.{Entry}
use Rattle.ext_tree.specs.declared.entry.Entry.TheVariants.{Dir, Opaque, File, Link, Hide}
use Rattle.ext_host.specs.Drawn.{HasFile}
use Rattle.ext_host.specs.Held.{HeldFile}
use Rattle.ext_units.specs.declared.unit_file.UnitFile.{UnitFile}
use Rattle.ext_updated.specs.declared.piece.Piece.{Piece}
use Rattle.ext_added.specs.Added.{is_service, made_attributes}
use Rattle.ext_added.specs.declared.attaching.Attaching.{Attaching}

-- the paths that links name are paths, and the attributes of the image are in their ranges
pub record IsWellMade (attaching : Attaching) : Type 0 where
  pub directory : IsPath attaching.directory
  pub files : AllByRecursion (λ (unit : UnitFile). IsPath unit.file) attaching.units
  pub profile : IsPath attaching.profile.path
  pub place : IsPath attaching.place
  pub attributes : IsAttributes attaching.attributes

module _ (attaching : Attaching) (image tree : Entries HeldFile) where
  -- the drop-in that names the image, where there is a service; the profile; or a file of the tree in which units were looked for
  abbrev pub IsAddedFile : HeldFile → Type 0
  IsAddedFile held =
      ((held ≡ attaching.own) × (list_any is_service attaching.units ≡ true))
      ⊎ ((held ≡ attaching.profile.file) ⊎ HasFile tree held)

  -- a made directory, a link, or such a file
  abbrev pub IsMadeEntry : Entry HeldFile → Type 0
  IsMadeEntry (Dir attributes) = IsAttributes attributes
  IsMadeEntry (Opaque attributes) = ⊥
  IsMadeEntry (File attributes held) = (attributes ≡ made_attributes) × IsAddedFile held
  IsMadeEntry (Link owner target) = (owner ≡ root_owner) × IsTarget target
  IsMadeEntry Hide = ⊥

  -- such an entry, or one of the image
  abbrev pub IsAddedEntry : Entry HeldFile → Type 0
  IsAddedEntry e = IsMadeEntry e ⊎ ((path : List (List ℕ)) × (lookup image path ≡ Some e))

  -- a piece of such entries
  pub record IsAddedPiece (piece : Piece HeldFile) : Type 0 where
    pub top : IsAddedEntry piece.top
    pub part : (path : List (List ℕ)) (e : Entry HeldFile) → lookup piece.part path ≡ Some e → IsAddedEntry e

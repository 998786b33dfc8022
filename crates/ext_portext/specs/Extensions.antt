-- The extensions of a portable service, in the order in which they are given: all of them fit, or what is wrong with the first that
-- doesn't. Places in their list are counted from 0.
use Rattle.std.specs.Prelude.{◌≡◌, ℕ, List, [], ◌∷◌, ◌++◌, length, Option, Some, None}
use Rattle.std.specs.FinMap.{FinMap}
use Rattle.ext_lines.specs.ByteOrder.{bytes_cmp}
use Rattle.ext_tree.specs.Tree.{Entries}
use Rattle.ext_host.specs.Held.{HeldFile}
use Rattle.ext_host.specs.Shelf.{Told}
use Rattle.ext_host.specs.declared.host.Host.{Host}
use Rattle.ext_find.specs.declared.found.BreakWhy.{BreakWhy}
use Rattle.ext_units.specs.Body.{IsTreeOf}
use Rattle.ext_units.specs.ImageName.{image_name}
use Rattle.ext_units.specs.declared.image.Image.{Image}
use Rattle.ext_port.specs.declared.errors.PortErr.TheVariants as port_errors
use Rattle.ext_portext.specs.Extension.{IsExtensionAt, IsNoExtension}
use Rattle.ext_portext.specs.Judged.{ExtensionFileFails, FitsAs}
use Rattle.ext_portext.specs.declared.errors.ExtWhy.{ExtWhy}
use Rattle.ext_portext.specs.declared.errors.PortExtErr.{PortExtErr}
use Rattle.ext_portext.specs.declared.errors.PortExtErr.TheVariants as errors
use Rattle.ext_portext.specs.declared.extending.Extending.{Extending}

module _ (told : HeldFile → Told) (host : Host) (base : Entries HeldFile) (release : FinMap bytes_cmp (List ℕ)) where
  -- the extension is there with this tree, and fits, or why it doesn't
  pub record IsExtending (image : Image) (extending : Extending) (why : Option ExtWhy) : Type 0 where
    pub broken : Option BreakWhy
    pub at_place : IsExtensionAt host base image extending.place broken
    pub is_tree : IsTreeOf base extending.place extending.tree
    pub fits : FitsAs release host.arch told extending.tree (image_name image) broken why

  -- each of the images is there and fits
  abbrev pub AreExtending : List Image → List Extending → Type 0
  AreExtending [] [] = Unit {0}
  AreExtending [] (extending ∷ all) = ⊥
  AreExtending (image ∷ images) [] = ⊥
  AreExtending (image ∷ images) (extending ∷ all) = IsExtending image extending None × AreExtending images all

  module _ (old new : ℕ) where
    -- what is wrong with the extension at this place in the list
    abbrev pub ExtensionFails : ℕ → Image → PortExtErr → Type 0
    ExtensionFails at image (errors.Port (port_errors.Shelf e)) =
        (extending : Extending) × IsExtensionAt host base image extending.place None × IsTreeOf base extending.place extending.tree
        × ExtensionFileFails told old new extending.tree (image_name image) e
    ExtensionFails at image (errors.NoExtension index) = (index ≡ at) × IsNoExtension host base image
    ExtensionFails at image (errors.Extension index why) =
        (index ≡ at) × ((extending : Extending) × IsExtending image extending (Some why))
    ExtensionFails at image e = ⊥

    -- what is wrong with the first of the images that is not there, or does not fit
    pub record FirstFails (images : List Image) (e : PortExtErr) : Type 0 where
      pub before : List Image
      pub image : Image
      pub after : List Image
      pub among : images ≡ before ++ image ∷ after
      pub fitting : List Extending
      pub fit : AreExtending before fitting
      pub fails : ExtensionFails (length before) image e

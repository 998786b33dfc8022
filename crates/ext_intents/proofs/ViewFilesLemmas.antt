-- The release files that are read for a view are files of the host.
use Rattle.std.proofs.Common.{◌≡◌, ℕ, zero, ◌++◌, ◌∷◌, List, [], true, false, if◌then◌else◌, Some, None, inl, inr, refl, sym, ◌∙◌, arith}
use Rattle.ext_attributes.specs.Attributes.{OfFile}
use Rattle.ext_text.specs.declared.extension.Extension.{Extension}
use Rattle.ext_tree.specs.Part.{part}
use Rattle.ext_tree.specs.Tree.{Entries, lookup}
use Rattle.ext_tree.specs.declared.entry.Entry.TheVariants.{File}
use Rattle.ext_tree.proofs.ForCallers.{lookup_part, root_part}
use Rattle.ext_host.specs.Drawn.{IsFileOf, trees_of}
use Rattle.ext_host.specs.Held.{HeldFile}
use Rattle.ext_host.specs.Host.{hierarchies_in, is_in, merged_hierarchies, present}
use Rattle.ext_host.specs.declared.host.Host.{Host}
use Rattle.ext_host.specs.Planning.{IsBaseTree}
use Rattle.ext_find.specs.HostRelease.{IsReleaseFile}
use Rattle.ext_view.specs.Image.{HasReleaseFile}
use Rattle.ext_view.specs.Surveying.{IsRead}

-- a file of the base is one of what is seen or of what lies under the view
pub base_file : (host : Host) (base : Entries HeldFile) (path : List (List ℕ)) (attributes : OfFile) (held : HeldFile) → IsBaseTree host base → lookup base path ≡ Some (File attributes held) → IsFileOf (trees_of host) held
base_file host base path attributes held is found =
    elim (is_in (merged_hierarchies (hierarchies_in host) (present host)) path) as (λ b. lookup base path ≡ (if b then lookup host.lower path else lookup host.root path) → IsFileOf (trees_of host) held) [
      | true ↦ λ same. record { tree = host.lower; among = (1, omega arith, refl); file = record { path = path; attributes = attributes; stands = sym same ∙ found } }
      | false ↦ λ same. record { tree = host.root; among = (zero, omega arith, refl); file = record { path = path; attributes = attributes; stands = sym same ∙ found } }
    ] (is.is_base path)

-- and so is a file of an image in the base
part_file : (host : Host) (base : Entries HeldFile) (image path : List (List ℕ)) (attributes : OfFile) (held : HeldFile) → IsBaseTree host base → lookup (part image base) path ≡ Some (File attributes held) → IsFileOf (trees_of host) held
part_file host base image [] attributes held is found =
    let none : None ≡ Some (File attributes held) = sym (root_part image base) ∙ found in
    cc
part_file host base image (n ∷ path) attributes held is found = base_file host base (image ++ n ∷ path) attributes held is (sym (lookup_part image n path base) ∙ found)

pub host_file : (host : Host) (base : Entries HeldFile) (held : HeldFile) → IsBaseTree host base → IsReleaseFile base held → IsFileOf (trees_of host) held
host_file host base held is (inl (end, attributes, leads, found)) = base_file host base end attributes held is found
host_file host base held is (inr (none, (end, attributes, leads, found))) = base_file host base end attributes held is found

pub image_file : (host : Host) (base : Entries HeldFile) (class : Extension) (place : List (List ℕ)) (name : List ℕ) (held : HeldFile) → IsBaseTree host base → HasReleaseFile base class place name held → IsFileOf (trees_of host) held
image_file host base class place name held is has =
    let file = has.file in
    part_file host base has.image file.0 file.1 held is file.3

pub read_file : (host : Host) (base : Entries HeldFile) (class : Extension) (held : HeldFile) → IsBaseTree host base → IsRead host base class held → IsFileOf (trees_of host) held
read_file host base class held is (inl file) = host_file host base held is file
read_file host base class held is (inr image) = image_file host base class image.item.place image.item.name held is image.is_file

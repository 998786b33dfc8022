-- What the resources of an update are, whatever the depot tells.
use Rattle.std.specs.Prelude.{◌≡◌, ℕ, List, map, length}
use Rattle.std.specs.List.{AllByRecursion}
use Rattle.sha2.specs.Sha256.{sha256}
use Rattle.ext_tree.specs.Fields.{IsStamp}
use Rattle.ext_tree.specs.TreeText.{HasText, tree_text}
use Rattle.ext_transfer.specs.declared.transfer.ResourceType.{ResourceType}
use Rattle.ext_transfer.specs.declared.transfer.ResourceType.TheVariants as types
use Rattle.ext_transfer.specs.declared.transfer.Transfer.{Transfer}
use Rattle.ext_available.specs.declared.offer.Offer.{Offer}
use Rattle.ext_installed.specs.declared.instance.Instance.{Instance}
use Rattle.ext_resources.specs.declared.resource.Content.{Content}
use Rattle.ext_resources.specs.declared.resource.Content.TheVariants.{File, Directory}
use Rattle.ext_resources.specs.declared.resource.Resource.{Resource}
use Rattle.ext_resources.specs.Wanted.{IsOffer, first_filled, lacking_places, resource_path}

-- the content is of a type and has a digest, in the ranges of a tree's text: a file by its stamp, a directory by the text of its tree
abbrev pub HasDigest : ResourceType → List ℕ → Content → Type 0
HasDigest types.File digest (File stamp) = IsStamp stamp × (stamp.digest.0 ≡ digest)
HasDigest types.File digest (Directory tree) = ⊥
HasDigest types.Directory digest (File stamp) = ⊥
HasDigest types.Directory digest (Directory tree) = HasText tree × (sha256 (tree_text tree) ≡ digest)

-- the resource is that of the version for its transfer: by the source's offer, under the name that the first of the target's patterns
-- makes of the version and the listed digest
pub record IsResource (transfers : List Transfer) (sources : List (List Offer)) (version : List ℕ) (resource : Resource) : Type 0 where
  pub transfer : Transfer
  pub offer : Offer
  pub offered : IsOffer transfers sources version resource.transfer transfer offer
  pub name : resource.name ≡ first_filled transfer.target.patterns version offer.digest.0
  pub source : resource.source ≡ resource_path transfer offer
  pub content : HasDigest transfer.resources offer.digest.0 resource.content

-- one resource for each transfer that has no instance of the version, in the order of the transfers
pub record AreResources (transfers : List Transfer) (sources : List (List Offer)) (items : List Instance) (version : List ℕ)
    (resources : List Resource) : Type 0 where
  pub places : map (λ (resource : Resource). resource.transfer) resources ≡ lacking_places items version (length transfers)
  pub each : AllByRecursion (IsResource transfers sources version) resources

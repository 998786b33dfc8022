-- What the depot tells of the resources that an update takes, or why they can't be taken. The transfers are looked at one after
-- another, and the first whose resource can't be taken decides. That, and the order of the reasons, is this project's own: what is
-- listed has to be in the depot, a file within the limit of a file, and a directory's text within that of a text, of the digest that
-- is listed, and the text of one tree.
use Rattle.std.specs.Prelude.{◌≡◌, ◌≢◌, ◌⊎◌, ℕ, nat_le, if◌then◌else◌, List, [], ◌∷◌, length, Option, Some, None, IfSome, Result, Ok, Err}
use Rattle.std.specs.List.{AllZip}
use Rattle.std.specs.Option.{option_map}
use Rattle.sha2.specs.Sha256.{sha256}
use Rattle.ext_text.specs.Causes.{Rose}
use Rattle.ext_text.specs.declared.digest.Digest.{Digest}
use Rattle.ext_depot.specs.Depot.{Files}
use Rattle.ext_depot.specs.DepotText.{IsTextIn}
use Rattle.ext_depot.specs.declared.depot_err.DepotErr.{DepotErr}
use Rattle.ext_depot.specs.declared.depot_err.DepotErr.TheVariants as depot_errors
use Rattle.ext_depot.specs.declared.depot_text.DepotText.{DepotText}
use Rattle.ext_depot.specs.declared.depot_text.DepotText.TheVariants as found
use Rattle.ext_tree.specs.FirstFault.{IsFirstFault, IsOne}
use Rattle.ext_tree.specs.Tree.{Entries}
use Rattle.ext_tree.specs.TreeText.{IsTreeText}
use Rattle.ext_tree.specs.declared.stamp.Stamp.{Stamp}
use Rattle.ext_transfer.specs.declared.transfer.ResourceType.{ResourceType}
use Rattle.ext_transfer.specs.declared.transfer.ResourceType.TheVariants as types
use Rattle.ext_transfer.specs.declared.transfer.Transfer.{Transfer}
use Rattle.ext_available.specs.declared.offer.Offer.{Offer}
use Rattle.ext_installed.specs.declared.instance.Instance.{Instance}
use Rattle.ext_resources.specs.declared.resource.Content.{Content}
use Rattle.ext_resources.specs.declared.resource.Content.TheVariants.{File, Directory}
use Rattle.ext_resources.specs.declared.resource.Resource.{Resource}
use Rattle.ext_resources.specs.declared.resource_err.ResourceErr.{ResourceErr}
use Rattle.ext_resources.specs.declared.resource_err.ResourceErr.TheVariants.{OutOfMemory, Fault, NotInDepot, FileTooLarge, TextTooLong, Mismatch, BadTree}
use Rattle.ext_resources.specs.Wanted.{IsOffer, first_filled, lacking_places, listed_path, resource_path}

-- the most bytes of a file
abbrev pub most_file : ℕ
most_file = 1073741824

-- the size of the file at a path of these files, where they are told; None where none stands there
abbrev pub IsSizeIn : Option Files → List (List ℕ) → Option ℕ → Type 0
IsSizeIn files path size = IfSome files (λ has. size ≡ option_map length (has path))

-- what a size that was found tells of a file of the listed digest
abbrev pub file_content : List (List ℕ) → Digest → Option ℕ → Result Content ResourceErr
file_content path digest None = Err (NotInDepot path)
file_content path digest (Some size) =
    if nat_le size most_file then Ok (File (record { size = size; digest = digest })) else Err (FileTooLarge path)

-- what a text of the listed digest tells: its tree, or its first faulty line
abbrev pub TellsTree : List (List ℕ) → List ℕ → Result Content ResourceErr → Type 0
TellsTree path bytes told =
    ((tree : Entries Stamp) × IsTreeText bytes tree × (told ≡ Ok (Directory tree)))
    ⊎ ((line : ℕ) × IsFirstFault IsOne bytes line × (told ≡ Err (BadTree path line)))

-- that a text has another digest than the listed one
abbrev pub mismatch : List (List ℕ) → Digest → List ℕ → ResourceErr
mismatch path digest bytes =
    Mismatch path (record { size = length bytes; digest = digest }) (record { size = length bytes; digest = record { 0 = sha256 bytes } })

-- what a text that was found tells of a directory of the listed digest
abbrev pub TellsDirectory : List (List ℕ) → Digest → DepotText → Result Content ResourceErr → Type 0
TellsDirectory path digest found.Absent told = told ≡ Err (NotInDepot path)
TellsDirectory path digest found.TooLong told = told ≡ Err (TextTooLong path)
TellsDirectory path digest (found.Whole bytes) told =
    ((sha256 bytes ≡ digest.0) × TellsTree path bytes told) ⊎ ((sha256 bytes ≢ digest.0) × (told ≡ Err (mismatch path digest bytes)))

-- what the depot tells of what is listed at a path with a digest: a file, or the text of a directory's tree
abbrev pub IsContentTold : ResourceType → Option Files → List (List ℕ) → Digest → Result Content ResourceErr → Type 0
IsContentTold types.File files path digest told = (size : Option ℕ) × IsSizeIn files path size × (told ≡ file_content path digest size)
IsContentTold types.Directory files path digest told = (text : DepotText) × IsTextIn files path text × TellsDirectory path digest text told

-- the resource of a content, or why there is none
abbrev pub resource_with : ℕ → Transfer → Offer → List ℕ → Result Content ResourceErr → Result Resource ResourceErr
resource_with place transfer offer version (Ok content) = Ok (record {
  transfer = place;
  name = first_filled transfer.target.patterns version offer.digest.0;
  source = resource_path transfer offer;
  content = content;
})
resource_with place transfer offer version (Err e) = Err e

-- what the depot tells of the resource of an offer, for the transfer at a place
abbrev pub IsOfferTold : Option Files → ℕ → Transfer → Offer → List ℕ → Result Resource ResourceErr → Type 0
IsOfferTold files place transfer offer version told =
    (content : Result Content ResourceErr) × IsContentTold transfer.resources files (listed_path transfer offer) offer.digest content
    × (told ≡ resource_with place transfer offer version content)

-- what the depot tells of the resource of the version for the transfer at a place
abbrev pub TellsResource : Option Files → List Transfer → List (List Offer) → List ℕ → ℕ → Result Resource ResourceErr → Type 0
TellsResource files transfers sources version place told =
    (transfer : Transfer) × (offer : Offer) × IsOffer transfers sources version place transfer offer
    × IsOfferTold files place transfer offer version told

-- the first of some places of which an error is told: a resource is told of each before it
abbrev pub IsFirstUntaken : (ℕ → Result Resource ResourceErr → Type 0) → List ℕ → ResourceErr → Type 0
IsFirstUntaken Told [] e = ⊥
IsFirstUntaken Told (place ∷ places) e = Told place (Err e) ⊎ ((resource : Resource) × Told place (Ok resource) × IsFirstUntaken Told places e)

-- what is told of places one after another: a resource of each, or the first error
abbrev pub AreToldAt : (ℕ → Result Resource ResourceErr → Type 0) → List ℕ → Result (List Resource) ResourceErr → Type 0
AreToldAt Told places (Ok resources) = AllZip (λ place resource. Told place (Ok resource)) places resources
AreToldAt Told places (Err e) = IsFirstUntaken Told places e

-- what the depot tells of the resources of the version for the transfers that have no instance of it
abbrev pub TellsResources : Option Files → List Transfer → List (List Offer) → List Instance → List ℕ → Result (List Resource) ResourceErr → Type 0
TellsResources files transfers sources items version result =
    AreToldAt (TellsResource files transfers sources version) (lacking_places items version (length transfers)) result

-- an error is one that the depot tells; memory may run out and the depot may fail at any time
abbrev pub IfToldReason : (ResourceErr → Type 0) → ResourceErr → Type 0
IfToldReason told OutOfMemory = Unit {0}
IfToldReason told Fault = Unit {0}
IfToldReason told (NotInDepot path) = told (NotInDepot path)
IfToldReason told (FileTooLarge path) = told (FileTooLarge path)
IfToldReason told (TextTooLong path) = told (TextTooLong path)
IfToldReason told (Mismatch path listed read) = told (Mismatch path listed read)
IfToldReason told (BadTree path line) = told (BadTree path line)

-- what an error of the depot is
abbrev pub reason_of : DepotErr → ResourceErr
reason_of depot_errors.Fault = Fault
reason_of depot_errors.OutOfMemory = OutOfMemory

-- why there are no resources: a fault is told only where the depot had one
abbrev pub ResourceCause : ℕ → ℕ → ResourceErr → Type 0
ResourceCause before after OutOfMemory = Unit {0}
ResourceCause before after Fault = Rose before after
ResourceCause before after (NotInDepot path) = Unit {0}
ResourceCause before after (FileTooLarge path) = Unit {0}
ResourceCause before after (TextTooLong path) = Unit {0}
ResourceCause before after (Mismatch path listed read) = Unit {0}
ResourceCause before after (BadTree path line) = Unit {0}

-- What the commands that read a depot make of what a run published there.
use Rattle.std.specs.Prelude.{◌≡◌, ℕ, List, Option, Some, None, Result, Ok, Err}
use Rattle.ext_tree.specs.TreeText.{HasText}
use Rattle.ext_tree.specs.Tree.{Entries, IsTree}
use Rattle.ext_depot.specs.Depot.{Files}
use Rattle.ext_host.specs.DepotBodies.{from_depot}
use Rattle.ext_host.specs.Drawn.{HasFile}
use Rattle.ext_host.specs.Held.{HeldFile, IsStampOf}
use Rattle.ext_host.specs.Stamped.{stamps}
use Rattle.ext_host.specs.Valid.{IsValidHost}
use Rattle.ext_host.specs.declared.body.Body.TheVariants.{Depot}
use Rattle.ext_host.specs.declared.host.Host.{Host}
use Rattle.ext_sums.specs.Manifest.{IsManifest}
use Rattle.ext_sums.specs.Sums as listing
use Rattle.ext_transfer.specs.declared.transfer.ResourceType.{ResourceType}
use Rattle.ext_transfer.specs.declared.transfer.ResourceType.TheVariants as types
use Rattle.ext_transfer.specs.declared.transfer.Transfer.{Transfer}
use Rattle.ext_available.specs.Available.{IsOffered}
use Rattle.ext_available.specs.Reading.{IsTold}
use Rattle.ext_available.specs.Resource.{IsCandidate, IsReadAs}
use Rattle.ext_available.specs.declared.offer.Offer.{Offer}
use Rattle.ext_available.specs.declared.offers_err.OffersErr.{OffersErr}
use Rattle.ext_intents.specs.Import.{ImportWants, TreeWants}
use Rattle.ext_intents.specs.declared.intent.Intent.{Intent}
use Rattle.ext_published.specs.Asked.{AskedOf, IsPublishAsk}
use Rattle.ext_published.specs.Payload.{GivesPayload, HasHeldFileAt}
use Rattle.ext_published.specs.Places.{published_manifest_path, published_resource_path}
use Rattle.ext_published.specs.Published.{IsPublished, IsPublishedTree}
use Rattle.ext_published.specs.declared.payload.Payload.{Payload}
use Rattle.ext_published.specs.declared.payload.Payload.TheVariants.{Directory, File}
use Rattle.ext_publish.specs.Stops.{listed_digest}

-- a directory of a valid host, with all below it, has a text
abbrev pub PublishedHasText : Type 0
PublishedHasText =
    (host : Host) (path : List (List ℕ)) (tree : Entries HeldFile) → IsValidHost host → IsTree host.root
    → GivesPayload host.root path (Ok (Directory tree)) → HasText (stamps tree)

-- what an import of the resource wants of a host is what it wants of the tree that was published of another, whatever the path
abbrev pub ImportTakes : Type 0
ImportTakes =
    (c : Files) (asked : AskedOf) (from : Host) (at : List (List ℕ)) (tree : Entries HeldFile) (bytes_of : HeldFile → List ℕ)
    → IsValidHost from → IsTree from.root → GivesPayload from.root at (Ok (Directory tree)) → IsPublishedTree c asked tree bytes_of
    → (host : Host) (path : List (List ℕ)) (intent : Intent) → ImportWants host (Some c) (published_resource_path asked) path intent
    → TreeWants host (published_resource_path asked) path (stamps tree) intent

-- each file that comes from the depot by that tree is there, with its stamp
abbrev pub ImportedFilesStand : Type 0
ImportedFilesStand =
    (c : Files) (asked : AskedOf) (tree : Entries HeldFile) (bytes_of : HeldFile → List ℕ) → IsPublishedTree c asked tree bytes_of
    → ((path : List (List ℕ)) (held : HeldFile) → HasHeldFileAt tree path held → IsStampOf (bytes_of held) held.stamp)
    → (held : HeldFile) → HasFile (from_depot (published_resource_path asked) (stamps tree)) held
    → (path : List (List ℕ)) × (bytes : List ℕ) × (held.body ≡ Depot path) × (c path ≡ Some bytes) × IsStampOf bytes held.stamp

-- the type of a transfer whose resources are such
abbrev pub type_of_payload : Payload → ResourceType
type_of_payload (Directory tree) = types.Directory
type_of_payload (File held) = types.File

-- of what the manifest lists there, this resource alone is one of the version
abbrev pub IsAloneOf : Files → AskedOf → Transfer → List ℕ → Type 0
IsAloneOf c asked transfer version =
    (text : List ℕ) (sums : listing.Entries) → c (published_manifest_path asked) ≡ Some text → IsManifest text sums → (name digest : List ℕ) → IsCandidate sums transfer version name digest → name ≡ asked.name

-- the transfer's source is the folder, its resources are of the type, and its patterns read the name as the version
pub record IsTakenBy (c : Files) (asked : AskedOf) (payload : Payload) (bytes_of : HeldFile → List ℕ) (transfer : Transfer) (version : List ℕ) : Type 0 where
  pub source : transfer.source.path ≡ asked.folder
  pub type : transfer.resources ≡ type_of_payload payload
  pub reads : IsReadAs transfer version asked.name (listed_digest payload bytes_of)
  pub alone : IsAloneOf c asked transfer version

-- what a source offers, and the version among it; no error
abbrev pub OffersVersion : List ℕ → Result (List Offer) OffersErr → Type 0
OffersVersion version (Ok offers) = IsOffered version offers
OffersVersion version (Err e) = ⊥

-- whatever is told of the transfer's source, the version is offered there
abbrev pub UpdateTakes : Type 0
UpdateTakes =
    (c : Files) (asked : AskedOf) (payload : Payload) (bytes_of : HeldFile → List ℕ) (transfer : Transfer) (version : List ℕ) → IsPublishAsk asked → IsPublished c asked payload bytes_of
    → IsTakenBy c asked payload bytes_of transfer version → (told : Result (List Offer) OffersErr) → IsTold (Some c) transfer told → OffersVersion version told

-- What is written, before it is known whether it fits, and what the code finds out of it.
use Rattle.std.specs.Prelude.{◌≡◌, ◌≢◌, ℕ, ◌<◌, Bool, true, false, not, ◌&&◌, ◌==◌, if◌then◌else◌, List, [], ◌∷◌, ◌++◌, map, length, slice_get, Option, Some, None, IsUtf8}
use Rattle.std.specs.List.{AllByRecursion, AllPass, AllZip, find, flat_map, list_any, range_with_len}
use Rattle.std.specs.List.Sorted.{IsPermutation, IsSortedByKey}
use Rattle.std.specs.Option.{option_map, option_or}
use Rattle.ext_lines.specs.Plain.{is_plain_byte}
use Rattle.ext_text.specs.Path.{path_cmp}
use Rattle.ext_text.specs.Prefix.{parent}
use Rattle.ext_text.specs.SortedPaths.{has_below}
use Rattle.ext_tree.specs.Tree.{Entries, is_directory}
use Rattle.ext_tree.specs.EntryLine.{IsWritable}
use Rattle.ext_tree.specs.Fields.{IsStamp}
use Rattle.ext_tree.specs.TreeText.{AreWritable}
use Rattle.ext_tree.specs.declared.entry.Entry.{Entry}
use Rattle.ext_tree.specs.declared.entry.Entry.TheVariants as entries
use Rattle.ext_host.specs.Held.{HeldFile}
use Rattle.ext_host.specs.Touch.{untouched_all}
use Rattle.ext_host.specs.Valid.{held_form}
use Rattle.ext_host.specs.declared.body.Body.TheVariants.{Kept}
use Rattle.ext_host.specs.declared.home.Home.{Home}
use Rattle.ext_host.specs.declared.host.Host.{Host}
use Rattle.ext_host.specs.declared.manifest.Manifest.{Manifest}
use Rattle.ext_transfer.specs.declared.transfer.Transfer.{Transfer}
use Rattle.ext_installed.specs.declared.instance.Instance.{Instance}
use Rattle.ext_choice.specs.declared.division.Division.{Division}
use Rattle.ext_resources.specs.declared.resource.Content.{Content}
use Rattle.ext_resources.specs.declared.resource.Content.TheVariants as contents
use Rattle.ext_resources.specs.declared.resource.Resource.{Resource}
use Rattle.ext_updated.specs.Manifests.{IsManifestAt}
use Rattle.ext_updated.specs.declared.items.Items.{Items}
use Rattle.ext_updated.specs.declared.piece.Piece.{Piece}
use Rattle.ext_update.specs.Stages.{FilesFit, LinkFits, Writes, is_within_limits, items_of, touched_by}
use Rattle.ext_update.specs.Writing.{first_instance, link_piece, file_mode_of, content_part, top_of}
use Rattle.ext_update.specs.declared.draft.Arrival.{Arrival}
use Rattle.ext_update.specs.declared.draft.Current.{Current}
use Rattle.ext_update.specs.declared.draft.Current.TheVariants.{Had, Written}
use Rattle.ext_update.specs.declared.draft.CurrentLink.{CurrentLink}
use Rattle.ext_update.specs.declared.draft.Draft.{Draft}

-- where a resource goes
abbrev pub arrives_at : Arrival → List (List ℕ)
arrives_at arrival = arrival.target ++ arrival.name ∷ []

-- what is put there
abbrev pub arrival_piece : Arrival → Piece HeldFile
arrival_piece arrival = record {
  path = arrives_at arrival;
  top = top_of arrival.mode arrival.source arrival.content;
  part = content_part arrival.source arrival.content;
}

-- the path that a link names
abbrev pub current_path : List (List ℕ) → Current → List (List ℕ)
current_path target (Had path) = path
current_path target (Written name) = target ++ name ∷ []

-- what is put where a link is set
abbrev pub current_piece : CurrentLink → Piece HeldFile
current_piece link = link_piece link.target (current_path link.target link.current) link.path

-- what is written, and with it what goes and what stays
abbrev pub writes_with : Draft → List (List (List ℕ)) → List (List (List ℕ)) → Writes
writes_with draft removed staying = record {
  resources = map arrival_piece draft.arrivals.items;
  links = map current_piece draft.links.items;
  removed = removed;
  staying = staying;
}

-- the target of a transfer, which is the root where no transfer is
abbrev pub target_of : Option Transfer → List (List ℕ)
target_of None = []
target_of (Some transfer) = transfer.target.path

-- a resource with where it goes
abbrev pub arrival_of : List Transfer → Resource → Arrival
arrival_of transfers resource = record {
  target = target_of (slice_get transfers resource.transfer);
  name = resource.name;
  mode = file_mode_of (slice_get transfers resource.transfer);
  source = resource.source;
  content = resource.content;
}

-- a resource is one of the transfers'
abbrev pub IsOfTransfer : List Transfer → Resource → Type 0
IsOfTransfer transfers resource = resource.transfer < length transfers

-- the name of the first of some resources that is one of the transfer at a place
abbrev pub first_name : List Resource → ℕ → Option (List ℕ)
first_name [] place = None
first_name (resource ∷ resources) place = if resource.transfer == place then Some resource.name else first_name resources place

-- what the link of the transfer at a place names
abbrev pub current_at : List Instance → List Resource → List ℕ → ℕ → Option Current
current_at items resources version place =
    option_or (option_map Had (first_instance items version place)) (option_map Written (first_name resources place))

-- something at one place alone
abbrev pub only : ℕ → Current → ℕ → Option Current
only place current other = if place == other then Some current else None

-- the link of a transfer, where one is to be set and there is something that it names
abbrev pub link_with : List (List ℕ) → Option (List (List ℕ)) → Option Current → List CurrentLink
link_with target None current = []
link_with target (Some path) None = []
link_with target (Some path) (Some current) = record { path = path; target = target; current = current } ∷ []

-- the link of a transfer to what is current, where it sets one and something is
abbrev pub link_if : Transfer → Option Current → List CurrentLink
link_if transfer current = link_with transfer.target.path transfer.link current

-- that of the transfer at a place, if there is one
abbrev pub set_link_at : Option Transfer → Option Current → List CurrentLink
set_link_at None current = []
set_link_at (Some transfer) current = link_if transfer current

-- the links of the first transfers, so many of them
abbrev pub first_links : List Transfer → List Instance → List Resource → List ℕ → ℕ → List CurrentLink
first_links transfers items resources version count =
    flat_map (λ place. set_link_at (slice_get transfers place) (current_at items resources version place)) (range_with_len 0 count)

-- the links of all transfers
abbrev pub links_of : List Transfer → List Instance → List Resource → List ℕ → List CurrentLink
links_of transfers items resources version = first_links transfers items resources version (length transfers)

-- the path, where it is within the limits
abbrev pub IsPathWithin : List (List ℕ) → Option (List (List ℕ)) → Type 0
IsPathWithin path None = is_within_limits path ≡ false
IsPathWithin path (Some within) = (within ≡ path) × (is_within_limits path ≡ true)

-- the items of what is written, with what goes and what stays
pub record AreItems (draft : Draft) (division : Division) (items : Items) : Type 0 where
  pub same : items ≡ items_of (writes_with draft division.removed division.staying)
  pub removed : items.removed ≡ division.removed
  pub staying : items.staying ≡ division.staying

-- the same paths, whatever is tested of them
abbrev pub Holds : List (List (List ℕ)) → List (List (List ℕ)) → Type 0
Holds paths sorted = (test : List (List ℕ) → Bool) → list_any test sorted ≡ list_any test paths

-- the paths that items touch
abbrev pub Touches : Items → List (List (List ℕ)) → Type 0
Touches items paths = Holds (touched_by items) paths

-- the directories of what is written
abbrev pub directories_of : Draft → List (List (List ℕ))
directories_of draft =
    map (λ (arrival : Arrival). arrival.target) draft.arrivals.items ++ map (λ (link : CurrentLink). parent link.path) draft.links.items

-- an entry that is no directory stands at or above one of the directories
abbrev pub is_blocking : List (List (List ℕ)) → List (List ℕ) × Entry HeldFile → Bool
is_blocking directories pair = not (is_directory pair.1) && has_below directories pair.0

-- the path of the first entry that does
abbrev pub least_blocking : Entries HeldFile → List (List (List ℕ)) → Option (List (List ℕ))
least_blocking es directories = option_map (λ (pair : List (List ℕ) × Entry HeldFile). pair.0) (find (is_blocking directories) es)

-- a content in the ranges of a tree's text
abbrev pub IsContent : Content → Type 0
IsContent (contents.File stamp) = IsStamp stamp
IsContent (contents.Directory tree) = AreWritable tree

-- the content of what arrives is one
abbrev pub HasContent : Arrival → Type 0
HasContent arrival = IsContent arrival.content

-- a link is set below the root and names something below the root
pub record IsSet (link : CurrentLink) : Type 0 where
  pub path : link.path ≢ []
  pub current : current_path link.target link.current ≢ []

-- what the text of a link is, apart from its length
pub record IsLinkText (text : List ℕ) : Type 0 where
  pub non_empty : 0 < length text
  pub plain : AllPass is_plain_byte text
  pub utf8 : IsUtf8 text

-- no store keeps the bytes of a file
abbrev pub NotKept : Entry HeldFile → Type 0
NotKept (entries.Dir attributes) = Unit {0}
NotKept (entries.Opaque attributes) = Unit {0}
NotKept (entries.File attributes held) = (home : Home) → held.body ≢ Kept home
NotKept (entries.Link owner target) = Unit {0}
NotKept entries.Hide = Unit {0}

-- an entry in the ranges of a tree's text whose bytes no store keeps
pub record IsNewEntry (e : Entry HeldFile) : Type 0 where
  pub range : IsWritable held_form e
  pub new : NotKept e

-- a piece of such entries
pub record IsNewPiece (piece : Piece HeldFile) : Type 0 where
  pub top : IsNewEntry piece.top
  pub part : AllByRecursion (λ (e : List (List ℕ) × Entry HeldFile). IsNewEntry e.1) piece.part

-- the path of a resource and those of its files in the depot are within the limits
abbrev pub FitsAlone : Arrival → Type 0
FitsAlone arrival = (is_within_limits (arrives_at arrival) ≡ true) × FilesFit (arrival_piece arrival)

-- the text of a link is
abbrev pub LinkFitsAlone : CurrentLink → Type 0
LinkFitsAlone link = LinkFits (link_piece link.target (current_path link.target link.current) link.path).top

-- all of them are
pub record FitsDraft (draft : Draft) : Type 0 where
  pub arrivals : AllByRecursion FitsAlone draft.arrivals.items
  pub links : AllByRecursion LinkFitsAlone draft.links.items

-- what is put into the tree
abbrev pub draft_pieces : Draft → List (Piece HeldFile)
draft_pieces draft = map arrival_piece draft.arrivals.items ++ map current_piece draft.links.items

-- the manifests of the paths, one of each, after others
pub record AppendManifests (root : Entries HeldFile) (paths : List (List (List ℕ))) (old new : List Manifest) : Type 0 where
  pub added : List Manifest
  pub each : AllZip (λ path manifest. IsManifestAt root path manifest) paths added
  pub appended : new ≡ old ++ added

-- these manifests and those of the paths, in path order
pub record IsInPathOrder (kept : List Manifest) (root : Entries HeldFile) (paths : List (List (List ℕ))) (manifests : List Manifest) : Type 0 where
  pub all : List Manifest
  pub appends : AppendManifests root paths kept all
  pub same : IsPermutation all manifests
  pub order : IsSortedByKey (λ (manifest : Manifest). manifest.path) path_cmp manifests

-- the host with another tree that is seen, without the touched manifests, and with those of the paths
pub record IsNextWith (host : Host) (touched paths : List (List (List ℕ))) (root : Entries HeldFile) (next : Host) : Type 0 where
  pub kept : List Manifest
  pub manifests : IsInPathOrder (untouched_all touched host.kept) root paths kept
  pub rest : next ≡ record host { root = root; kept = kept }

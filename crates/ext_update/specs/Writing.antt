-- What an update to a version writes, after sysupdate.d(5), section [Target]: in the target of each transfer that has no instance of
-- the version its resource, a directory with mode 755 and its tree below, and then the links to the current version. A link names the
-- resource, or where the transfer had the version already the first of its instances, by its name alone where both stand in the
-- target, and else by its path. The modes, and the order, are this project's own.
use Rattle.std.specs.Prelude.{ℕ, ◌==◌, if◌then◌else◌, List, [], ◌∷◌, ◌++◌, length, Option, Some, None, slice_get}
use Rattle.std.specs.List.{flat_map, range_with_len}
use Rattle.std.specs.Option.{option_or}
use Rattle.std.specs.Ordering.{eq_by_cmp}
use Rattle.ext_attributes.specs.Attributes.{file_of_mode, root_owner}
use Rattle.ext_text.specs.Absolute.{absolute}
use Rattle.ext_text.specs.Path.{parent, path_cmp}
use Rattle.ext_tree.specs.Graft.{made}
use Rattle.ext_tree.specs.Tree.{Entries}
use Rattle.ext_tree.specs.declared.entry.Entry.{Entry}
use Rattle.ext_tree.specs.declared.entry.Entry.TheVariants as entries
use Rattle.ext_tree.specs.declared.stamp.Stamp.{Stamp}
use Rattle.ext_host.specs.DepotBodies.{from_depot}
use Rattle.ext_host.specs.Held.{HeldFile}
use Rattle.ext_host.specs.declared.body.Body.TheVariants.{Depot}
use Rattle.ext_transfer.specs.declared.transfer.Transfer.{Transfer}
use Rattle.ext_installed.specs.declared.instance.Instance.{Instance}
use Rattle.ext_resources.specs.Wanted.{is_instance}
use Rattle.ext_resources.specs.declared.resource.Content.{Content}
use Rattle.ext_resources.specs.declared.resource.Content.TheVariants as contents
use Rattle.ext_resources.specs.declared.resource.Resource.{Resource}
use Rattle.ext_updated.specs.declared.piece.Piece.{Piece}

-- the path of a name directly in a transfer's target
abbrev pub in_target : Option Transfer → List ℕ → List (List ℕ)
in_target None name = name ∷ []
in_target (Some transfer) name = transfer.target.path ++ name ∷ []

-- where a resource goes
abbrev pub goes_to : List Transfer → Resource → List (List ℕ)
goes_to transfers resource = in_target (slice_get transfers resource.transfer) resource.name

-- the mode of a transfer's files, which is octal 644 where no transfer is
abbrev pub file_mode_of : Option Transfer → ℕ
file_mode_of None = 420
file_mode_of (Some transfer) = transfer.mode

-- a file that the depot has, root's and without a capability
abbrev pub file_top : ℕ → Stamp → List (List ℕ) → Entry HeldFile
file_top mode stamp source = entries.File (file_of_mode mode) (record { stamp = stamp; body = Depot source })

-- the entry of a resource of this content: such a file, or a directory
abbrev pub top_of : ℕ → List (List ℕ) → Content → Entry HeldFile
top_of mode source (contents.File stamp) = file_top mode stamp source
top_of mode source (contents.Directory tree) = made

-- what stands below it, with its files in the depot
abbrev pub content_part : List (List ℕ) → Content → Entries HeldFile
content_part source (contents.File stamp) = []
content_part source (contents.Directory tree) = from_depot source tree

-- what is put at a resource's path
abbrev pub resource_piece : List Transfer → Resource → Piece HeldFile
resource_piece transfers resource = record {
  path = goes_to transfers resource;
  top = top_of (file_mode_of (slice_get transfers resource.transfer)) resource.source resource.content;
  part = content_part resource.source resource.content;
}

-- the path of the first of some instances that is one of the version, of the transfer at a place
abbrev pub first_instance : List Instance → List ℕ → ℕ → Option (List (List ℕ))
first_instance [] version place = None
first_instance (item ∷ items) version place = if is_instance version place item then Some item.path else first_instance items version place

-- where the first of some resources goes that is one of the transfer at a place
abbrev pub first_resource : List Transfer → List Resource → ℕ → Option (List (List ℕ))
first_resource transfers [] place = None
first_resource transfers (resource ∷ resources) place =
    if resource.transfer == place then Some (goes_to transfers resource) else first_resource transfers resources place

-- the last name of a path
abbrev pub last_name : List (List ℕ) → List ℕ
last_name [] = []
last_name (name ∷ []) = name
last_name (name ∷ next ∷ names) = last_name (next ∷ names)

-- the text of a link to a path that stands in the target
abbrev pub link_text : List (List ℕ) → List (List ℕ) → List (List ℕ) → List ℕ
link_text target link at = if eq_by_cmp path_cmp (parent link) target then last_name at else absolute at

-- the link to a path
abbrev pub link_piece : List (List ℕ) → List (List ℕ) → List (List ℕ) → Piece HeldFile
link_piece target at link = record { path = link; top = entries.Link root_owner (link_text target link at); part = [] }

-- the link that is set, where there is a path to name and a link to set
abbrev pub link_if : List (List ℕ) → Option (List (List ℕ)) → Option (List (List ℕ)) → List (Piece HeldFile)
link_if target None link = []
link_if target (Some at) None = []
link_if target (Some at) (Some link) = link_piece target at link ∷ []

-- the link of a transfer to a path, if there is one
abbrev pub set_link : Option Transfer → Option (List (List ℕ)) → List (Piece HeldFile)
set_link None at = []
set_link (Some transfer) at = link_if transfer.target.path at transfer.link

-- the path that the link of the transfer at a place names: that of the first of its instances of the version, or else the one at which
-- its resource is written
abbrev pub current_of : List Transfer → List Instance → List Resource → List ℕ → ℕ → Option (List (List ℕ))
current_of transfers items resources version place =
    option_or (first_instance items version place) (first_resource transfers resources place)

-- the links of all transfers
abbrev pub link_pieces : List Transfer → List Instance → List Resource → List ℕ → List (Piece HeldFile)
link_pieces transfers items resources version =
    flat_map (λ place. set_link (slice_get transfers place) (current_of transfers items resources version place))
    (range_with_len 0 (length transfers))

-- What an update, or making room, wants of a host. Its refusals, the first that holds, in this order, which is this project's own: a
-- path that is written or removed is locked by a merge; a path of an item is in the way of another; a path that is written lies below
-- something that is no directory; a path, or the text of a link, passes its limits; there are too many entries, then too many bytes,
-- of what is seen and what lies under the view. Of several paths the least is told.
use Rattle.std.specs.Prelude.{◌≡◌, ◌≢◌, ◌⊎◌, ◌↔◌, ℕ, ◌≤◌, Bool, true, ◌&&◌, nat_le, List, ◌++◌, map, length, Option, Some, None, IsTrue, Contains}
use Rattle.std.specs.List.{AllByRecursion, filter}
use Rattle.std.specs.declared.cmp.Ordering.TheVariants.{Less}
use Rattle.ext_text.specs.Path.{IsPath, is_proper_prefix, path_cmp, path_text}
use Rattle.ext_text.specs.SortedPaths.{is_among}
use Rattle.ext_text.specs.declared.which.Which.{Which}
use Rattle.ext_text.specs.declared.which.Which.TheVariants as limits
use Rattle.ext_tree.specs.Graft.{is_non_directory_at}
use Rattle.ext_tree.specs.Tree.{Entries, lookup}
use Rattle.ext_tree.specs.declared.entry.Entry.{Entry}
use Rattle.ext_tree.specs.declared.entry.Entry.TheVariants as entries
use Rattle.ext_host.specs.Held.{HeldFile}
use Rattle.ext_host.specs.Limits.{passed_limit}
use Rattle.ext_host.specs.ReadOnly.{is_read_only}
use Rattle.ext_host.specs.Touch.{untouched_all}
use Rattle.ext_host.specs.Valid.{AreAscending}
use Rattle.ext_host.specs.declared.body.Body.{Body}
use Rattle.ext_host.specs.declared.body.Body.TheVariants as bodies
use Rattle.ext_host.specs.declared.host.Host.{Host}
use Rattle.ext_host.specs.declared.manifest.Manifest.{Manifest}
use Rattle.ext_updated.specs.Clash.{IsInTheWay}
use Rattle.ext_updated.specs.Items.{written}
use Rattle.ext_updated.specs.Manifests.{IsManifestAt}
use Rattle.ext_updated.specs.Pieces.{paths_of}
use Rattle.ext_updated.specs.Updated.{IsUpdated, PieceFits}
use Rattle.ext_updated.specs.declared.items.Items.{Items}
use Rattle.ext_updated.specs.declared.piece.Piece.{Piece}
use Rattle.ext_update.specs.declared.planned.Planned.{Planned}
use Rattle.ext_update.specs.declared.planned.Planned.TheVariants.{Next, Refused}
use Rattle.ext_update.specs.declared.refusal.UpdateRefusal.TheVariants as refusals

-- a path stays within the limits: at most 64 names, and at most 4,096 bytes with the slashes
abbrev pub is_within_limits : List (List ℕ) → Bool
is_within_limits path = nat_le (length path) 64 && nat_le (length (path_text path)) 4096

-- what an update writes, removes and lets stay: the pieces of resources, of which a path may pass the limits, those of links, and the
-- paths of the instances that go and of those that stay
pub record Writes : Type 0 where
  pub resources : List (Piece HeldFile)
  pub links : List (Piece HeldFile)
  pub removed : List (List (List ℕ))
  pub staying : List (List (List ℕ))

-- all that is written
abbrev pub written_pieces : Writes → List (Piece HeldFile)
written_pieces writes = writes.resources ++ writes.links

-- the items: a resource whose path passes the limits is none
abbrev pub items_of : Writes → Items
items_of writes = record {
  resources = filter is_within_limits (paths_of writes.resources);
  links = paths_of writes.links;
  removed = writes.removed;
  staying = writes.staying;
}

-- the paths that are written or removed
abbrev pub touched_by : Items → List (List (List ℕ))
touched_by items = written items ++ items.removed

-- the least of the paths for which something holds
pub record IsLeastFor (Holds : List (List ℕ) → Type 0) (path : List (List ℕ)) : Type 0 where
  pub holds : Holds path
  pub least : (other : List (List ℕ)) → Holds other → path_cmp other path ≢ Less

-- what is wanted where there is no such path, and else the refusal of the least
abbrev pub UnlessLeast : (List (List ℕ) → Type 0) → (List (List ℕ) → Planned) → (Planned → Type 0) → Planned → Type 0
UnlessLeast Holds refused Wants planned =
    (((path : List (List ℕ)) → ¬ Holds path) × Wants planned)
    ⊎ ((path : List (List ℕ)) × IsLeastFor Holds path × (planned ≡ refused path))

-- the text of a link is within the limit of a path's
abbrev pub LinkFits : Entry HeldFile → Type 0
LinkFits (entries.Dir attributes) = Unit {0}
LinkFits (entries.Opaque attributes) = Unit {0}
LinkFits (entries.File attributes held) = Unit {0}
LinkFits (entries.Link owner text) = length text ≤ 4096
LinkFits entries.Hide = Unit {0}

-- where the bytes of a file are in the depot, its path there is within the limits
abbrev pub BodyFits : Body → Type 0
BodyFits (bodies.Here bytes) = Unit {0}
BodyFits (bodies.Kept home) = Unit {0}
BodyFits (bodies.Depot path) = IsPath path

-- the path of an entry's file in the depot is within the limits
abbrev pub EntryFits : Entry HeldFile → Type 0
EntryFits (entries.Dir attributes) = Unit {0}
EntryFits (entries.Opaque attributes) = Unit {0}
EntryFits (entries.File attributes held) = BodyFits held.body
EntryFits (entries.Link owner text) = Unit {0}
EntryFits entries.Hide = Unit {0}

-- the files of a tree have paths within the limits in the depot, and those below a piece's path
abbrev pub AreFilesFit : Entries HeldFile → Type 0
AreFilesFit es = AllByRecursion (λ (e : List (List ℕ) × Entry HeldFile). EntryFits e.1) es

-- those of the files of a piece's part are
abbrev pub FilesFit : Piece HeldFile → Type 0
FilesFit piece = AreFilesFit piece.part

-- the path of a resource, those of what is below it, and those of its files in the depot stay within the limits
pub record ResourceFits (piece : Piece HeldFile) : Type 0 where
  pub path : is_within_limits piece.path ≡ true
  pub part : PieceFits piece
  pub files : FilesFit piece

-- so do all paths of the host and of the depot, and the texts of the links
pub record AllFit (writes : Writes) : Type 0 where
  pub resources : AllByRecursion ResourceFits writes.resources
  pub links : AllByRecursion (λ (piece : Piece HeldFile). LinkFits piece.top) writes.links

-- the manifest of a resource: its path, and the files that the tree has at and below it
pub record IsOfResource (writes : Writes) (root : Entries HeldFile) (manifest : Manifest) : Type 0 where
  pub resource : IsTrue (is_among (paths_of writes.resources) manifest.path)
  pub files : IsManifestAt root manifest.path manifest

module _ (host : Host) (writes : Writes) where
  -- a path that is written or removed, and may not be
  pub record IsLocked (path : List (List ℕ)) : Type 0 where
    pub touched : IsTrue (is_among (touched_by (items_of writes)) path)
    pub locked : IsTrue (is_read_only host path)

  -- something that is no directory, above a path that is written, also where that passes the limits
  pub record IsBlocking (at : List (List ℕ)) : Type 0 where
    pub path : List (List ℕ)
    pub written : IsTrue (is_among (paths_of (written_pieces writes)) path)
    pub above : IsTrue (is_proper_prefix at path)
    pub stands : IsTrue (is_non_directory_at (lookup host.root at))

  -- the manifests that are kept: those that nothing which is written or removed touches, and one of each resource, in path order
  pub record AreKept (root : Entries HeldFile) (kept : List Manifest) : Type 0 where
    pub order : AreAscending path_cmp (map (λ manifest. manifest.path) kept)
    pub each : (path : List (List ℕ)) → IsTrue (is_among (paths_of writes.resources) path)
        → (manifest : Manifest) × Contains kept manifest × IsManifestAt root path manifest
    pub same : (manifest : Manifest) → Contains kept manifest
        ↔ (Contains (untouched_all (touched_by (items_of writes)) host.kept) manifest ⊎ IsOfResource writes root manifest)

  -- the host with this tree is wanted, where what is seen and what lies under the view are within the limits
  abbrev pub SizedWants : Entries HeldFile → Option Which → Planned → Type 0
  SizedWants root None planned = (kept : List Manifest) × AreKept root kept × (planned ≡ Next (record host { root = root; kept = kept }))
  SizedWants root (Some which) planned = planned ≡ Refused (refusals.Limit which)

  -- what is wanted where nothing stands in the way: the instances that go are gone, and the resources and the links stand in their
  -- places
  abbrev pub FittingWants : Planned → Type 0
  FittingWants planned =
      (AllFit writes × ((root : Entries HeldFile) × IsUpdated host.root writes.removed (written_pieces writes) root
      × SizedWants root (passed_limit root host.lower) planned))
      ⊎ ((¬ AllFit writes) × (planned ≡ Refused (refusals.Limit limits.Path)))

  -- what is wanted where nothing is in the way
  abbrev pub OpenWants : Planned → Type 0
  OpenWants planned = UnlessLeast IsBlocking (λ path. Refused (refusals.NotDirectory path)) FittingWants planned

  -- what is wanted where no path is locked
  abbrev pub ClashWants : Planned → Type 0
  ClashWants planned = UnlessLeast (IsInTheWay host.root (items_of writes)) (λ path. Refused (refusals.Clash path)) OpenWants planned

  -- what is wanted of what is written and removed
  abbrev pub WritesWant : Planned → Type 0
  WritesWant planned = UnlessLeast IsLocked (λ path. Refused (refusals.ReadOnly path)) ClashWants planned

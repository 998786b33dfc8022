-- What a valid host is, apart from where its files are kept: this project's own. A store has valid hosts alone, and every
-- command makes a valid host of a valid one.
use Rattle.std.specs.Prelude.{◌≡◌, ◌≢◌, ℕ, ◌+◌, ◌<◌, ◌≤◌, not, List, [], ◌∷◌, length, map, IsTrue, is_some, Option, Some, IfSome, Contains}
use Rattle.std.specs.List.{AllByRecursion, sum_by}
use Rattle.std.specs.Ordering.{nat_cmp}
use Rattle.std.specs.declared.cmp.Ordering.{Ordering}
use Rattle.std.specs.declared.cmp.Ordering.TheVariants.{Less}
use Rattle.ext_attributes.specs.Attributes.{OfFile}
use Rattle.ext_text.specs.Name.{bytes_cmp}
use Rattle.ext_text.specs.Path.{are_related, is_prefix, path_cmp}
use Rattle.ext_text.specs.declared.scope.Scope.TheVariants.{Portable}
use Rattle.ext_vers.specs.Version.{order_of}
use Rattle.ext_tree.specs.EntryLine.{IsWritable, LineForm}
use Rattle.ext_tree.specs.Fields.{IsStamp, stamp_fields}
use Rattle.ext_tree.specs.Tree.{Entries, lookup, most_entries}
use Rattle.ext_tree.specs.declared.entry.Entry.{Entry}
use Rattle.ext_tree.specs.declared.entry.Entry.TheVariants.{Dir, Opaque, File, Link, Hide}
use Rattle.ext_host.specs.Held.{HeldFile}
use Rattle.ext_host.specs.Host.{Hierarchies, HostTree, base_at, hierarchies_in, is_in, merged_hierarchies, past_tree, present}
use Rattle.ext_host.specs.declared.attachment.Attachment.{Attachment}
use Rattle.ext_host.specs.declared.manifest.Manifest.{Manifest}
use Rattle.ext_host.specs.declared.host.Host.{Host}

-- each comes before all those after it, so that none stands twice
abbrev pub AreAscending : {X : Type 0} → (X → X → Ordering) → List X → Type 0
AreAscending R [] = Unit {0}
AreAscending R (x ∷ xs) = AllByRecursion (λ y. R x y ≡ Less) xs × AreAscending R xs

-- the bytes of an entry's file
abbrev pub bytes_of : Entry HeldFile → ℕ
bytes_of (Dir attributes) = 0
bytes_of (Opaque attributes) = 0
bytes_of (File attributes held) = held.stamp.size
bytes_of (Link owner target) = 0
bytes_of Hide = 0

-- the bytes of all files
abbrev pub all_bytes : Entries HeldFile → ℕ
all_bytes es = sum_by (λ e. bytes_of e.1) es

-- the most bytes of all files of a host, and of a past tree
abbrev pub most_bytes : ℕ
most_bytes = 4294967296

-- a held file is in range where its stamp is: at most 1,073,741,824 bytes
abbrev pub held_form : LineForm HeldFile
held_form = record { fields = λ held. stamp_fields held.stamp; writable = λ held. IsStamp held.stamp }

-- attributes, stamps and targets are in the ranges of the lines of a tree's text
abbrev pub AreInRange : Entries HeldFile → Type 0
AreInRange es = AllByRecursion (λ e. IsWritable held_form e.1) es

-- what is seen and what lies under it are within the limits, both counted together
pub record IsWithinLimits (tree : HostTree) : Type 0 where
  pub root : AreInRange tree.root
  pub lower : AreInRange tree.lower
  pub entries : length tree.root + length tree.lower ≤ most_entries
  pub bytes : all_bytes tree.root + all_bytes tree.lower ≤ most_bytes

-- where a class is merged: at least one name, in the order of versions
pub record AreMerged (names : List (List ℕ)) : Type 0 where
  pub non_empty : 0 < length names
  pub order : AreAscending order_of names

-- the hierarchies of a class: 1 to 16 names, in the order of their bytes
pub record AreHierarchies (names : List (List ℕ)) : Type 0 where
  pub non_empty : 0 < length names
  pub at_most_16 : length names ≤ 16
  pub order : AreAscending bytes_cmp names

-- an attachment of an image below the root, with the added paths in path order, the root not among them
pub record IsAttachment (attachment : Attachment) : Type 0 where
  pub place : attachment.place ≢ []
  pub added : AllByRecursion (λ path. path ≢ []) attachment.added
  pub order : AreAscending path_cmp attachment.added

-- attachments in the order of their names' bytes
pub record AreAttachments (attached : List Attachment) : Type 0 where
  pub each : AllByRecursion IsAttachment attached
  pub order : AreAscending bytes_cmp (map (λ attachment. attachment.name) attached)

-- the items are the files at and below the manifest's path, each with its digest: each item is such a file, and each such
-- file is an item
pub record HasItems (base : List (List ℕ) → Option (Entry HeldFile)) (manifest : Manifest) : Type 0 where
  pub each : AllByRecursion (λ item. IsTrue (is_prefix manifest.path item.path) × ((attributes : OfFile) × (held : HeldFile) × (base item.path ≡ Some (File attributes held)) × (held.stamp.digest ≡ item.digest))) manifest.items
  pub whole : (path : List (List ℕ)) (attributes : OfFile) (held : HeldFile) → IsTrue (is_prefix manifest.path path) → base path ≡ Some (File attributes held) → Contains manifest.items (record { path = path; digest = held.stamp.digest })

-- the manifest of a path below the root, its items in path order
pub record IsManifest (manifest : Manifest) : Type 0 where
  pub path : manifest.path ≢ []
  pub order : AreAscending path_cmp (map (λ item. item.path) manifest.items)

-- no manifest's path is at, above or below that of another
abbrev pub AreApart : List Manifest → Type 0
AreApart [] = Unit {0}
AreApart (m ∷ manifests) = AllByRecursion (λ n. IsTrue (not (are_related m.path n.path))) manifests × AreApart manifests

-- manifests in path order that say what the base has
pub record AreManifests (base : List (List ℕ) → Option (Entry HeldFile)) (kept : List Manifest) : Type 0 where
  pub each : AllByRecursion IsManifest kept
  pub order : AreAscending path_cmp (map (λ manifest. manifest.path) kept)
  pub apart : AreApart kept
  pub items : AllByRecursion (HasItems base) kept

-- what a host has at one time
pub record IsValidTree (hierarchies : Hierarchies) (tree : HostTree) : Type 0 where
  -- what lies under the view lies in the merged hierarchies
  pub lower : (path : List (List ℕ)) → IsTrue (is_some (lookup tree.lower path)) → IsTrue (is_in (merged_hierarchies hierarchies tree) path)
  pub limits : IsWithinLimits tree
  pub sysext : IfSome tree.sysext AreMerged
  pub confext : IfSome tree.confext AreMerged
  pub attached : AreAttachments tree.attached
  pub kept : AreManifests (base_at hierarchies tree) tree.kept

-- the hierarchies of both classes, none of which is one of the other class
pub record AreOfClasses (hierarchies : Hierarchies) : Type 0 where
  pub sysext : AreHierarchies hierarchies.sysext
  pub confext : AreHierarchies hierarchies.confext
  pub apart : AllByRecursion (λ name. ¬ Contains hierarchies.confext name) hierarchies.sysext

-- the most past trees of a host
abbrev pub most_past : ℕ
most_past = 16

-- what every host of a store is
pub record IsValidHost (host : Host) : Type 0 where
  pub scope : host.scope ≢ Portable
  pub hierarchies : AreOfClasses (hierarchies_in host)
  pub present : IsValidTree (hierarchies_in host) (present host)
  -- each past tree is valid in the same way, with the host's hierarchies
  pub past : AllByRecursion (λ past. IsValidTree (hierarchies_in host) (past_tree past)) host.past
  pub past_count : length host.past ≤ most_past
  pub past_order : AreAscending nat_cmp (map (λ past. past.generation) host.past)

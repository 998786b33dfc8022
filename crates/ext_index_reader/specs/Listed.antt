-- What an index lists of a host, but for the items of what updates left: this project's own.
use Rattle.std.specs.Prelude.{◌≡◌, ◌≢◌, ℕ, ◌<◌, ◌≤◌, List, [], length, map, IsTrue, is_some, IfSome}
use Rattle.std.specs.List.{AllByRecursion}
use Rattle.std.specs.Ordering.{nat_cmp}
use Rattle.ext_text.specs.Digest.{IsDigest}
use Rattle.ext_text.specs.Name.{IsName}
use Rattle.ext_text.specs.Path.{IsPath, path_cmp}
use Rattle.ext_text.specs.declared.extension.Extension.TheVariants.{Sysext, Confext}
use Rattle.ext_text.specs.declared.scope.Scope.TheVariants.{Portable}
use Rattle.ext_tree.specs.Tree.{Entries, IsTree, lookup}
use Rattle.ext_host.specs.Drawn.{IsFileOf, trees_of}
use Rattle.ext_host.specs.Held.{HeldFile}
use Rattle.ext_host.specs.Host.{Hierarchies, HostTree, default_hierarchies, hierarchies_in, is_in, merged_hierarchies, past_tree, present}
use Rattle.ext_host.specs.Valid.{AreApart, AreAscending, AreAttachments, AreMerged, AreOfClasses, IsManifest, IsWithinLimits, most_past}
use Rattle.ext_host.specs.declared.attachment.Attachment.{Attachment}
use Rattle.ext_host.specs.declared.body.Body.{Body}
use Rattle.ext_host.specs.declared.body.Body.TheVariants.{Here, Kept, Depot}
use Rattle.ext_host.specs.declared.home.Home.{Home}
use Rattle.ext_host.specs.declared.host.Host.{Host}
use Rattle.ext_host.specs.declared.manifest.Item.{Item}
use Rattle.ext_host.specs.declared.manifest.Manifest.{Manifest}
use Rattle.ext_host.specs.declared.past.Past.{Past}
use Rattle.ext_index_lines.specs.Lines.{may_tell}
use Rattle.ext_index_lines.specs.declared.text_number.TextNumber.{TextNumber}

-- its name is a name, and its paths are paths
pub record IsWellFormedAttachment (attachment : Attachment) : Type 0 where
  pub name : IsName attachment.name
  pub place : IsPath attachment.place
  pub added : AllByRecursion IsPath attachment.added

-- its path and those of its items are paths, and their digests are digests
pub record IsWellFormedManifest (manifest : Manifest) : Type 0 where
  pub path : IsPath manifest.path
  pub items : AllByRecursion (λ item. IsPath item.path × IsDigest item.digest.0) manifest.items

-- both trees are trees, and what is merged, attached and left by updates is well formed
pub record IsWellFormedTree (tree : HostTree) : Type 0 where
  pub root : IsTree tree.root
  pub lower : IsTree tree.lower
  pub sysext : IfSome tree.sysext (AllByRecursion IsName)
  pub confext : IfSome tree.confext (AllByRecursion IsName)
  pub attached : AllByRecursion IsWellFormedAttachment tree.attached
  pub kept : AllByRecursion IsWellFormedManifest tree.kept

-- the hierarchies are names, and each of its trees is well formed
pub record IsWellFormed (host : Host) : Type 0 where
  pub sysext_hier : AllByRecursion IsName host.sysext_hier
  pub confext_hier : AllByRecursion IsName host.confext_hier
  pub now : IsWellFormedTree (present host)
  pub past : AllByRecursion (λ past. IsWellFormedTree (past_tree past)) host.past

-- the home is a file of this generation or of one before it
pub record IsHomeUpTo (g : ℕ) (home : Home) : Type 0 where
  pub first : 1 ≤ home.generation
  pub last : home.generation ≤ g
  pub file : home.file ≤ 262143

-- the bytes are kept at such a home
abbrev pub IsKeptUpTo : ℕ → Body → Type 0
IsKeptUpTo g (Here bytes) = ⊥
IsKeptUpTo g (Kept home) = IsHomeUpTo g home
IsKeptUpTo g (Depot path) = ⊥

-- Two files of one home have one stamp, and each file is kept up to this generation. The files are those of what is seen, of what
-- lies under the view and of every past tree.
pub record AreKeptUpTo (g : ℕ) (host : Host) : Type 0 where
  pub kept : (held : HeldFile) → IsFileOf (trees_of host) held → IsKeptUpTo g held.body
  pub agree : (a b : HeldFile) (home : Home) → IsFileOf (trees_of host) a → IsFileOf (trees_of host) b → a.body ≡ Kept home → b.body ≡ Kept home → a.stamp ≡ b.stamp

-- a tree that is valid but for what its manifests say
pub record IsListedTree (hierarchies : Hierarchies) (tree : HostTree) : Type 0 where
  pub lower : (path : List (List ℕ)) → IsTrue (is_some (lookup tree.lower path)) → IsTrue (is_in (merged_hierarchies hierarchies tree) path)
  pub limits : IsWithinLimits tree
  pub sysext : IfSome tree.sysext AreMerged
  pub confext : IfSome tree.confext AreMerged
  pub attached : AreAttachments tree.attached
  pub manifests : AllByRecursion IsManifest tree.kept
  -- no item is the root
  pub items : AllByRecursion (λ (m : Manifest). AllByRecursion (λ (i : Item). i.path ≢ []) m.items) tree.kept
  pub order : AreAscending path_cmp (map (λ (m : Manifest). m.path) tree.kept)
  pub apart : AreApart tree.kept

-- a host that an index of generation g lists
pub record IsListedHost (g : ℕ) (host : Host) : Type 0 where
  pub scope : host.scope ≢ Portable
  pub hierarchies : AreOfClasses (hierarchies_in host)
  pub now : IsListedTree (hierarchies_in host) (present host)
  pub past : AllByRecursion (λ past. IsListedTree (hierarchies_in host) (past_tree past)) host.past
  pub past_count : length host.past ≤ most_past
  pub past_order : AreAscending nat_cmp (map (λ (past : Past). past.generation) host.past)
  pub past_before : AllByRecursion (λ past. (0 < past.generation) × (past.generation < g)) host.past
  pub homes : AreKeptUpTo g host

-- what text 1 can say: the default hierarchies, and no past trees
pub record IsOfText1 (host : Host) : Type 0 where
  pub sysext_hier : host.sysext_hier ≡ default_hierarchies Sysext
  pub confext_hier : host.confext_hier ≡ default_hierarchies Confext
  pub past : host.past ≡ []

-- each entry of a tree has a line in the text
abbrev pub AreTold : TextNumber → Entries HeldFile → Type 0
AreTold text es = AllByRecursion (λ x. IsTrue (may_tell text x.1)) es

-- each entry of both trees has
pub record IsToldTree (text : TextNumber) (tree : HostTree) : Type 0 where
  pub root : AreTold text tree.root
  pub lower : AreTold text tree.lower

-- what a text can say of owners and capabilities: texts 1 and 2 nothing
pub record IsToldHost (text : TextNumber) (host : Host) : Type 0 where
  pub now : IsToldTree text (present host)
  pub past : AllByRecursion (λ past. IsToldTree text (past_tree past)) host.past

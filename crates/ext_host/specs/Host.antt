-- What a host has at its paths. Which directories an extension extends, its hierarchies, is after systemd-sysext(8); that a
-- host chooses them is this project's own.
use Rattle.std.specs.Prelude.{◌≡◌, ℕ, Bool, List, [], ◌∷◌, ◌++◌, if◌then◌else◌, Option, Some, None, codes}
use Rattle.std.specs.List.{list_any}
use Rattle.ext_text.specs.Path.{is_prefix}
use Rattle.ext_text.specs.declared.extension.Extension.{Extension}
use Rattle.ext_text.specs.declared.extension.Extension.TheVariants.{Sysext, Confext}
use Rattle.ext_tree.specs.Tree.{Entries, lookup}
use Rattle.ext_tree.specs.declared.entry.Entry.{Entry}
use Rattle.ext_host.specs.Held.{HeldFile}
use Rattle.ext_host.specs.declared.attachment.Attachment.{Attachment}
use Rattle.ext_host.specs.declared.manifest.Manifest.{Manifest}
use Rattle.ext_host.specs.declared.past.Past.{Past}
use Rattle.ext_host.specs.declared.host.Host.{Host}

-- the hierarchies of a host, by their class
pub record Hierarchies : Type 0 where
  pub sysext : List (List ℕ)
  pub confext : List (List ℕ)

-- the hierarchies of a class
abbrev pub hierarchies_of : Extension → Hierarchies → List (List ℕ)
hierarchies_of Sysext hierarchies = hierarchies.sysext
hierarchies_of Confext hierarchies = hierarchies.confext

-- those of a host that chose none
abbrev pub default_hierarchies : Extension → List (List ℕ)
default_hierarchies Sysext = codes "opt" ∷ codes "usr" ∷ []
default_hierarchies Confext = codes "etc" ∷ []

-- the path is at or below one of the names
abbrev pub is_in : List (List ℕ) → List (List ℕ) → Bool
is_in names path = list_any (λ name. is_prefix (name ∷ []) path) names

-- a tree of a host, present or past: what is seen and what lies under it, what is merged, attached and left by updates
pub record HostTree : Type 0 where
  pub root : Entries HeldFile
  pub lower : Entries HeldFile
  pub sysext : Option (List (List ℕ))
  pub confext : Option (List (List ℕ))
  pub attached : List Attachment
  pub kept : List Manifest

-- those of a host
abbrev pub hierarchies_in : Host → Hierarchies
hierarchies_in host = record { sysext = host.sysext_hier; confext = host.confext_hier }

-- the present tree of a host
abbrev pub present : Host → HostTree
present host = record { root = host.root; lower = host.lower; sysext = host.sysext; confext = host.confext; attached = host.attached; kept = host.kept }

-- the tree of a past host
abbrev pub past_tree : Past → HostTree
past_tree past = record { root = past.root; lower = past.lower; sysext = past.sysext; confext = past.confext; attached = past.attached; kept = past.kept }

-- the names of a class, where they are merged
abbrev pub merged_names : Extension → HostTree → Option (List (List ℕ))
merged_names Sysext tree = tree.sysext
merged_names Confext tree = tree.confext

-- these names, where something is merged
abbrev pub where_merged : Option (List (List ℕ)) → List (List ℕ) → List (List ℕ)
where_merged None names = []
where_merged (Some merged) names = names

-- the hierarchies of the merged classes
abbrev pub merged_hierarchies : Hierarchies → HostTree → List (List ℕ)
merged_hierarchies hierarchies tree =
    where_merged tree.sysext hierarchies.sysext ++ where_merged tree.confext hierarchies.confext

-- The base, path by path: at and below a hierarchy of a merged class what lies under the view, and elsewhere what is seen.
-- All searching reads the base.
abbrev pub base_at : Hierarchies → HostTree → List (List ℕ) → Option (Entry HeldFile)
base_at hierarchies tree path =
    if is_in (merged_hierarchies hierarchies tree) path then lookup tree.lower path else lookup tree.root path

-- the entries are the host's base
abbrev pub IsBase : Host → Entries HeldFile → Type 0
IsBase host es = (path : List (List ℕ)) → lookup es path ≡ base_at (hierarchies_in host) (present host) path

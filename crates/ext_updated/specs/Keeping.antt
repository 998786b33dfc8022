-- What changes of a host, one after the other, keep of its manifests: this project's own.
use Rattle.std.specs.Prelude.{◌≡◌, ℕ, false, List, [], ◌∷◌, Contains}
use Rattle.std.specs.List.{AllByRecursion}
use Rattle.ext_text.specs.SortedPaths.{meets}
use Rattle.ext_host.specs.Host.{base_at, hierarchies_in, present}
use Rattle.ext_host.specs.Valid.{HasItems, IsValidHost}
use Rattle.ext_host.specs.declared.host.Host.{Host}
use Rattle.ext_host.specs.declared.manifest.Manifest.{Manifest}

-- a change of a host: the host after it, the paths that it wrote or cut, and the manifests that it added
pub record HostChange : Type 0 where
  pub next : Host
  pub touched : List (List (List ℕ))
  pub added : List Manifest

-- a change makes a valid host, keeps each manifest whose path is related to none that it touched, and keeps those that it added
pub record KeepsManifests (before : Host) (change : HostChange) : Type 0 where
  pub valid : IsValidHost change.next
  pub kept : (manifest : Manifest) → Contains before.kept manifest → meets change.touched manifest.path ≡ false → Contains change.next.kept manifest
  pub adds : (manifest : Manifest) → Contains change.added manifest → Contains change.next.kept manifest

-- the changes, each of which keeps manifests, lead from one host to another
abbrev pub LeadTo : Host → List HostChange → Host → Type 0
LeadTo host [] last = last ≡ host
LeadTo host (change ∷ changes) last = KeepsManifests host change × LeadTo change.next changes last

-- none of the changes touches a path that is related to this one
abbrev pub LeaveAlone : List HostChange → List (List ℕ) → Type 0
LeaveAlone changes path = AllByRecursion (λ change. meets change.touched path ≡ false) changes

-- the host has the manifest, and the files at and below its path in the base are those that it says, with their digests
pub record Keeps (host : Host) (manifest : Manifest) : Type 0 where
  pub among : Contains host.kept manifest
  pub files : HasItems (base_at (hierarchies_in host) (present host)) manifest

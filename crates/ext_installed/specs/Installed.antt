-- What is found of the instances of some transfers.
use Rattle.std.specs.Prelude.{◌≡◌, ◌↔◌, ℕ, true, List, length}
use Rattle.std.specs.List.{Contains}
use Rattle.std.specs.List.Sorted.{IsStrictlySortedBy}
use Rattle.std.specs.Ordering.{nat_cmp, ordering_then}
use Rattle.std.specs.declared.cmp.Ordering.{Ordering}
use Rattle.ext_text.specs.Path.{path_cmp}
use Rattle.ext_tree.specs.Tree.{Entries}
use Rattle.ext_vers.specs.Version.{IsVersion, order_of}
use Rattle.ext_versions.specs.Versions.{has_version}
use Rattle.ext_transfer.specs.declared.transfer.Transfer.{Transfer}
use Rattle.ext_installed.specs.declared.instance.Instance.{Instance}
use Rattle.ext_installed.specs.declared.instance.Instances.{Instances}
use Rattle.ext_installed.specs.Instance.{IsInstalled, IsItem}

-- by the transfer, and of one transfer by the path
abbrev pub instance_cmp : Instance → Instance → Ordering
instance_cmp a b = ordering_then (nat_cmp a.transfer b.transfer) (path_cmp a.path b.path)

-- the instances that the tree has of the transfers, each once, in the order of the transfers and then of the paths, and the
-- versions of which it has an instance of each transfer. The version of an instance is one
pub record AreInstalled {C : Type 0} (es : Entries C) (transfers : List Transfer) (found : Instances) : Type 0 where
  pub count : found.transfers ≡ length transfers
  pub order : IsStrictlySortedBy instance_cmp found.items
  pub each : (item : Instance) → Contains found.items item → IsItem es transfers item
  pub whole : (item : Instance) → IsItem es transfers item → Contains found.items item
  pub sound : (item : Instance) → Contains found.items item → IsVersion item.version
  pub ascending : IsStrictlySortedBy order_of found.versions
  pub versions : (v : List ℕ) → (has_version found.versions v ≡ true) ↔ IsInstalled es transfers v

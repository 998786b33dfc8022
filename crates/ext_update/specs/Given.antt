-- What is known of the updates of a component, where a host is updated by them.
use Rattle.std.specs.List.{AllByRecursion, AllZip}
use Rattle.ext_tree.specs.Tree.{Entries}
use Rattle.ext_transfer.specs.Bounds.{KeepsBounds}
use Rattle.ext_available.specs.Available.{AreAvailable}
use Rattle.ext_installed.specs.Installed.{AreInstalled}
use Rattle.ext_host.specs.Held.{HeldFile}
use Rattle.ext_host.specs.Planning.{IsBaseTree}
use Rattle.ext_host.specs.declared.host.Host.{Host}
use Rattle.ext_resources.specs.Wanted.{AreListed}
use Rattle.ext_update.specs.declared.updates.Updates.{Updates}

-- the transfers keep their bounds, manifests list what their sources offer, and the versions are those that are available by these
-- offers and those that the base of the host has
pub record AreUpdatesFor (host : Host) (updates : Updates) : Type 0 where
  pub bounds : AllByRecursion KeepsBounds updates.transfers
  pub listed : AllZip AreListed updates.transfers updates.offers
  pub available : AreAvailable updates.transfers updates.offers updates.available
  pub base : Entries HeldFile
  pub is_base : IsBaseTree host base
  pub installed : AreInstalled base updates.transfers updates.installed

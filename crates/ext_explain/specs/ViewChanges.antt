-- What a refresh would change at and below the hierarchies of its class. This project's own.
use Rattle.std.specs.Prelude.{ℕ, Bool, Result, Ok, Err}
use Rattle.ext_text.specs.declared.extension.Extension.{Extension}
use Rattle.ext_tree.specs.Tree.{Entries}
use Rattle.ext_tree.specs.declared.stamp.Stamp.{Stamp}
use Rattle.ext_host.specs.Held.{HeldFile}
use Rattle.ext_host.specs.Planning.{IsBaseTree, PlansNext}
use Rattle.ext_host.specs.Shelf.{Told}
use Rattle.ext_host.specs.declared.host.Host.{Host}
use Rattle.ext_changes.specs.Changes.{AreChanges, Changes}
use Rattle.ext_view.specs.Hierarchies.{hierarchies_at}
use Rattle.ext_view.specs.Inside.{inside}
use Rattle.ext_view.specs.Laws.{host_after}
use Rattle.ext_view.specs.Merging.{IsRefreshed, Refreshes}
use Rattle.ext_view.specs.declared.errors.ViewErr.{ViewErr}
use Rattle.ext_view.specs.declared.outcome.Merge.{Merge}

-- the stamp of a held file
abbrev pub stamp_held : HeldFile → Stamp
stamp_held held = held.stamp

-- the changes from one tree to another at and below the hierarchies of a class
abbrev pub AreChangesInside : Host → Extension → Entries HeldFile → Entries HeldFile → Changes → Type 0
AreChangesInside host class earlier later changes =
    AreChanges stamp_held stamp_held (inside (hierarchies_at class host) earlier) (inside (hierarchies_at class host) later) changes

-- from the base of a host to what it would show once it is refreshed, where its trees are within their limits; a host for which
-- nothing is planned shows what it shows
pub record AreViewChanges (told : HeldFile → Told) (host : Host) (base : Entries HeldFile) (class : Extension) (force : Bool)
    (changes : Changes) : Type 0 where
  pub merge : Merge
  pub refreshed : IsRefreshed told host base class force merge
  pub planned : PlansNext host merge.plan
  pub are_changes : AreChangesInside host class base (host_after host merge.plan).root changes

-- those, or why there is no refreshed host
abbrev pub TellsChanges : (HeldFile → Told) → ℕ → ℕ → Host → Extension → Bool → Result Changes ViewErr → Type 0
TellsChanges told old new host class force (Ok changes) =
    (base : Entries HeldFile) × IsBaseTree host base × AreViewChanges told host base class force changes
TellsChanges told old new host class force (Err e) = Refreshes told old new host class force (Err e)

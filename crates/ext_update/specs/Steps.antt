-- What the code knows on the way to a plan.
use Rattle.std.specs.Prelude.{◌≡◌, ◌⊎◌, ℕ, List, map, Option, Some, None}
use Rattle.std.specs.List.{AllByRecursion}
use Rattle.ext_text.specs.declared.which.Which.{Which}
use Rattle.ext_text.specs.declared.which.Which.TheVariants as limits
use Rattle.ext_tree.specs.Tree.{Entries}
use Rattle.ext_host.specs.Held.{HeldFile}
use Rattle.ext_host.specs.Limits.{passed_limit}
use Rattle.ext_host.specs.declared.host.Host.{Host}
use Rattle.ext_resources.specs.declared.resource.Resource.{Resource}
use Rattle.ext_updated.specs.Updated.{IsPieceTooLong, IsUpdated, PieceFits}
use Rattle.ext_updated.specs.declared.items.Items.{Items}
use Rattle.ext_updated.specs.declared.piece.Piece.{Piece}
use Rattle.ext_update.specs.Drafts.{HasContent, IsNextWith, IsSet, arrival_of, links_of, writes_with}
use Rattle.ext_update.specs.Stages.{Writes, items_of}
use Rattle.ext_update.specs.declared.draft.Draft.{Draft}
use Rattle.ext_update.specs.declared.planned.Planned.{Planned}
use Rattle.ext_update.specs.declared.planned.Planned.TheVariants.{Next, Refused}
use Rattle.ext_update.specs.declared.planned.Update.{Update}
use Rattle.ext_update.specs.declared.planned.Update.TheVariants as updated
use Rattle.ext_update.specs.declared.planned.Vacuum.{Vacuum}
use Rattle.ext_update.specs.declared.planned.Vacuum.TheVariants as vacuums
use Rattle.ext_update.specs.declared.updates.Updates.{Updates}
use Rattle.ext_update.specs.declared.refusal.UpdateRefusal.TheVariants as refusals

-- what a draft writes, and what items remove and let stay
abbrev pub draft_writes : Draft → Items → Writes
draft_writes draft items = writes_with draft items.removed items.staying

-- the items are those of what is written
abbrev pub AreDraftItems : Draft → Items → Type 0
AreDraftItems draft items = items ≡ items_of (draft_writes draft items)

-- contents are in the ranges of trees, and links are set
pub record IsSoundDraft (draft : Draft) : Type 0 where
  pub contents : AllByRecursion HasContent draft.arrivals.items
  pub set : AllByRecursion IsSet draft.links.items

-- what holds of the coming host, if one is planned
abbrev pub IfNext : (Host → Type 0) → Planned → Type 0
IfNext P (Next next) = P next
IfNext P (Refused refusal) = Unit {0}

-- what holds of the host of an update, and of one with room, if it changes
abbrev pub IfUpdated : (Host → Type 0) → Update → Type 0
IfUpdated P updated.Unchanged = Unit {0}
IfUpdated P (updated.Changes version next) = P next
IfUpdated P (updated.Refused refusal) = Unit {0}

-- what holds of the host where room is made, if it changes
abbrev pub IfVacuumed : (Host → Type 0) → Vacuum → Type 0
IfVacuumed P vacuums.Unchanged = Unit {0}
IfVacuumed P (vacuums.Changes removed next) = P next
IfVacuumed P (vacuums.Refused refusal) = Unit {0}

-- what is planned of a tree that is seen, by the limit that it passes with what lies under the view
abbrev pub RootWants : Host → List (List (List ℕ)) → List (List (List ℕ)) → Entries HeldFile → Option Which → Planned → Type 0
RootWants host touched resources root None planned = (next : Host) × IsNextWith host touched resources root next × (planned ≡ Next next)
RootWants host touched resources root (Some which) planned = planned ≡ Refused (refusals.Limit which)

-- what is planned of pieces that may be put
abbrev pub PiecesWant : Host → List (List (List ℕ)) → Items → List (Piece HeldFile) → Planned → Type 0
PiecesWant host touched items pieces planned =
    (AllByRecursion PieceFits pieces × ((root : Entries HeldFile) × IsUpdated host.root items.removed pieces root
    × RootWants host touched items.resources root (passed_limit root host.lower) planned))
    ⊎ (IsPieceTooLong pieces × (planned ≡ Refused (refusals.Limit limits.Path)))

-- what an update to a version writes
pub record IsDraftOf (updates : Updates) (version : List ℕ) (resources : List Resource) (draft : Draft) : Type 0 where
  pub arrivals : draft.arrivals.items ≡ map (arrival_of updates.transfers) resources
  pub links : draft.links.items ≡ links_of updates.transfers updates.installed.items resources version

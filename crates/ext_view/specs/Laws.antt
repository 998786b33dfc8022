-- The laws of views.
use Rattle.std.specs.Prelude.{◌≡◌, ◌≢◌, ℕ, Bool, not, List, Option, Some, None, Ok, IsTrue}
use Rattle.ext_text.specs.declared.extension.Extension.{Extension}
use Rattle.ext_tree.specs.Tree.{Entries, is_hide, is_opaque, lookup}
use Rattle.ext_tree.specs.declared.entry.Entry.{Entry}
use Rattle.ext_host.specs.Held.{HeldFile}
use Rattle.ext_host.specs.Host.{IsBase, is_in}
use Rattle.ext_host.specs.Shelf.{Told, untold}
use Rattle.ext_host.specs.Valid.{IsValidHost}
use Rattle.ext_host.specs.declared.host.Host.{Host}
use Rattle.ext_host.specs.declared.host.Plan.{Plan}
use Rattle.ext_view.specs.Hierarchies.{hierarchies_at}
use Rattle.ext_view.specs.Merging.{Merges, Refreshes, Unmerges}
use Rattle.ext_view.specs.Surveying.{IsSurveyOf}
use Rattle.ext_view.specs.View.{HasView, IsMergedHost, IsUnmerged}
use Rattle.ext_view.specs.declared.outcome.Merge.{Merge}
use Rattle.ext_view.specs.declared.surveyed.SurveyItem.{SurveyItem}

-- the host that a plan wants, and where there is no plan the host as it is
abbrev pub host_after : Host → Option Plan → Host
host_after host None = host
host_after host (Some plan) = plan.next

-- what refreshing gives is what unmerging and then merging may give: the same names, and in the end the same host
abbrev pub RefreshIsUnmergeThenMerge : Type 0
RefreshIsUnmergeThenMerge =
    (told : HeldFile → Told) (old new : ℕ) (host : Host) (class : Extension) (force : Bool) (unmerged : Option Plan) (refreshed : Merge)
    → IsValidHost host
    → Unmerges host class (Ok unmerged)
    → Refreshes told old new host class force (Ok refreshed)
    → (plan : Option Plan)
    × Merges told old new (host_after host unmerged) class force (Ok (record { plan = plan; names = refreshed.names }))
    × (host_after (host_after host unmerged) plan ≡ host_after host refreshed.plan)

-- and what both give is what refreshing may give
abbrev pub UnmergeThenMergeIsRefresh : Type 0
UnmergeThenMergeIsRefresh =
    (told : HeldFile → Told) (old new : ℕ) (host : Host) (class : Extension) (force : Bool) (unmerged : Option Plan) (merged : Merge)
    → IsValidHost host
    → Unmerges host class (Ok unmerged)
    → Merges told old new (host_after host unmerged) class force (Ok merged)
    → (plan : Option Plan)
    × Refreshes told old new host class force (Ok (record { plan = plan; names = merged.names }))
    × (host_after host plan ≡ host_after (host_after host unmerged) merged.plan)

-- it is told of each file what it has, or that it is missing
abbrev pub TellsAll : (HeldFile → Told) → Type 0
TellsAll told = (held : HeldFile) → told held ≢ untold

-- where that is told, what refreshing gives is what unmerging and then merging give
abbrev pub RefreshGivesUnmergeThenMerge : Type 0
RefreshGivesUnmergeThenMerge =
    (told : HeldFile → Told) (old new : ℕ) (host : Host) (class : Extension) (force : Bool) (unmerged : Option Plan) (merged refreshed : Merge)
    → TellsAll told
    → IsValidHost host
    → Unmerges host class (Ok unmerged)
    → Merges told old new (host_after host unmerged) class force (Ok merged)
    → Refreshes told old new host class force (Ok refreshed)
    → (refreshed.names ≡ merged.names) × (host_after host refreshed.plan ≡ host_after (host_after host unmerged) merged.plan)

-- where that is told, a host has one survey
abbrev pub OneSurvey : Type 0
OneSurvey =
    (told : HeldFile → Told) (host : Host) (base : Entries HeldFile) (class : Extension) (force : Bool) (items others : List SurveyItem)
    → TellsAll told
    → IsSurveyOf told host base class force items
    → IsSurveyOf told host base class force others
    → items ≡ others

-- chosen images have one view
abbrev pub OneView : Type 0
OneView =
    (host : Host) (class : Extension) (base : Entries HeldFile) (items : List SurveyItem) (next other : Host)
    → IsMergedHost host class base items next
    → IsMergedHost host class base items other
    → next ≡ other

-- no whiteout and no opaque directory is seen at the hierarchies of a view
abbrev pub NothingHidesInViews : Type 0
NothingHidesInViews =
    (host : Host) (class : Extension) (base : Entries HeldFile) (items : List SurveyItem) (next : Host)
    (path : List (List ℕ)) (e : Entry HeldFile)
    → HasView host class base items next
    → IsTrue (is_in (hierarchies_at class host) path)
    → lookup next.root path ≡ Some e
    → IsTrue (not (is_hide e)) × IsTrue (not (is_opaque e))

-- merging keeps the base, and so does unmerging
abbrev pub MergingKeepsTheBase : Type 0
MergingKeepsTheBase =
    (host : Host) (class : Extension) (base : Entries HeldFile) (items : List SurveyItem) (next : Host)
    → IsValidHost host
    → IsBase host base
    → IsMergedHost host class base items next
    → IsBase next base

-- unmerging undoes merging
abbrev pub UnmergeUndoesMerge : Type 0
UnmergeUndoesMerge =
    (host : Host) (class : Extension) (base : Entries HeldFile) (items : List SurveyItem) (next back : Host)
    → IsValidHost host
    → IsBase host base
    → IsMergedHost host class base items next
    → IsUnmerged next class back
    → IsUnmerged host class back

-- What a merge changes, as the code finds it.
use Rattle.std.specs.Prelude.{◌≡◌, ℕ, List, [], ◌∷◌, Option, Some, None}
use Rattle.ext_host.specs.declared.host.Plan.{Plan}
use Rattle.ext_changes.specs.Changes.{AreChanges, Changes}
use Rattle.ext_view.specs.Inside.{inside}
use Rattle.ext_view.specs.declared.outcome.Merge.{Merge}
use Rattle.ext_explain.specs.ViewChanges.{stamp_held}

-- what the host of a plan shows over what lies under its view; nothing where there is no plan
abbrev pub AreChangesOfPlan : List (List ℕ) → Option Plan → Changes → Type 0
AreChangesOfPlan names None changes = changes ≡ []
AreChangesOfPlan names (Some plan) changes = AreChanges stamp_held stamp_held (inside names plan.next.lower) (inside names plan.next.root) changes

-- nothing where no image is merged
abbrev pub AreChangesOfNames : List (List ℕ) → List (List ℕ) → Option Plan → Changes → Type 0
AreChangesOfNames names [] plan changes = changes ≡ []
AreChangesOfNames names (n ∷ merged) plan changes = AreChangesOfPlan names plan changes

-- of a merge
abbrev pub AreChangesOf : List (List ℕ) → Merge → Changes → Type 0
AreChangesOf names merge changes = AreChangesOfNames names merge.names merge.plan changes

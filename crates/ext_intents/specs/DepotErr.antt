-- Why nothing was planned, where a text of the depot was looked for.
use Rattle.std.specs.Prelude.{ℕ}
use Rattle.ext_text.specs.Causes.{Rose}
use Rattle.ext_depot.specs.declared.depot_err.DepotErr.{DepotErr}
use Rattle.ext_depot.specs.declared.depot_err.DepotErr.TheVariants as depot_errors
use Rattle.ext_intents.specs.declared.plan_err.PlanErr.{PlanErr}
use Rattle.ext_intents.specs.declared.plan_err.PlanErr.TheVariants.{DepotFault, Shelf, OutOfMemory}

-- what an error of the depot is to a planner
abbrev pub of_depot : DepotErr → PlanErr
of_depot depot_errors.Fault = DepotFault
of_depot depot_errors.OutOfMemory = OutOfMemory

-- the depot had a fault, or there was no memory
abbrev pub PlanCause : ℕ → ℕ → PlanErr → Type 0
PlanCause before after DepotFault = Rose before after
PlanCause before after (Shelf e) = ⊥
PlanCause before after OutOfMemory = Unit {0}

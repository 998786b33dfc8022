use Rattle.std.proofs.Common.{◌≡◌, ◌++◌, map, drop}
use Rattle.ext_update.specs.declared.draft.Arrival.{Arrival}
use Rattle.ext_update.proofs.blocking.append_targets.Given as goal

-- the paths so far and those of the resources that are left
abbrev pub invariant-arrivals : goal.invariant-arrivals
invariant-arrivals l =
    l.paths.items ++ map (λ (arrival : Arrival). arrival.target) (drop l.arrival-index l.arrivals)
    ≡ l.initial.paths.items ++ map (λ (arrival : Arrival). arrival.target) l.arrivals

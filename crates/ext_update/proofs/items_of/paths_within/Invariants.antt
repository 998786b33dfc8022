use Rattle.std.proofs.Common.{◌≡◌, ◌++◌, map, drop}
use Rattle.std.specs.List.{filter}
use Rattle.ext_update.specs.Drafts.{arrives_at}
use Rattle.ext_update.specs.Stages.{is_within_limits}
use Rattle.ext_update.proofs.items_of.paths_within.Given as goal

-- the paths so far and those of the resources that are left
abbrev pub invariant-arrivals : goal.invariant-arrivals
invariant-arrivals l =
    l.paths.items ++ filter is_within_limits (map arrives_at (drop l.arrival-index l.arrivals))
    ≡ filter is_within_limits (map arrives_at l.arrivals)

use Rattle.std.proofs.Common.{◌≡◌, ◌++◌, ◌-◌, ◌≤◌, ℕ, List, []}
use Rattle.ext_tree.specs.Part.{part}
use Rattle.ext_walk.specs.Walk.{most_links, walk}
use Rattle.ext_walk.specs.Steps.{Same}
use Rattle.ext_walk.specs.Upcoming.{upcoming}
use Rattle.ext_walk.proofs.walking.walk_end.Given as goal

abbrev pub invariant-links : goal.invariant-links
invariant-links g l = (next : List (List ℕ)) × (l.at ≡ l.image ++ next) × (l.links ≤ most_links) × Same (part l.image l.tree) (walk [] (upcoming l.fn.names.items) 0) (walk next (upcoming l.left.items) l.links)

abbrev pub decreases-links : goal.decreases-links
decreases-links g l = most_links - l.links

use Rattle.std.proofs.Common.{◌≡◌, ◌++◌, ℕ, List, length}
use Rattle.ext_tree.specs.Part.{part}
use Rattle.ext_walk.specs.Walk.{walk}
use Rattle.ext_walk.specs.Steps.{Same}
use Rattle.ext_walk.specs.Upcoming.{upcoming}
use Rattle.ext_walk.proofs.walking.to_link.Given as goal

abbrev pub invariant-names : goal.invariant-names
invariant-names g l = (at : List (List ℕ)) → l.from ≡ l.image ++ at → (next : List (List ℕ)) × (l.here ≡ l.image ++ next) × ((links : ℕ) → Same (part l.image l.tree) (walk at (upcoming l.fn.left.items) links) (walk next (upcoming l.left.items) links))

abbrev pub decreases-names : goal.decreases-names
decreases-names g l = length l.left.items

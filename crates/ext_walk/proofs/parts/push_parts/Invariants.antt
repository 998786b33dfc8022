use Rattle.std.proofs.Common.{◌≡◌, ◌++◌, length}
use Rattle.ext_walk.specs.Upcoming.{upcoming}
use Rattle.ext_walk.specs.Walk.{parts}
use Rattle.ext_walk.proofs.parts.push_parts.Given as goal

abbrev pub invariant-parts : goal.invariant-parts
invariant-parts l = parts l.text ++ upcoming l.fn.left.items ≡ parts l.rest ++ upcoming l.left.items

abbrev pub decreases-parts : goal.decreases-parts
decreases-parts l = length l.rest

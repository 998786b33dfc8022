use Rattle.std.proofs.Common.{◌≡◌, ◌+◌, ◌-◌, length}
use Rattle.ext_depot.specs.DepotText.{most_text}
use Rattle.ext_depot.proofs.DepotTextLemmas.{HasRead}
use Rattle.ext_depot.proofs.depot_text.read_whole.Given as goal

-- what was read stands in the bytes, and the buffer keeps its length
abbrev pub invariant-pieces : goal.invariant-pieces
invariant-pieces g l =
    HasRead (g.P.Depot.state l.initial.depot) (g.P.Depot.state l.depot) l.path l.bytes.items
    × (length l.buffer.items ≡ 65536)

abbrev pub decreases-pieces : goal.decreases-pieces
decreases-pieces g l = most_text + 1 - length l.bytes.items

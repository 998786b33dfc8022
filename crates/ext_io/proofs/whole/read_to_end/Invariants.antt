use Rattle.std.proofs.Common.{◌≡◌, ◌+◌, ◌-◌, min, length}
use Rattle.ext_io.proofs.WholeLemmas.{HasTaken}
use Rattle.ext_io.proofs.whole.read_to_end.Given as goal

-- what was taken stands in the bytes, and the buffer keeps its length
abbrev pub invariant-pieces : goal.invariant-pieces
invariant-pieces g l =
    HasTaken (g.S.Source.state l.initial.source) (g.S.Source.state l.source) l.bytes.items l.most
    × (length l.buffer.items ≡ min 65536 (l.most + 1))

abbrev pub decreases-pieces : goal.decreases-pieces
decreases-pieces g l = l.most + 1 - length l.bytes.items

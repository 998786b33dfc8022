use Rattle.std.proofs.Common.{◌≡◌, ◌-◌, min, length}
use Rattle.sha2.specs.Hashers.{Holds256}
use Rattle.ext_store_files.proofs.ComparingLemmas.{WithText}
use Rattle.ext_store_files.proofs.comparing.read_whole.Given as goal

-- what was read is hashed, and the text's so far or not, and the buffer keeps its length
abbrev pub invariant-pieces : goal.invariant-pieces
invariant-pieces g l =
    WithText l.path (g.D.Disk.state l.initial.disk) (g.D.Disk.state l.disk) l.text (Holds256 l.hasher) l.same l.at
    × (length l.buffer.items ≡ min 65536 (length l.text))

abbrev pub decreases-pieces : goal.decreases-pieces
decreases-pieces g l = length l.text - l.at

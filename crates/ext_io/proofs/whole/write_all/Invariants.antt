use Rattle.std.proofs.Common.{length, ◌-◌}
use Rattle.ext_io.proofs.WholeLemmas.{HasWritten}
use Rattle.ext_io.proofs.whole.write_all.Given as goal

-- a prefix of the bytes was written
abbrev pub invariant-pieces : goal.invariant-pieces
invariant-pieces g l = HasWritten (g.K.Sink.state l.initial.sink) (g.K.Sink.state l.sink) l.bytes l.at

abbrev pub decreases-pieces : goal.decreases-pieces
decreases-pieces g l = length l.bytes - l.at

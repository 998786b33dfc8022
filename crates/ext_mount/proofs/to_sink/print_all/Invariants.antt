use Rattle.std.proofs.Common.{length, ◌-◌}
use Rattle.ext_mount.proofs.PrintedLemmas.{HasPrinted}
use Rattle.ext_mount.proofs.to_sink.print_all.Given as goal

-- so much of the bytes has been printed, after what waited
abbrev pub invariant-pieces : goal.invariant-pieces
invariant-pieces g l = HasPrinted (g.K.Sink.state l.initial.sink) (g.K.Sink.state l.sink) l.initial.buffer l.buffer l.bytes l.at

abbrev pub decreases-pieces : goal.decreases-pieces
decreases-pieces g l = length l.bytes - l.at

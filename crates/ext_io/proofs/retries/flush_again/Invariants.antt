use Rattle.std.specs.Io.KnownBytes.{Keeps}
use Rattle.ext_io.proofs.retries.flush_again.Given as goal

-- no interrupted call has written anything
abbrev pub invariant-tries : goal.invariant-tries
invariant-tries g l = Keeps (g.W.Write.contents l.initial.writer) (g.W.Write.contents l.writer)

use Rattle.std.specs.Io.KnownBytes.{Keeps}
use Rattle.ext_io.proofs.retries.read_again.Given as goal

-- no interrupted call has taken anything
abbrev pub invariant-tries : goal.invariant-tries
invariant-tries g l = Keeps (g.R.Read.remaining l.initial.reader) (g.R.Read.remaining l.reader)

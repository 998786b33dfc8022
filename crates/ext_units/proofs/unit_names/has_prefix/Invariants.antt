use Rattle.std.proofs.Common.{ℕ, ◌<◌}
use Rattle.ext_units.proofs.NameLemmas.{begins_at}
use Rattle.ext_units.proofs.unit_names.has_prefix.Given as goal

abbrev pub invariant-bytes : goal.invariant-bytes
invariant-bytes l = (k : ℕ) → k < l.index → ¬ begins_at l.prefixes l.name k

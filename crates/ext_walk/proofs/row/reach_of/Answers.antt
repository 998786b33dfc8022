use Rattle.std.proofs.Common.{sym, ◌∙◌}
use Rattle.ext_walk.specs.Row.{has_name}
use Rattle.ext_walk.proofs.NextLemmas.{none_past}
use Rattle.ext_walk.proofs.row.reach_of.Goals as goal

pub returns-then-not-has_name-clause-past : goal.returns-then-not-has_name-clause-past
returns-then-not-has_name-clause-past g c =
    none_past (has_name c.args.depth c.args.name.now) c.args.entries.now c.doubling.reach c.index-entries-reach.result c.doubling-test.true c.index-entries-reach.is (sym c.has_name.ensures ∙ c.if-not-has_name.true)

use Rattle.std.proofs.Common.{arith}
use Rattle.ext_updated.specs.Putting.{lacks}
use Rattle.ext_updated.proofs.LoopLemmas.{next_prefixes}
use Rattle.ext_updated.proofs.paths_above.append_prefixes.Goals as goal

pub names-preserved : goal.names-preserved
names-preserved g c =
    next_prefixes (lacks c.args.tree.now) c.args.path.now c.names.names c.names.paths.items c.append_prefix.new.paths.items _ (omega arith) c.in_ok-append_prefix.ensures c.names.invariant

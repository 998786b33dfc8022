use Rattle.std.proofs.Common.{arith}
use Rattle.ext_tree.proofs.WritingLemmas.{counted_known, version_next}
use Rattle.ext_tree.proofs.writing.version_of.Goals as goal

pub loop-entry-preserved : goal.loop-entry-preserved
loop-entry-preserved c = version_next c.args.entries.now c.loop-entry.entry-index c.entry-item.result c.loop-entry.version c.needed_version.result c.higher-version.result c.loop-entry.invariant c.entry-item.is c.loop-entry-test.true c.needed_version.ensures c.higher-version.ensures

pub returns-clause-known : goal.returns-clause-known
returns-clause-known c = counted_known c.args.entries.now c.loop-entry.entry-index c.loop-entry.version c.loop-entry.invariant

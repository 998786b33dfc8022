use Rattle.ext_tree.proofs.TreeTextLemmas.{adds}
use Rattle.ext_tree.proofs.reading.may_add.Goals as goal

pub returns-then-entries-lt-MOST_ENTRIES : goal.returns-then-entries-lt-MOST_ENTRIES
returns-then-entries-lt-MOST_ENTRIES c = adds c.args.entries.now c.args.path.now c.may_follow.result c.requires c.if-entries-lt-MOST_ENTRIES.true c.may_follow.ensures

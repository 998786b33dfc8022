use Rattle.std.proofs.Common.{[], Some, None, subst}
use Rattle.ext_walk.specs.Walk.{ResolvesIn}
use Rattle.ext_walk.proofs.ForCallers.{resolves_whole}
use Rattle.ext_find.proofs.ReleaseLemmas.{content_none, content_there}
use Rattle.ext_find.proofs.release.content_of_path.Goals as goal

pub returns-in-None : goal.returns-in-None
returns-in-None g c =
    content_none c.args.base.now c.args.names.now (resolves_whole c.args.base.now c.args.names.now None c.pairs-entries.ensures.tree.tree (subst (ResolvesIn c.args.base.now [] c.args.names.now) c.in-None.is (rw c.root.ensures at c.in_ok-end_of_path.ensures)))

pub returns-in-Some : goal.returns-in-Some
returns-in-Some g c =
    content_there c.args.base.now c.args.names.now c.in-Some.end c.content_at.result (resolves_whole c.args.base.now c.args.names.now (Some c.in-Some.end) c.pairs-entries.ensures.tree.tree (subst (ResolvesIn c.args.base.now [] c.args.names.now) c.in-Some.is (rw c.root.ensures at c.in_ok-end_of_path.ensures))) c.content_at.ensures

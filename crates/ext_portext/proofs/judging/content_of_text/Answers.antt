use Rattle.std.proofs.Common.{[], Some, None, subst}
use Rattle.ext_walk.specs.Walk.{ResolvesIn, parts}
use Rattle.ext_walk.proofs.ForCallers.{resolves_whole}
use Rattle.ext_portext.proofs.ContentLemmas.{content_none, content_there}
use Rattle.ext_portext.proofs.judging.content_of_text.Goals as goal

pub returns-in-None : goal.returns-in-None
returns-in-None c =
    content_none c.args.tree.now (parts c.args.text.now) (resolves_whole c.args.tree.now (parts c.args.text.now) None c.pairs-entries.ensures.tree.tree (subst (ResolvesIn c.args.tree.now [] (parts c.args.text.now)) c.in-None.is (rw c.root.ensures at c.in_ok-end_of_text.ensures)))

pub returns-in-Some : goal.returns-in-Some
returns-in-Some c =
    content_there c.args.tree.now (parts c.args.text.now) c.in-Some.end c.held_at.result (resolves_whole c.args.tree.now (parts c.args.text.now) (Some c.in-Some.end) c.pairs-entries.ensures.tree.tree (subst (ResolvesIn c.args.tree.now [] (parts c.args.text.now)) c.in-Some.is (rw c.root.ensures at c.in_ok-end_of_text.ensures))) c.held_at.ensures

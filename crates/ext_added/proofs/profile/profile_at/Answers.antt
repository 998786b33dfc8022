use Rattle.std.proofs.Common.{[], Some, None, subst}
use Rattle.ext_walk.specs.Walk.{ResolvesIn, parts}
use Rattle.ext_walk.proofs.ForCallers.{resolves_whole}
use Rattle.ext_added.proofs.ProfileLemmas.{no_end, profile_there}
use Rattle.ext_added.proofs.profile.profile_at.Goals as goal

pub returns-in-None : goal.returns-in-None
returns-in-None c =
    no_end c.args.base.now (parts c.args.text.now)
    (resolves_whole c.args.base.now (parts c.args.text.now) None c.pairs-entries.ensures.tree.tree
    (subst (ResolvesIn c.args.base.now [] (parts c.args.text.now)) c.in-None.is (rw c.root.ensures at c.in_ok-end_of_text.ensures)))

pub returns-in-Some : goal.returns-in-Some
returns-in-Some c =
    profile_there c.args.base.now (parts c.args.text.now) c.in-Some.end c.profile_where.result
    (resolves_whole c.args.base.now (parts c.args.text.now) (Some c.in-Some.end) c.pairs-entries.ensures.tree.tree
    (subst (ResolvesIn c.args.base.now [] (parts c.args.text.now)) c.in-Some.is (rw c.root.ensures at c.in_ok-end_of_text.ensures)))
    c.profile_where.ensures

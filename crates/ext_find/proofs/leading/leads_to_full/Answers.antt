use Rattle.std.proofs.Common.{[], Some, None, subst}
use Rattle.ext_walk.specs.Walk.{ResolvesIn}
use Rattle.ext_walk.proofs.ForCallers.{leads_iff, leads_none, resolves_whole}
use Rattle.ext_find.specs.Content.{is_full_at}
use Rattle.ext_find.proofs.leading.leads_to_full.Goals as goal

pub returns-in-None : goal.returns-in-None
returns-in-None g c =
    leads_none (is_full_at g.C.Measured.size) c.args.tree.now c.args.names.now (resolves_whole c.args.tree.now c.args.names.now None c.pairs-entries.ensures.tree.tree (subst (ResolvesIn c.args.tree.now [] c.args.names.now) c.in-None.is (rw c.root.ensures at c.in_ok-end_of_path.ensures)))

pub returns-in-Some : goal.returns-in-Some
returns-in-Some g c =
    leads_iff (is_full_at g.C.Measured.size) c.args.tree.now c.args.names.now c.in-Some.end c.is_full_at.result (resolves_whole c.args.tree.now c.args.names.now (Some c.in-Some.end) c.pairs-entries.ensures.tree.tree (subst (ResolvesIn c.args.tree.now [] c.args.names.now) c.in-Some.is (rw c.root.ensures at c.in_ok-end_of_path.ensures))) c.is_full_at.ensures

use Rattle.std.proofs.Common.{sym, ◌∙◌, subst}
use Rattle.ext_walk.proofs.ForCallers.{row_of_named}
use Rattle.ext_find.specs.Pick.{IsBest, Picks}
use Rattle.ext_find.proofs.PickLemmas.{best_next, candidates_left, picked}
use Rattle.ext_find.proofs.pick.pick.Goals as goal

pub names-init : goal.names-init
names-init g c = (
  row_of_named c.args.directory.now c.as_slice.result.now c.args.base.now c.named-rest.result.now c.named-rest.ensures.sorted c.named-rest.ensures.same,
  candidates_left c.args.base.now c.args.arch c.args.path.now c.args.stem.now c.as_slice.result.now c.args.directory.now c.named-rest.result.now c.pairs-entries.ensures.tree.tree c.requires (c.as_slice.ensures.value ∙ c.in_ok-start.ensures) c.named-rest.ensures.same,
)

pub returns-in-None : goal.returns-in-None
returns-in-None g c =
    subst (Picks c.args.base.now c.args.arch c.args.path.now c.args.stem.now) (sym c.name_of.ensures)
    (picked c.args.base.now c.args.arch c.args.path.now c.args.stem.now c.args.directory.now c.names.rest.now c.names.best c.in-None.ensures c.names.invariant.1)

pub names-preserved : goal.names-preserved
names-preserved g c = (
  c.in-Some.ensures.row,
  subst (IsBest c.args.base.now c.args.arch c.args.path.now c.args.stem.now c.args.directory.now c.in-Some.next.more.now) (sym c.better-best.ensures)
      (best_next c.args.base.now c.args.arch c.args.path.now c.args.stem.now c.args.directory.now c.names.rest.now c.in-Some.next.more.now c.in-Some.next.name.now c.in-Some.ensures.passes c.names.best c.in_ok-found-in-Some.found c.names.invariant.1
      (c.in_ok-found-in-Some.ensures c.args.directory.now c.args.stem.now c.requires c.in-Some.ensures.path (c.as_slice-in-Some.ensures.value ∙ c.in_ok-start.ensures))),
)

use Rattle.ext_walk.proofs.ForCallers.{row_of_below}
use Rattle.ext_find.proofs.KeepsLemmas.{keeps_end, keeps_next, keeps_start}
use Rattle.ext_find.proofs.finding.keep_names.Goals as goal

pub names-init : goal.names-init
names-init g c = (
  row_of_below c.args.directory.now c.args.search.now.base.now c.below-rest.result.now c.below-rest.ensures.sorted c.below-rest.ensures.same,
  keeps_start g.C.Measured.size c.args.search.now.base.now c.args.search.now.class c.args.search.now.arch c.args.search.now.hierarchies.now c.args.index c.args.directory.now c.requires.opens c.args.kept.now c.below-rest.result.now c.below-rest.ensures.same c.requires.kept,
)

pub returns-in-None : goal.returns-in-None
returns-in-None g c =
    keeps_end g.C.Measured.size c.args.search.now.base.now c.args.search.now.class c.args.search.now.arch c.args.search.now.hierarchies.now c.args.index c.args.directory.now c.requires.opens c.names.kept c.names.rest.now c.in-None.ensures c.names.invariant.1

pub names-preserved : goal.names-preserved
names-preserved g c = (
  c.in-Some.ensures.row,
  keeps_next g.C.Measured.size c.args.search.now.base.now c.args.search.now.class c.args.search.now.arch c.args.search.now.hierarchies.now c.args.index c.args.directory.now c.requires.opens c.names.rest.now c.in-Some.next.more.now c.in-Some.next.name.now c.in-Some.ensures.passes c.names.kept c.keep_item.new.kept c.names.invariant.1 c.in_ok-usable_at-in-Some.field-0 (c.in_ok-usable_at-in-Some.ensures c.args.directory.now c.in-Some.ensures.path) c.in_ok-keep_item-in-Some.ensures,
)

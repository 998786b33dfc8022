use Rattle.std.proofs.Common.{codes}
use Rattle.ext_walk.proofs.ForCallers.{row_of_named}
use Rattle.ext_configs.proofs.ListedLemmas.{lists_end, lists_next, lists_start}
use Rattle.ext_configs.proofs.component_names.add_names.Goals as goal

pub names-init : goal.names-init
names-init g c = (
  row_of_named c.args.directory.now (codes "sysupdate.") c.args.base.now c.named-rest.result.now c.named-rest.ensures.sorted c.named-rest.ensures.same,
  lists_start c.args.base.now c.args.index c.args.directory.now c.requires.opens c.args.names.now.items c.named-rest.result.now c.named-rest.ensures.same c.requires.listed,
)

pub returns-in-None : goal.returns-in-None
returns-in-None g c =
    lists_end c.args.base.now c.args.index c.args.directory.now c.requires.opens c.names.names.items c.names.rest.now c.in-None.ensures c.names.invariant.1

pub names-preserved : goal.names-preserved
names-preserved g c = (
  c.in-Some.ensures.row,
  lists_next c.args.base.now c.args.index c.args.directory.now c.requires.opens c.names.rest.now c.in-Some.next.more.now c.in-Some.next.name.now c.in-Some.ensures.passes c.names.names.items c.add_found.new.names.items c.names.invariant.1 c.in_ok-component_at-in-Some.field-0 (c.in_ok-component_at-in-Some.ensures c.args.directory.now c.in-Some.ensures.path) c.in_ok-add_found-in-Some.ensures,
)

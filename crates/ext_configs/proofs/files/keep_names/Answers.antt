use Rattle.std.specs.Option.{option_copied}
use Rattle.ext_walk.proofs.ForCallers.{row_of_below}
use Rattle.ext_configs.proofs.KeptLemmas.{keeps_end, keeps_next, keeps_start}
use Rattle.ext_configs.proofs.files.keep_names.Goals as goal

pub names-init : goal.names-init
names-init g c = (
  row_of_below c.args.directory.now c.args.search.now.base.now c.below-rest.result.now c.below-rest.ensures.sorted c.below-rest.ensures.same,
  keeps_start g.C.Measured.size c.args.search.now.base.now (option_copied c.args.search.now.component) c.args.search.now.kind c.args.index c.args.directory.now c.requires.opens c.args.kept.now c.below-rest.result.now c.below-rest.ensures.same c.requires.kept,
)

pub returns-in-None : goal.returns-in-None
returns-in-None g c =
    keeps_end g.C.Measured.size c.args.search.now.base.now (option_copied c.args.search.now.component) c.args.search.now.kind c.args.index c.args.directory.now c.requires.opens c.names.kept c.names.rest.now c.in-None.ensures c.names.invariant.1

pub names-preserved : goal.names-preserved
names-preserved g c = (
  c.in-Some.ensures.row,
  keeps_next g.C.Measured.size c.args.search.now.base.now (option_copied c.args.search.now.component) c.args.search.now.kind c.args.index c.args.directory.now c.requires.opens c.names.rest.now c.in-Some.next.more.now c.in-Some.next.name.now c.in-Some.ensures.passes c.names.kept c.keep_entry.new.kept c.names.invariant.1 c.in_ok-entry_at-in-Some.field-0 (c.in_ok-entry_at-in-Some.ensures c.args.directory.now c.in-Some.ensures.path) c.in_ok-keep_entry-in-Some.ensures,
)

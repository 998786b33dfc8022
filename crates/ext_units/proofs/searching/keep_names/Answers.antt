use Rattle.std.proofs.Common.{is_some, sym, ap, ◌∙◌}
use Rattle.ext_tree.specs.Tree.{lookup}
use Rattle.ext_walk.proofs.ForCallers.{row_of_below}
use Rattle.ext_units.proofs.KeptLemmas.{keeps_end, keeps_next, keeps_start}
use Rattle.ext_units.proofs.searching.keep_names.Goals as goal

pub names-init : goal.names-init
names-init g c = (
  row_of_below c.args.directory.now c.args.search.now.tree.now c.below-rest.result.now c.below-rest.ensures.sorted c.below-rest.ensures.same,
  keeps_start c.args.search.now.tree.now c.args.search.now.prefixes c.args.index c.args.directory.now c.requires.opens c.args.kept.now c.below-rest.result.now c.below-rest.ensures.same c.requires.kept,
)

pub returns-in-None : goal.returns-in-None
returns-in-None g c =
    keeps_end c.args.search.now.tree.now c.args.search.now.prefixes c.args.index c.args.directory.now c.requires.opens c.names.kept c.names.rest.now c.in-None.ensures c.names.invariant.1

pub names-preserved : goal.names-preserved
names-preserved g c =
    let kept = c.in_ok-keep_next-in-Some.ensures c.args.directory.now c.in-Some.ensures.path in (
      c.in-Some.ensures.row,
      keeps_next c.args.search.now.tree.now c.args.search.now.prefixes c.args.index c.args.directory.now c.requires.opens c.names.rest.now c.in-Some.next.more.now c.in-Some.next.name.now
          (ap (λ p. is_some (lookup c.args.search.now.tree.now p)) (sym c.in-Some.ensures.path) ∙ ap is_some c.in-Some.ensures.stands.there)
          c.in-Some.ensures.passes c.names.kept c.keep_next.new.kept c.names.invariant.1 kept.entry kept.says kept.keeps,
    )

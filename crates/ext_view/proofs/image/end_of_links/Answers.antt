use Rattle.std.proofs.Common.{[], subst}
use Rattle.ext_walk.specs.Walk.{ResolvesIn}
use Rattle.ext_view.proofs.ImageLemmas.{ends_whole, not_nowhere}
use Rattle.ext_view.proofs.image.end_of_links.Goals as goal

pub unreachable-requires : goal.unreachable-requires
unreachable-requires c =
    let resolves = subst (λ names. ResolvesIn c.args.base.now [] names c.in_ok-end_of_path.field-0) c.names.ensures.same (rw c.root.ensures at c.in_ok-end_of_path.ensures) in
    not_nowhere c.args.base.now c.args.place.now c.requires.0 c.pairs-entries.ensures.tree.tree c.requires.1 (subst (ResolvesIn c.args.base.now [] c.args.place.now) c.in-None.is resolves)

pub returns : goal.returns
returns c =
    let resolves = subst (λ names. ResolvesIn c.args.base.now [] names c.in_ok-end_of_path.field-0) c.names.ensures.same (rw c.root.ensures at c.in_ok-end_of_path.ensures) in
    ends_whole c.args.base.now c.args.place.now c.in-Some.image c.pairs-entries.ensures.tree.tree (subst (ResolvesIn c.args.base.now [] c.args.place.now) c.in-Some.is resolves)

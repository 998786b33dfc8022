use Rattle.std.proofs.Common.{Some, ◌∙◌}
use Rattle.ext_view.specs.View.{names_of, with_view}
use Rattle.ext_view.proofs.ViewLemmas.{chosen_merged, has_view, view_next}
use Rattle.ext_view.proofs.layering.merged.Goals as goal

pub returns-clause-gives : goal.returns-clause-gives
returns-clause-gives c =
    has_view c.args.host.now c.args.class c.args.base c.args.items.now c.in_ok-root.root c.in_ok-root.lower c.in_ok-with_view.field-0 c.in_ok-root.ensures
    (c.in_ok-with_view.ensures ∙ (λ i. with_view c.args.class (Some (c.in_ok-names.ensures i)) c.in_ok-root.root c.in_ok-root.lower c.args.host.now))

pub returns-clause-next : goal.returns-clause-next
returns-clause-next c =
    let are = c.in_ok-root.ensures in
    view_next c.args.class c.args.host.now c.args.base c.requires.base c.args.items.now are.images are.are_images c.in_ok-root.root c.in_ok-root.lower are.trees c.requires.valid (names_of c.args.items.now) c.in_ok-with_view.field-0
    (chosen_merged c.args.base c.args.items.now c.requires.chosen c.requires.non_empty) are.entries are.bytes
    (c.in_ok-with_view.ensures ∙ (λ i. with_view c.args.class (Some (c.in_ok-names.ensures i)) c.in_ok-root.root c.in_ok-root.lower c.args.host.now))

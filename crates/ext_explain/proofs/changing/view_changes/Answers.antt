use Rattle.std.proofs.Common.{◌∙◌, subst}
use Rattle.ext_explain.specs.Changed.{AreChangesOf}
use Rattle.ext_explain.proofs.ChangesLemmas.{view_changes}
use Rattle.ext_explain.proofs.changing.view_changes.Goals as goal

pub returns-clause-gives : goal.returns-clause-gives
returns-clause-gives g c =
    let refreshes = c.in_ok-merge.ensures.gives in
    let changes = c.in_ok-changes_of.field-0 in (
      refreshes.0,
      refreshes.1,
      view_changes c.args.host.now c.args.class refreshes.0 c.requires.valid refreshes.1 (g.H.Shelf.told c.args.shelf.now) c.args.force c.in_ok-merge.merge changes refreshes.2 c.in_ok-merge.ensures.next
          (subst (λ names. AreChangesOf names c.in_ok-merge.merge changes) (c.as_slice.ensures ∙ c.hierarchies_of.ensures) c.in_ok-changes_of.ensures),
    )

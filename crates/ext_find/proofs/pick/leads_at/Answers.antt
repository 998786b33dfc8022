use Rattle.std.proofs.Common.{[], ◌∷◌, ◌++◌, ap, subst, sym, ◌∙◌, is_some}
use Rattle.std.specs.Prelude.{◌↔◌, IsTrue}
use Rattle.ext_tree.specs.Tree.{lookup}
use Rattle.ext_walk.specs.Leads.{LeadsToDirectory}
use Rattle.ext_find.proofs.StandsLemmas.{child_leads_on}
use Rattle.ext_find.proofs.pick.leads_at.Goals as goal

pub returns-else-is_link : goal.returns-else-is_link
returns-else-is_link g c = λ directory ends at.
    let there = ap (lookup c.args.base.now) (sym at) ∙ c.requires.there in
    subst (λ b. IsTrue b ↔ LeadsToDirectory c.args.base.now (c.args.path.now ++ c.args.next.now.name.now ∷ [])) (sym c.is_directory.ensures)
    (child_leads_on c.args.base.now c.pairs-entries.ensures.tree.tree c.args.path.now directory c.args.next.now.name.now ends (ap is_some there) c.args.next.now.entry.now.1 there (sym c.is_link.ensures ∙ c.if-is_link.false))

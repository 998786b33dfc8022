use Rattle.std.proofs.Common.{[], ◌∷◌, ◌++◌, refl, subst}
use Rattle.ext_walk.specs.Leads.{LeadsToDirectory}
use Rattle.ext_find.proofs.PickLemmas.{none_named, one_named}
use Rattle.ext_find.proofs.pick.candidate_at.Goals as goal

pub returns-in-None : goal.returns-in-None
returns-in-None g c = λ directory stem ends at is. none_named c.args.base.now c.args.arch c.args.path.now stem c.args.start.now c.args.next.now.name.now is c.in-None.ensures

pub returns-then-branch : goal.returns-then-branch
returns-then-branch g c = λ directory stem ends at is.
    let leads = c.in_ok-leads_at-in-Some.ensures directory (rw c.names.ensures.same ends) at in
    let one = one_named c.args.base.now c.args.arch c.args.path.now stem c.args.start.now c.args.next.now.name.now is c.in-Some.version c.in-Some.ensures
    (subst (λ p. LeadsToDirectory c.args.base.now (p ++ c.args.next.now.name.now ∷ [])) c.names.ensures.same (leads.0 c.if-branch.true)) in
    (refl, one.0, one.1)

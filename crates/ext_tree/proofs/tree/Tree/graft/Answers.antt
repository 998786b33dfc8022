use Rattle.std.proofs.Common.{◌≡◌, ◌∙◌, sym, subst, ap, length}
use Rattle.std.specs.Prelude.{OnOk, OnErr}
use Rattle.std.proofs.lemmas.Result.{err_from_is_err_and}
use Rattle.ext_tree.specs.Graft.{Fits, IsTooLong}
use Rattle.ext_tree.specs.Grafting.{AnswersLimit, IsLongPath, StandsBelow, added, joined}
use Rattle.ext_tree.specs.Tree.{IsTree}
use Rattle.ext_tree.proofs.GraftAnswersLemmas.{IsHung, graft_root, hung_answers, hung_graft, hung_within, long_answers, root_answers}
use Rattle.ext_tree.proofs.tree.Tree.graft.Goals as goal

pub returns-then-is_root-clause-ok : goal.returns-then-is_root-clause-ok
returns-then-is_root-clause-ok g c =
    let top = sym c.names.ensures.same ∙ c.is_root.ensures.0 c.if-is_root.true in
    graft_root c.args.self.now c.args.part c.into_pairs.result.items c.args.path.now top c.into_pairs.ensures.same c.into_pairs.ensures.tree

pub returns-then-is_root-clause-answers : goal.returns-then-is_root-clause-answers
returns-then-is_root-clause-answers g c =
    let top = sym c.names.ensures.same ∙ c.is_root.ensures.0 c.if-is_root.true in
    root_answers c.args.self.now c.args.part c.into_pairs.result.items c.args.path.now (tt {0}) top c.into_pairs.ensures.same c.into_pairs.ensures.tree

pub returns-in_err-new-clause-answers : goal.returns-in_err-new-clause-answers
returns-in_err-new-clause-answers g c =
    let p = err_from_is_err_and c.from_residual.result c.from_residual.ensures.1 in
    let stand = subst (λ es. StandsBelow es c.args.path.now c.in-Some.standing) c.pairs.ensures.same c.in-Some.ensures in
    rw (p.1, p.2) (long_answers (Unit {0}) c.args.self.now c.args.part c.args.path.now c.in-Some.standing c.in_err-new.field-0.0 c.pairs.ensures.tree.tree stand (subst (λ u. IsLongPath (IsTooLong c.args.path.now u) c.in_err-new.field-0.0) c.into_pairs-2.ensures.same c.in_err-new.ensures.err))

pub invariant_of-self-2 : goal.invariant_of-self-2
invariant_of-self-2 g c =
    let stand = subst (λ es. StandsBelow es c.args.path.now c.in-Some.standing) c.pairs.ensures.same c.in-Some.ensures in
    let fits : Fits c.args.path.now c.args.part = subst (Fits c.args.path.now) c.into_pairs-2.ensures.same c.in_ok-new.ensures.ok.1 in
    let is : IsHung c.args.self.now c.args.path.now c.args.part c.in-Some.standing = record { tree = c.pairs.ensures.tree; part = subst IsTree c.into_pairs-2.ensures.same c.into_pairs-2.ensures.tree.tree; path = c.names.ensures.path; stand = stand; fits = fits } in
    let new = c.in_ok-new.ensures.ok.0 ∙ ap (added c.args.path.now c.in-Some.standing) c.into_pairs-2.ensures.same in
    let ok = subst (λ es. OnOk c.hang.result (c.hang.new.entries.items ≡ joined c.args.path.now es c.in_ok-new.new.items)) c.self.view_is c.hang.ensures.ok in
    let limit = subst (λ es. AnswersLimit (length (joined c.args.path.now es c.in_ok-new.new.items)) c.hang.result) c.self.view_is c.hang.ensures.limit in
    let err = subst (λ es. OnErr c.hang.result (c.hang.new.entries.items ≡ es)) c.self.view_is c.hang.ensures.err in
    hung_within c.args.self.now c.args.part c.in_ok-new.new.items c.hang.new.entries.items c.args.path.now c.in-Some.standing c.hang.result is new ok limit err

pub returns-clause-ok : goal.returns-clause-ok
returns-clause-ok g c =
    let stand = subst (λ es. StandsBelow es c.args.path.now c.in-Some.standing) c.pairs.ensures.same c.in-Some.ensures in
    let fits : Fits c.args.path.now c.args.part = subst (Fits c.args.path.now) c.into_pairs-2.ensures.same c.in_ok-new.ensures.ok.1 in
    let is : IsHung c.args.self.now c.args.path.now c.args.part c.in-Some.standing = record { tree = c.pairs.ensures.tree; part = subst IsTree c.into_pairs-2.ensures.same c.into_pairs-2.ensures.tree.tree; path = c.names.ensures.path; stand = stand; fits = fits } in
    let new = c.in_ok-new.ensures.ok.0 ∙ ap (added c.args.path.now c.in-Some.standing) c.into_pairs-2.ensures.same in
    let ok = subst (λ es. OnOk c.hang.result (c.hang.new.entries.items ≡ joined c.args.path.now es c.in_ok-new.new.items)) c.self.view_is c.hang.ensures.ok in
    hung_graft c.args.self.now c.args.part c.in_ok-new.new.items c.hang.new.entries.items c.args.path.now c.in-Some.standing c.hang.result is new ok

pub returns-clause-answers : goal.returns-clause-answers
returns-clause-answers g c =
    let stand = subst (λ es. StandsBelow es c.args.path.now c.in-Some.standing) c.pairs.ensures.same c.in-Some.ensures in
    let fits : Fits c.args.path.now c.args.part = subst (Fits c.args.path.now) c.into_pairs-2.ensures.same c.in_ok-new.ensures.ok.1 in
    let is : IsHung c.args.self.now c.args.path.now c.args.part c.in-Some.standing = record { tree = c.pairs.ensures.tree; part = subst IsTree c.into_pairs-2.ensures.same c.into_pairs-2.ensures.tree.tree; path = c.names.ensures.path; stand = stand; fits = fits } in
    let new = c.in_ok-new.ensures.ok.0 ∙ ap (added c.args.path.now c.in-Some.standing) c.into_pairs-2.ensures.same in
    let limit = subst (λ es. AnswersLimit (length (joined c.args.path.now es c.in_ok-new.new.items)) c.hang.result) c.self.view_is c.hang.ensures.limit in
    hung_answers c.args.self.now c.args.part c.in_ok-new.new.items c.args.path.now c.in-Some.standing c.hang.result is new limit

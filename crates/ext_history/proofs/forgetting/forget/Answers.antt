use Rattle.std.proofs.Common.{refl, sym, subst, []}
use Rattle.ext_history.specs.Marks.{HasNoMark}
use Rattle.ext_history.specs.Next.{ComesOf}
use Rattle.ext_history.proofs.NextLemmas.{without_comes}
use Rattle.ext_history.proofs.forgetting.forget.Goals as goal

pub returns-in-None-clause-says : goal.returns-in-None-clause-says
returns-in-None-clause-says c = (refl, subst (λ l. HasNoMark l c.args.which) c.as_slice.ensures c.in-None.ensures)

pub returns-in_ok-without_mark-in-Some-clause-comes : goal.returns-in_ok-without_mark-in-Some-clause-comes
returns-in_ok-without_mark-in-Some-clause-comes c =
    subst (ComesOf c.args.host.now []) (sym c.in_ok-without_mark-in-Some.ensures) (without_comes c.args.host.now c.args.which)

use Rattle.std.proofs.Common.{refl, sym, subst, []}
use Rattle.std.specs.List.{Contains}
use Rattle.ext_history.specs.Marks.{HasNoMark}
use Rattle.ext_history.specs.Next.{ComesOf}
use Rattle.ext_history.proofs.NextLemmas.{back_comes}
use Rattle.ext_history.proofs.rolling_back.rollback.Goals as goal

pub returns-in-None-clause-says : goal.returns-in-None-clause-says
returns-in-None-clause-says c = (refl, subst (λ l. HasNoMark l c.args.to) c.as_slice.ensures c.in-None.ensures)

pub returns-in_ok-back_to-in-Some-clause-comes : goal.returns-in_ok-back_to-in-Some-clause-comes
returns-in_ok-back_to-in-Some-clause-comes c =
    subst (ComesOf c.args.host.now []) (sym c.in_ok-back_to-in-Some.ensures) (back_comes c.args.host.now c.in-Some.past.now (subst (λ l. Contains l c.in-Some.past.now) c.as_slice.ensures c.in-Some.ensures.among))

use Rattle.std.proofs.Common.{sym, subst, ◌∷◌, []}
use Rattle.ext_history.specs.Marks.{marked}
use Rattle.ext_history.specs.Next.{ComesOf}
use Rattle.ext_history.proofs.NextLemmas.{mark_comes}
use Rattle.ext_history.proofs.marking.mark.Goals as goal

pub returns-clause-comes : goal.returns-clause-comes
returns-clause-comes c =
    subst (ComesOf c.args.host.now (marked c.args.generation c.args.host.now ∷ [])) (sym c.in_ok-with_mark.ensures)
    (mark_comes c.args.host.now c.args.generation c.args.keep c.requires.generation c.requires.most)

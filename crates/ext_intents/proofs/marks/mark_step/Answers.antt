use Rattle.std.proofs.Common.{ℕ, ◌<◌, ◌≤◌, sym, subst}
use Rattle.ext_host.specs.Valid.{most_past}
use Rattle.ext_intents.proofs.MarksLemmas.{keeps_some, marked_wants}
use Rattle.ext_intents.proofs.marks.mark_step.Goals as goal

pub mark-requires-clause-some : goal.mark-requires-clause-some
mark-requires-clause-some c = subst (λ (n : ℕ). 0 < n) (sym c.kept_marks.ensures) (keeps_some c.args.keep c.requires.keep).0

pub mark-requires-clause-most : goal.mark-requires-clause-most
mark-requires-clause-most c = subst (λ (n : ℕ). n ≤ most_past) (sym c.kept_marks.ensures) (keeps_some c.args.keep c.requires.keep).1

pub returns : goal.returns
returns c =
    marked_wants c.args.number c.kept_marks.result c.args.host.now c.in_ok-next.next c.args.keep c.kept_marks.ensures c.in_ok-next.ensures.ok c.in_ok-next.ensures.comes

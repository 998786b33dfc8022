use Rattle.std.proofs.Common.{ap, ◌∙◌}
use Rattle.ext_cmd.specs.declared.refusal.Refusal.TheVariants.{NoMark}
use Rattle.ext_intents.specs.declared.intent.Intent.TheVariants.{Refuses}
use Rattle.ext_intents.proofs.MarksLemmas.{not_rolled_back, rolled_back}
use Rattle.ext_intents.proofs.marks.rollback_step.Goals as goal

pub returns-in-Ok : goal.returns-in-Ok
returns-in-Ok c = rolled_back c.args.host.now c.requires c.args.to c.in-Ok.next c.in-Ok.ensures.says

pub returns-in-Err-NoMark : goal.returns-in-Err-NoMark
returns-in-Err-NoMark c =
    let says = rw c.in-Err-NoMark.field-0-is at c.in-Err-NoMark.ensures.says in
    ap (λ n. Refuses (NoMark n)) says.0 ∙ not_rolled_back c.args.host.now c.requires c.args.to says.1

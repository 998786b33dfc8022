use Rattle.std.proofs.Common.{ap, inr, ◌∙◌}
use Rattle.ext_host.specs.declared.host.Host.{Host}
use Rattle.ext_intents.proofs.ImportLemmas.{too_many}
use Rattle.ext_intents.proofs.import.import_part.Goals as goal

pub returns-in-Err-Limit : goal.returns-in-Err-Limit
returns-in-Err-Limit c =
    let answers = rw c.in-Err-Limit.field-0-is at c.in-Err-Limit.ensures.answers in
    too_many c.args.host.now c.args.path.now c.touch.new.self.root c.args.part answers.2.0 _
    (ap (λ (h : Host). h.root) c.touch.ensures ∙ ap (λ (h : Host). h.root) c.in_ok-next.ensures) answers.1 answers.2.1 answers.2.2 c.limit-in-Err-Limit.ensures

pub returns-in-Err-Path : goal.returns-in-Err-Path
returns-in-Err-Path c =
    let answers = rw c.in-Err-Path.field-0-is at c.in-Err-Path.ensures.answers in
    inr (λ fits. answers.1.2 (fits answers.1.0 answers.1.1), c.limit.ensures)

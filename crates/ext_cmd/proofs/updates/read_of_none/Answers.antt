use Rattle.std.proofs.Common.{sym, ◌∙◌}
use Rattle.std.proofs.lemmas.Bool.{false≢true}
use Rattle.std.proofs.lemmas.Result.{err_from_is_err_and}
use Rattle.ext_cmd.proofs.UpdateLemmas.{asked_refused, components_more}
use Rattle.ext_cmd.proofs.updates.read_of_none.Goals as goal

pub returns-in_err-no_more : goal.returns-in_err-no_more
returns-in_err-no_more c =
    let p = err_from_is_err_and c.from_residual.result c.from_residual.ensures.1 in
    rw (p.1, p.2) (components_more c.args.word.now c.args.more.now _ (c.is_components.ensures.0 c.if-is_components.true) c.in_err-no_more.ensures)

pub returns-in_err-verb : goal.returns-in_err-verb
returns-in_err-verb c =
    let p = err_from_is_err_and c.from_residual-in_err-verb.result c.from_residual-in_err-verb.ensures.1 in
    rw (p.1, p.2) (asked_refused c.args.word.now c.args.more.now _ c.requires (λ same. false≢true (sym c.if-is_components.false ∙ c.is_components.ensures.1 same)) c.in_err-verb.ensures)

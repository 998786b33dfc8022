use Rattle.std.proofs.lemmas.Result.{err_from_is_err_and}
use Rattle.ext_cmd.proofs.ChosenLemmas.{list_refused, with_others}
use Rattle.ext_cmd.proofs.hierarchies.read_chosen.Goals as goal

pub returns-in_err-sysext-in-Some : goal.returns-in_err-sysext-in-Some
returns-in_err-sysext-in-Some c =
    let p = err_from_is_err_and c.from_residual.result c.from_residual.ensures.1 in
    rw (p.1, p.2) (list_refused c.in-Some.word.now c.in-Some.more c.args.words.now _ c.in-Some.ensures c.in_err-sysext-in-Some.ensures)

pub returns-in_ok-sysext-in-Some : goal.returns-in_ok-sysext-in-Some
returns-in_ok-sysext-in-Some c =
    let names = c.in_ok-sysext-in-Some.ensures in
    with_others c.in_ok-sysext-in-Some.sysext c.in-Some.word.now c.in-Some.more c.args.words.now c.read_others.result names.0 names.1 c.in-Some.ensures c.read_others.ensures

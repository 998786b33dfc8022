use Rattle.std.proofs.lemmas.Result.{err_from_is_err_and}
use Rattle.ext_cmd.specs.Grammar.{IsArchWord, IsScopeWord, TakesChosen, Then}
use Rattle.ext_cmd.proofs.FaultLemmas.{then_missing, then_wrong}
use Rattle.ext_cmd.proofs.ChosenLemmas.{some_init, with_arch}
use Rattle.ext_cmd.proofs.readers.read_init.Goals as goal

pub returns-in-None : goal.returns-in-None
returns-in-None c = then_missing IsArchWord (Then IsScopeWord TakesChosen) c.args.more.now 2 some_init c.in-None.ensures

pub returns-in_err-arch-in-Some : goal.returns-in_err-arch-in-Some
returns-in_err-arch-in-Some c =
    let p = err_from_is_err_and c.from_residual.result c.from_residual.ensures.1 in
    rw (p.1, p.2) (then_wrong IsArchWord (Then IsScopeWord TakesChosen) c.in-Some.word.now c.in-Some.more c.args.more.now 2 _ some_init c.in-Some.ensures c.in_err-arch-in-Some.ensures)

pub returns-in_ok-arch-in-Some : goal.returns-in_ok-arch-in-Some
returns-in_ok-arch-in-Some c =
    with_arch c.in_ok-arch-in-Some.arch c.in-Some.word.now c.in-Some.more c.args.more.now c.read_init_of.result c.in_ok-arch-in-Some.ensures.1 c.in-Some.ensures c.read_init_of.ensures

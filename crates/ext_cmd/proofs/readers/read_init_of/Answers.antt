use Rattle.std.proofs.Common.{refl}
use Rattle.std.proofs.lemmas.Result.{err_from_is_err_and}
use Rattle.ext_cmd.specs.Grammar.{IsScopeWord, TakesChosen}
use Rattle.ext_cmd.proofs.FaultLemmas.{then_missing, then_wrong, then_after}
use Rattle.ext_cmd.proofs.ChosenLemmas.{some_scope}
use Rattle.ext_cmd.proofs.readers.read_init_of.Goals as goal

pub returns-in-None : goal.returns-in-None
returns-in-None c = then_missing IsScopeWord TakesChosen c.args.more.now 3 some_scope c.in-None.ensures

pub returns-in_err-scope-in-Some : goal.returns-in_err-scope-in-Some
returns-in_err-scope-in-Some c =
    let p = err_from_is_err_and c.from_residual.result c.from_residual.ensures.1 in
    rw (p.1, p.2) (then_wrong IsScopeWord TakesChosen c.in-Some.word.now c.in-Some.more c.args.more.now 3 _ some_scope c.in-Some.ensures c.in_err-scope-in-Some.ensures)

pub returns-in_err-hierarchies-in-Some : goal.returns-in_err-hierarchies-in-Some
returns-in_err-hierarchies-in-Some c =
    let p = err_from_is_err_and c.from_residual-in_err-hierarchies-in-Some.result c.from_residual-in_err-hierarchies-in-Some.ensures.1 in
    let scope = c.in_ok-scope-in-Some.ensures in
    rw (p.1, p.2) (then_after IsScopeWord TakesChosen c.in-Some.word.now c.in-Some.more c.args.more.now 3 4 _ refl (record { value = c.in_ok-scope-in-Some.scope; is = scope.0; same = scope.1 }) c.in-Some.ensures c.in_err-hierarchies-in-Some.ensures)

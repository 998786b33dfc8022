use Rattle.std.proofs.Common.{refl}
use Rattle.std.proofs.lemmas.Result.{err_from_is_err_and}
use Rattle.ext_cmd.specs.Grammar.{HasNoMore, IsPathWord, IsResourceWord, Then}
use Rattle.ext_cmd.proofs.FaultLemmas.{then_missing, then_wrong, then_after}
use Rattle.ext_cmd.proofs.WordLemmas.{some_import}
use Rattle.ext_cmd.proofs.readers.read_import.Goals as goal

pub returns-in-None : goal.returns-in-None
returns-in-None c = then_missing IsResourceWord (Then IsPathWord HasNoMore) c.args.more.now 2 some_import c.in-None.ensures

pub returns-in_err-resource-in-Some : goal.returns-in_err-resource-in-Some
returns-in_err-resource-in-Some c =
    let p = err_from_is_err_and c.from_residual.result c.from_residual.ensures.1 in
    rw (p.1, p.2) (then_wrong IsResourceWord (Then IsPathWord HasNoMore) c.in-Some.word.now c.in-Some.more c.args.more.now 2 _ some_import c.in-Some.ensures c.in_err-resource-in-Some.ensures)

pub returns-in_err-path-in-Some : goal.returns-in_err-path-in-Some
returns-in_err-path-in-Some c =
    let p = err_from_is_err_and c.from_residual-in_err-path-in-Some.result c.from_residual-in_err-path-in-Some.ensures.1 in
    let resource = c.in_ok-resource-in-Some.ensures in
    rw (p.1, p.2) (then_after IsResourceWord (Then IsPathWord HasNoMore) c.in-Some.word.now c.in-Some.more c.args.more.now 2 3 _ refl (record { value = c.in_ok-resource-in-Some.resource; is = resource.0; same = resource.1 }) c.in-Some.ensures c.in_err-path-in-Some.ensures)

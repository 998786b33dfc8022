use Rattle.std.proofs.Common.{ap, length, refl, arith}
use Rattle.std.proofs.lemmas.Result.{err_from_is_err_and}
use Rattle.ext_cmd.proofs.PortLemmas.{names_done, names_next, names_refused, names_start}
use Rattle.ext_cmd.proofs.services.read_prefixes.Goals as goal

pub words-init : goal.words-init
words-init c = rw (c.new-names.ensures, c.copy-rest.ensures) (names_start c.args.words.now 4)

pub returns-in-None : goal.returns-in-None
returns-in-None c = names_done c.args.words.now 4 c.words.names c.words.rest c.words.place c.words.invariant c.in-None.ensures

pub returns-in_err-name-in-Some : goal.returns-in_err-name-in-Some
returns-in_err-name-in-Some c =
    let p = err_from_is_err_and c.from_residual.result c.from_residual.ensures.1 in
    rw (p.1, p.2) (names_refused c.args.words.now 4 c.words.names c.words.rest c.words.place c.in-Some.word.now c.in-Some.more _ c.words.invariant c.in-Some.ensures c.in_err-name-in-Some.ensures)

pub overflow_add-place : goal.overflow_add-place
overflow_add-place c = omega (arith, c.words.invariant.counted, ap length c.in-Some.ensures, c.are_countable.ensures)

pub words-preserved : goal.words-preserved
words-preserved c =
    let name = c.in_ok-name-in-Some.ensures in
    rw c.in_ok-push-in-Some.ensures.ok (names_next c.args.words.now 4 c.words.names c.words.rest c.words.place _ c.in_ok-name-in-Some.name c.in-Some.word.now c.in-Some.more refl c.words.invariant c.in-Some.ensures name.0 name.1)

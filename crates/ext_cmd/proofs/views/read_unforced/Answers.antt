use Rattle.std.proofs.Common.{◌∷◌, refl}
use Rattle.std.proofs.lemmas.Result.{err_from_is_err_and}
use Rattle.ext_cmd.specs.Grammar.{HasNoMore, IsBelowRootWord}
use Rattle.ext_cmd.proofs.CommandLemmas.{unforced_refused}
use Rattle.ext_cmd.proofs.FaultLemmas.{then_wrong, then_after}
use Rattle.ext_cmd.proofs.WordLemmas.{some_below_root}
use Rattle.ext_cmd.proofs.views.read_unforced.Goals as goal

pub returns-in_err-path : goal.returns-in_err-path
returns-in_err-path c =
    let p = err_from_is_err_and c.from_residual.result c.from_residual.ensures.1 in
    let word = c.args.word.now in
    let rest = c.args.rest.now in
    rw (p.1, p.2) (unforced_refused word rest _ c.requires (then_wrong IsBelowRootWord HasNoMore word rest (word ∷ rest) 3 _ some_below_root refl c.in_err-path.ensures))

pub returns-in_err-no_more : goal.returns-in_err-no_more
returns-in_err-no_more c =
    let p = err_from_is_err_and c.from_residual-in_err-no_more.result c.from_residual-in_err-no_more.ensures.1 in
    let word = c.args.word.now in
    let rest = c.args.rest.now in
    let path = c.in_ok-path.ensures in
    rw (p.1, p.2) (unforced_refused word rest _ c.requires (then_after IsBelowRootWord HasNoMore word rest (word ∷ rest) 3 4 _ refl (record { value = c.in_ok-path.path; is = path.0; same = path.1 }) refl c.in_err-no_more.ensures))

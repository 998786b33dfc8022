use Rattle.std.proofs.Common.{ℕ, List, refl}
use Rattle.std.proofs.lemmas.Result.{err_from_is_err_and}
use Rattle.ext_cmd.specs.Grammar.{Any, HasNoMore, Then}
use Rattle.ext_cmd.specs.declared.words.CmdErr.TheVariants.{Usage}
use Rattle.ext_cmd.proofs.FaultLemmas.{then_missing, then_after}
use Rattle.ext_cmd.proofs.WordLemmas.{some_text, some_texts}
use Rattle.ext_cmd.proofs.readers.read_compare.Goals as goal

-- any text
abbrev Text : List ℕ → Type 0
Text = Any

pub returns-in-None : goal.returns-in-None
returns-in-None c = then_missing Text (Then Text HasNoMore) c.args.more.now 2 some_texts c.in-None.ensures

pub returns-in-None-next : goal.returns-in-None-next
returns-in-None-next c =
    then_after Text (Then Text HasNoMore) c.in-Some.a.now c.in-Some.more c.args.more.now 2 3 (Usage 3) refl tt c.in-Some.ensures
    (then_missing Text HasNoMore c.in-Some.more 3 some_text c.in-None-next.ensures)

pub returns-in_err-no_more-in-Some-next : goal.returns-in_err-no_more-in-Some-next
returns-in_err-no_more-in-Some-next c =
    let p = err_from_is_err_and c.from_residual.result c.from_residual.ensures.1 in
    rw (p.1, p.2) (then_after Text (Then Text HasNoMore) c.in-Some.a.now c.in-Some.more c.args.more.now 2 3 _ refl tt c.in-Some.ensures
    (then_after Text HasNoMore c.in-Some-next.b.now c.in-Some-next.more c.in-Some.more 3 4 _ refl tt c.in-Some-next.ensures c.in_err-no_more-in-Some-next.ensures))

use Rattle.std.proofs.Common.{Some, not, ap, ◌∙◌}
use Rattle.ext_units.specs.TextSet.{is_one_of}
use Rattle.ext_units.proofs.NameLemmas.{find_same}
use Rattle.ext_units.proofs.prefixes.first_other.Goals as goal

pub returns-in-None : goal.returns-in-None
returns-in-None c =
    c.in-None.ensures
    ∙ find_same (λ text. not (is_one_of c.in_ok-set.set text)) (λ text. not (is_one_of c.args.words.now text)) (λ text. ap not (c.in_ok-set.ensures text)) c.args.texts.now

pub returns : goal.returns
returns c =
    ap Some c.in_ok-copy-in-Some.ensures ∙ c.in-Some.ensures
    ∙ find_same (λ text. not (is_one_of c.in_ok-set.set text)) (λ text. not (is_one_of c.args.words.now text)) (λ text. ap not (c.in_ok-set.ensures text)) c.args.texts.now

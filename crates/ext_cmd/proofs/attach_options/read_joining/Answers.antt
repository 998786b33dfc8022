use Rattle.std.proofs.Common.{sym, ◌∙◌}
use Rattle.std.proofs.lemmas.Bool.{false≢true}
use Rattle.ext_cmd.proofs.OptionWordLemmas.{join_refused}
use Rattle.ext_cmd.proofs.attach_options.read_joining.Goals as goal

pub returns-else-may_join : goal.returns-else-may_join
returns-else-may_join c =
    let option = c.in_ok-option.ensures in
    join_refused c.args.options.now c.in_ok-option.option c.args.word.now c.args.place option.0 option.1
    (λ both. false≢true (sym c.if-may_join.false ∙ c.may_join.ensures.1 both))

use Rattle.std.proofs.Common.{arith, length, sym, ◌∙◌}
use Rattle.std.proofs.lemmas.Bool.{eqb-false}
use Rattle.ext_pattern.proofs.MatchLemmas.{ends_first}
use Rattle.ext_pattern.proofs.following.text_len.Goals as goal

pub returns-else-is_empty : goal.returns-else-is_empty
returns-else-is_empty c =
    let some = eqb-false (length c.args.literal.now) 0 (sym c.is_empty.ensures ∙ c.if-is_empty.false) in
    ends_first c.args.rest.now c.args.literal.now c.first_of.result c.first_of.ensures (omega (arith, some))

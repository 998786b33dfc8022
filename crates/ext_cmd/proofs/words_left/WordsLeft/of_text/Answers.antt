use Rattle.std.proofs.Common.{rules}
use Rattle.ext_cmd.proofs.WordLemmas.{words_few}
use Rattle.ext_cmd.proofs.words_left.WordsLeft.of_text.Goals as goal

pub invariant_of-result : goal.invariant_of-result
invariant_of-result c = words_few c.args.text.now (search rules)

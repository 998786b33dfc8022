use Rattle.ext_mount.proofs.WordLemmas.{found_after}
use Rattle.ext_mount.proofs.words.read_after.Goals as goal

pub returns-in-Some : goal.returns-in-Some
returns-in-Some c = found_after c.args.option.now c.args.word.now c.in-Some.digits.now c.args.most c.read_decimal.result c.in-Some.ensures c.read_decimal.ensures

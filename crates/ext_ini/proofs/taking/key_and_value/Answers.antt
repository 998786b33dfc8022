use Rattle.ext_ini.proofs.TakingLemmas.{split_value}
use Rattle.ext_ini.proofs.taking.key_and_value.Goals as goal

pub returns : goal.returns
returns c = split_value 61 c.args.text.now c.split_at_byte.result c.split_at_byte.ensures

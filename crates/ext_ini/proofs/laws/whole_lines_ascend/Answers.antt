use Rattle.ext_ini.proofs.AscendLemmas.{wholes_ascend}
use Rattle.ext_ini.proofs.laws.whole_lines_ascend.Goals as goal

pub returns : goal.returns
returns c = wholes_ascend

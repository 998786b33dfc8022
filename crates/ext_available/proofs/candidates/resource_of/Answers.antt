use Rattle.ext_available.proofs.NameLemmas.{directory_by}
use Rattle.ext_available.proofs.candidates.resource_of.Goals as goal

pub returns-in-Directory : goal.returns-in-Directory
returns-in-Directory c = directory_by c.args.resources c.args.listed.now c.strip_suffix.result c.in-Directory.is c.if-listed-gt-MOST_BYTES.false c.strip_suffix.ensures.cases

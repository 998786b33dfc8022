use Rattle.ext_text.proofs.PathLemmas.{parts_text, path_injective}
use Rattle.ext_text.proofs.laws.a_text_has_one_path.Goals as goal

pub returns-clause-one : goal.returns-clause-one
returns-clause-one c = path_injective

pub returns-clause-parts : goal.returns-clause-parts
returns-clause-parts c = parts_text

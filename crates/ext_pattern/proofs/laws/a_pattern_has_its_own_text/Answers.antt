use Rattle.ext_pattern.proofs.TextLemmas.{read_is_written, written_is_read}
use Rattle.ext_pattern.proofs.laws.a_pattern_has_its_own_text.Goals as goal

pub returns-clause-text : goal.returns-clause-text
returns-clause-text c = read_is_written

pub returns-clause-pattern : goal.returns-clause-pattern
returns-clause-pattern c = written_is_read

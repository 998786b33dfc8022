use Rattle.ext_index_reader.proofs.LawLemmas.{no_stop, one_reading, one_stop}
use Rattle.ext_index_reader.proofs.laws.lines_are_read_in_one_way.Goals as goal

pub returns-clause-says : goal.returns-clause-says
returns-clause-says c = one_reading

pub returns-clause-stops_nowhere : goal.returns-clause-stops_nowhere
returns-clause-stops_nowhere c = no_stop

pub returns-clause-stops_once : goal.returns-clause-stops_once
returns-clause-stops_once c = one_stop

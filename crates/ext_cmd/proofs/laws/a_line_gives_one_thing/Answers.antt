use Rattle.ext_lines.specs.Words.{words_of}
use Rattle.ext_cmd.proofs.LineLemmas.{nothing_is_none, reads_line_back, reads_one}
use Rattle.ext_cmd.proofs.laws.a_line_gives_one_thing.Goals as goal

pub returns-clause-nothing : goal.returns-clause-nothing
returns-clause-nothing c = nothing_is_none

pub returns-clause-one : goal.returns-clause-one
returns-clause-one c = λ text a b reads also. reads_one (words_of text) a b reads also

pub returns-clause-read : goal.returns-clause-read
returns-clause-read c = λ text command result well line same reads. reads_line_back (words_of text) command result well line same reads

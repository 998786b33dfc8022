use Rattle.ext_pubtaken.proofs.TakenLemmas.{import_takes, imported_files_stand}
use Rattle.ext_pubtaken.proofs.an_import_takes_what_is_published.Goals as goal

pub returns-clause-takes : goal.returns-clause-takes
returns-clause-takes c = import_takes

pub returns-clause-files : goal.returns-clause-files
returns-clause-files c = imported_files_stand

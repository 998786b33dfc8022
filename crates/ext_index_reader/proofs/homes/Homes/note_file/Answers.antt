use Rattle.ext_index_reader.proofs.InOrderLemmas.{agrees}
use Rattle.ext_index_reader.proofs.homes.Homes.note_file.Goals as goal

pub returns-in-Some : goal.returns-in-Some
returns-in-Some c = agrees c.args.self.now c.args.file.now c.in-Some.other c.stamp_at.result c.is_same.result c.stamp_at.ensures.found c.stamp_at.ensures.again c.in-Some.is c.is_same.ensures

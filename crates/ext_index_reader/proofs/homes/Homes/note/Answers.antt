use Rattle.ext_index_reader.proofs.homes.Homes.note.Goals as goal

pub returns-in-File : goal.returns-in-File
returns-in-File c = rw c.in-File.is c.note_file.ensures

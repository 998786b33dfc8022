use Rattle.ext_walk.proofs.leading.directory_at.Goals as goal

pub returns : goal.returns
returns g c = c.only_directory.ensures c.args.names.now (rw c.root.ensures at c.in_ok-end.ensures)

use Rattle.ext_walk.specs.Walk.{parts}
use Rattle.ext_walk.proofs.leading.directory_of_text.Goals as goal

pub returns : goal.returns
returns g c = c.only_directory.ensures (parts c.args.text.now) (rw c.root.ensures at c.in_ok-end.ensures)

use Rattle.std.proofs.Common.{subst}
use Rattle.ext_walk.specs.Leads.{DirectoryAt}
use Rattle.ext_find.proofs.FoundImageLemmas.{none_without_directory}
use Rattle.ext_find.proofs.found_image.picked.Goals as goal

pub returns-in-None : goal.returns-in-None
returns-in-None g c =
    none_without_directory g.C.Measured.size c.args.search.now.base.now c.args.search.now.class c.args.search.now.arch c.args.search.now.hierarchies.now c.pairs-entries.ensures.tree.tree c.args.path.now c.args.stem.now
    (subst (DirectoryAt c.args.search.now.base.now c.args.path.now) c.in-None.is (rw c.names.ensures.same at c.in_ok-directory_at.ensures))

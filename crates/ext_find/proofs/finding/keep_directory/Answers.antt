use Rattle.std.proofs.Common.{subst}
use Rattle.ext_find.specs.Directories.{OpensAt}
use Rattle.ext_find.proofs.KeepsLemmas.{keeps_closed}
use Rattle.ext_find.proofs.finding.keep_directory.Goals as goal

pub returns-in-None : goal.returns-in-None
returns-in-None g c =
    keeps_closed g.C.Measured.size c.args.search.now.base.now c.args.search.now.class c.args.search.now.arch c.args.search.now.hierarchies.now c.args.kept.now c.args.index
    (subst (OpensAt c.args.search.now.base.now c.args.search.now.class c.args.index) c.in-None.is c.in_ok-opened.ensures) c.requires

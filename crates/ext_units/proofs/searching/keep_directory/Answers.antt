use Rattle.std.proofs.Common.{subst}
use Rattle.ext_walk.specs.Leads.{DirectoryAt}
use Rattle.ext_walk.specs.Walk.{parts}
use Rattle.ext_units.proofs.DirectoryLemmas.{past_closed, path_closed}
use Rattle.ext_units.proofs.KeptLemmas.{keeps_closed}
use Rattle.ext_units.proofs.searching.keep_directory.Goals as goal

pub returns-in-None : goal.returns-in-None
returns-in-None g c =
    keeps_closed c.args.search.now.tree.now c.args.search.now.prefixes c.args.kept.now c.args.index (past_closed c.args.search.now.tree.now c.args.index c.in-None.ensures) c.requires

pub returns-in-None-2 : goal.returns-in-None-2
returns-in-None-2 g c =
    keeps_closed c.args.search.now.tree.now c.args.search.now.prefixes c.args.kept.now c.args.index
    (path_closed c.args.search.now.tree.now c.args.index (parts c.in-Some.text.now) c.in-Some.ensures
    (subst (DirectoryAt c.args.search.now.tree.now (parts c.in-Some.text.now)) c.in-None-2.is c.in_ok-directory_of_text-in-Some.ensures)) c.requires

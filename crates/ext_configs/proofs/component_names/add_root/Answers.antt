use Rattle.std.proofs.Common.{subst}
use Rattle.ext_walk.specs.Leads.{DirectoryAt}
use Rattle.ext_walk.specs.Walk.{parts}
use Rattle.ext_configs.specs.Folders.{config_roots}
use Rattle.ext_configs.proofs.FolderLemmas.{past_closed, path_closed}
use Rattle.ext_configs.proofs.ListedLemmas.{lists_closed}
use Rattle.ext_configs.proofs.component_names.add_root.Goals as goal

pub returns-in-None : goal.returns-in-None
returns-in-None g c = lists_closed c.args.base.now c.args.names.now.items c.args.index (past_closed c.args.base.now config_roots c.args.index c.in-None.ensures) c.requires

pub returns-in-None-2 : goal.returns-in-None-2
returns-in-None-2 g c =
    lists_closed c.args.base.now c.args.names.now.items c.args.index
    (path_closed c.args.base.now config_roots c.args.index (parts c.in-Some.text.now) c.in-Some.ensures
    (subst (DirectoryAt c.args.base.now (parts c.in-Some.text.now)) c.in-None-2.is c.in_ok-directory_of_text-in-Some.ensures)) c.requires

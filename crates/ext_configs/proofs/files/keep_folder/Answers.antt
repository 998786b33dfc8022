use Rattle.std.proofs.Common.{subst}
use Rattle.std.specs.Option.{option_copied}
use Rattle.ext_walk.specs.Leads.{DirectoryAt}
use Rattle.ext_walk.specs.Walk.{parts}
use Rattle.ext_configs.specs.Folders.{IsFolderText, config_folders}
use Rattle.ext_configs.proofs.FolderLemmas.{past_closed, path_closed}
use Rattle.ext_configs.proofs.KeptLemmas.{keeps_closed}
use Rattle.ext_configs.proofs.files.keep_folder.Goals as goal

pub returns-in-None : goal.returns-in-None
returns-in-None g c =
    let component = option_copied c.args.search.now.component in
    keeps_closed g.C.Measured.size c.args.search.now.base.now component c.args.search.now.kind c.args.kept.now c.args.index
    (past_closed c.args.search.now.base.now (config_folders component) c.args.index (subst (IsFolderText component c.args.index) c.in-None.is c.in_ok-folder_text.ensures)) c.requires

pub returns-in-None-2 : goal.returns-in-None-2
returns-in-None-2 g c =
    let component = option_copied c.args.search.now.component in
    keeps_closed g.C.Measured.size c.args.search.now.base.now component c.args.search.now.kind c.args.kept.now c.args.index
    (path_closed c.args.search.now.base.now (config_folders component) c.args.index (parts c.in-Some.text) (subst (IsFolderText component c.args.index) c.in-Some.is c.in_ok-folder_text.ensures)
    (subst (DirectoryAt c.args.search.now.base.now (parts c.in-Some.text)) c.in-None-2.is (rw c.bytes.ensures at c.in_ok-directory_of_text-in-Some.ensures))) c.requires

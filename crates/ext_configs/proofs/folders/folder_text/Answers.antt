use Rattle.std.specs.Option.{option_copied}
use Rattle.ext_configs.proofs.FolderLemmas.{folder_below}
use Rattle.ext_configs.proofs.folders.folder_text.Goals as goal

pub returns-in_ok-text_below-in-Some : goal.returns-in_ok-text_below-in-Some
returns-in_ok-text_below-in-Some c =
    folder_below (option_copied c.args.component) c.args.index c.in-Some.root.now c.folder_of.result.now c.in_ok-text_below-in-Some.field-0 c.in-Some.ensures c.folder_of.ensures.part c.in_ok-text_below-in-Some.ensures
